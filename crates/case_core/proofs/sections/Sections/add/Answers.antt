use Rattle.std.proofs.Common.{◌≤◌, map, arith, refl, sym, ap, ◌∙◌}
use Rattle.std.proofs.lemmas.List.{get_or_read, map-append}
use Rattle.split_tree.specs.SplitTree.{size}
use Rattle.case_core.specs.Case.{section_in}
use Rattle.case_core.proofs.BundleCuts.{part_below}
use Rattle.case_core.proofs.CaseTables.{kept_pushed, few_pushed}
use Rattle.case_core.proofs.sections.Sections.add.Goals as goal

pub overflow_cast-len : goal.overflow_cast-len
overflow_cast-len c =
    let few : c.len.result ≤ size c.args.tree.now =
    few_pushed _ c.args.bundle.now _ _ _ _ _ _ _ c.requires.kept c.in_ok-push.ensures.items
    (c.len.ensures
    ∙ c.push.new.self.ok.0) c.index-node.ensures.value
    (sym (get_or_read c.args.self.now.places.items c.index-node.result c.index.result.now
    (omega (
      arith,
      c.requires.kept.tabled.long,
      c.node_of_target.ensures.within,
      c.index-node.ensures.value,
    )) c.index.ensures 0) ∙ c.if-index-ne0.false)
    c.node_of_target.ensures.within c.node_of_target.ensures.here c.node_of_target.ensures.only in
    omega (arith, few, c.size-nodes.ensures, c.size-nodes.type_inv)

pub returns-clause-kept : goal.returns-clause-kept
returns-clause-kept c =
    kept_pushed _ c.args.bundle.now _ _ _ _ _ _ _ c.requires.kept c.in_ok-push.ensures.items
    (c.len.ensures
    ∙ c.push.new.self.ok.0) c.index-node.ensures.value
    (sym (get_or_read c.args.self.now.places.items c.index-node.result c.index.result.now
    (omega (
      arith,
      c.requires.kept.tabled.long,
      c.node_of_target.ensures.within,
      c.index-node.ensures.value,
    )) c.index.ensures 0) ∙ c.if-index-ne0.false)
    c.node_of_target.ensures.within c.node_of_target.ensures.here c.node_of_target.ensures.only

pub returns-clause-added : goal.returns-clause-added
returns-clause-added c =
    let text = c.args.bundle.now in
    let old = c.args.self.now.sections.items in
    record {
      section = section_in text _;
      target = c.in-Ok.ensures.ok;
      text =
          part_below text c.args.text.now c.args.line.now c.args.proof.now _ c.requires.ends refl
          c.requires.place;
      added =
          ap (map (section_in text)) c.in_ok-push.ensures.items
          ∙ map-append (section_in text) old _;
    }
