use Rattle.std.proofs.Common.{◌≡◌, ◌∙◌, ap, subst, sym}
use Rattle.byte_flow.specs.Device.{GrewBy}
use Rattle.case_core.specs.Case.{CaseOf}
use Rattle.case_core.specs.Label.{IsTargetOf, label_name}
use Rattle.case_core.specs.SplitTree.{SplitTree}
use Rattle.case_core.specs.Tokens.{words}
use Rattle.check_crew.specs.WhileRead.{IsReadRefused}
use Rattle.check_crew.specs.declared.fault.ReadFault.TheVariants.{Case}
use Rattle.check_crew.proofs.WhileRead.{label_refused, twice_refused}
use Rattle.check_crew.proofs.WhileReadMarks.{told_as}
use Rattle.check_crew.proofs.reader.Reader.read_labelled.Goals as goal

pub returns-in_err-target-clause-refused : goal.returns-in_err-target-clause-refused
returns-in_err-target-clause-refused g c =
    let kind = c.in_err-target.field-0.0 in
    let tree : c.args.self.now.kept.boards.case.tree ≡ c.args.self.now.site.case.now.tree =
    ap (λ (k : CaseOf). k.tree)
    (c.requires.reader.boards ∙ sym c.requires.reader.site.of_case) in
    told_as c.from_residual.result _ (Case kind) c.from_residual.ensures.1
    (λ icnf begun start below.
    label_refused c.args.self.now.kept.boards c.args.self.now.kept.given.items icnf
    (GrewBy (g.S.Stream.gives start) begun)
    (g.S.Stream.gives c.args.source.now) c.args.text.now c.args.label.now.line.items
    c.args.label.now.lines kind c.has_text.ensures below (λ some done text behind whole is of.
    c.in_err-target.ensures.fault some done text behind whole is (of ∙ tree)))

pub returns-then-is_named-clause-refused : goal.returns-then-is_named-clause-refused
returns-then-is_named-clause-refused g c = λ icnf begun start below.
    let tree : c.args.self.now.site.case.now.tree ≡ c.args.self.now.kept.boards.case.tree =
    ap (λ (k : CaseOf). k.tree)
    (c.requires.reader.site.of_case ∙ sym c.requires.reader.boards) in
    subst (IsReadRefused icnf (GrewBy (g.S.Stream.gives start) begun)) (sym c.from.ensures)
    (twice_refused c.args.self.now.kept.boards c.args.self.now.kept.given.items icnf
    (GrewBy (g.S.Stream.gives start) begun)
    (g.S.Stream.gives c.args.source.now) c.args.text.now c.args.label.now.line.items
    c.args.label.now.lines c.twice.result c.in_ok-target.target c.has_text.ensures below
    (subst (λ (t : SplitTree). IsTargetOf t (label_name (words c.args.label.now.line.items))
    c.in_ok-target.target) tree c.in_ok-target.ensures.named)
    (c.is_named.ensures.named c.if-is_named.true below.read.done below.read.marks)
    c.twice.ensures)

pub returns-clause-read : goal.returns-clause-read
returns-clause-read g c = λ icnf begun start below.
    let tree : c.args.self.now.site.case.now.tree ≡ c.args.self.now.kept.boards.case.tree =
    ap (λ (k : CaseOf). k.tree)
    (c.requires.reader.site.of_case ∙ sym c.requires.reader.boards) in
    c.in_ok-read_section.ensures.read icnf begun start (record {
      line = c.args.label.now.line.items;
      lines = c.args.label.now.lines;
      label = below;
      named =
          subst (λ (t : SplitTree). IsTargetOf t (label_name (words c.args.label.now.line.items))
          c.in_ok-target.target) tree c.in_ok-target.ensures.named;
      free =
          c.is_named.ensures.free c.if-is_named.false below.read.done below.read.marks;
    })
