use Rattle.std.proofs.Common.{true, false, sym, ◌∙◌, refl}
use Rattle.std.proofs.lemmas.List.{take_rest}
use Rattle.split_tree.proofs.GroupStretch.{nothing_leads, shared_way, other_way}
use Rattle.split_tree.proofs.grow.branches_of.Goals as goal
use Rattle.split_tree.proofs.grow.branches_of.Goals.{then-positive, else-positive}

pub returns-in-len1-up-clause-positive : goal.returns-in-len1-up-clause-positive
returns-in-len1-up-clause-positive c =
    let group = c.args.group in
    elim c.if-positive.branch [
      | then-positive w ↦ rw (w.result-is, take_rest group.shared.now 1)
          (shared_way group.shared.now group.cubes.items c.next-item.result true
          c.in-len1-up.len_at_least c.next-item.is (sym c.positive.ensures ∙ w.if-positive.true))
      | else-positive w ↦ rw (w.result-is, c.new.ensures.items)
          (other_way group.shared.now group.cubes.items c.next-item.result true
          c.in-len1-up.len_at_least c.next-item.is
          (rw (sym c.positive.ensures ∙ w.if-positive.false) refl))
    ]

pub returns-in-len1-up-clause-negative : goal.returns-in-len1-up-clause-negative
returns-in-len1-up-clause-negative c =
    let group = c.args.group in
    elim c.if-positive.branch [
      | then-positive w ↦ rw (w.result-is, c.new.ensures.items)
          (other_way group.shared.now group.cubes.items c.next-item.result false
          c.in-len1-up.len_at_least c.next-item.is
          (rw (sym c.positive.ensures ∙ w.if-positive.true) refl))
      | else-positive w ↦ rw (w.result-is, take_rest group.shared.now 1)
          (shared_way group.shared.now group.cubes.items c.next-item.result false
          c.in-len1-up.len_at_least c.next-item.is (sym c.positive.ensures ∙ w.if-positive.false))
    ]

pub returns-clause-positive : goal.returns-clause-positive
returns-clause-positive c =
    let group = c.args.group in
    rw (
      nothing_leads group.shared.now group.cubes.items c.in-empty.len_below,
      c.gathered-positive.ensures,
      c.in_ok-cubes_going-in-empty.ensures,
      c.deref.ensures.value,
    ) refl

pub returns-clause-negative : goal.returns-clause-negative
returns-clause-negative c =
    let group = c.args.group in
    rw (
      nothing_leads group.shared.now group.cubes.items c.in-empty.len_below,
      c.gathered-negative.ensures,
      c.in_ok-cubes_going-in-empty-2.ensures,
      c.deref-in-empty.ensures.value,
    ) refl
