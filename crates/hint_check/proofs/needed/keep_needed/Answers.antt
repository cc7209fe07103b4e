use Rattle.std.proofs.Common.{sym, ◌∙◌, arith}
use Rattle.std.proofs.lemmas.List.Filters.{FiltersInPlace-all, FiltersInPlace-more_no}
use Rattle.std.proofs.lemmas.List.Filters.{FiltersInPlace-more_set}
use Rattle.hint_check.specs.Inner.Assignment.{set_of}
use Rattle.hint_check.proofs.AdditionGroups.{filter-NamesNeeded}
use Rattle.hint_check.proofs.needed.keep_needed.Goals as goal
use Rattle.hint_check.proofs.needed.keep_needed.Goals.{then-branch, else-branch}

pub loop-place-preserved : goal.loop-place-preserved
loop-place-preserved c =
    elim c.if-branch.branch [
      | then-branch w ↦
          rw (w.ids-is, w.kept-is)
          (FiltersInPlace-more_set c.loop-place.invariant (omega (arith, c.loop-place-test.true))
          (sym c.in_ok-is_needed.ensures ∙ w.if-branch.true) c.index-id.ensures)
      | else-branch w ↦
          rw (w.ids-is, w.kept-is)
          (FiltersInPlace-more_no c.loop-place.invariant (omega (arith, c.loop-place-test.true))
          (sym c.in_ok-is_needed.ensures ∙ w.if-branch.false) c.index-id.ensures)
    ]

pub returns : goal.returns
returns c =
    filter-NamesNeeded c.args.live.now.0 (set_of c.args.reached.now) c.args.pivot
    c.args.ids.now.items
    c.truncate.new.self.items c.requires
    (c.truncate.ensures.items ∙ FiltersInPlace-all c.loop-place.invariant (omega arith))
