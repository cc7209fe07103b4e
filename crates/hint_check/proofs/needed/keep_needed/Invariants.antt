use Rattle.std.proofs.lemmas.List.Filters.{FiltersInPlace}
use Rattle.hint_check.specs.Inner.Assignment.{set_of}
use Rattle.hint_check.specs.Inner.Needed.{is_needed}
use Rattle.hint_check.proofs.needed.keep_needed.Given as goal

abbrev pub invariant-loop-place : goal.invariant-loop-place
invariant-loop-place l =
    FiltersInPlace (is_needed l.live.0 (set_of l.reached) l.pivot) l.fn.ids.items l.ids.items l.kept
    l.place
