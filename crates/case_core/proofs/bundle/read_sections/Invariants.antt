use Rattle.std.proofs.Common.{ℕ, ◌+◌, List, map, length, MatchOption, Option, Bor, None, Some}
use Rattle.case_core.specs.Case.{section_in}
use Rattle.case_core.specs.Bundle.{labels_of}
use Rattle.case_core.specs.Inner.Sections.{AreKept, LabelAt}
use Rattle.case_core.specs.Sections.{AreSectionsOf}
use Rattle.case_core.proofs.bundle.read_sections.Given as goal

abbrev pub invariant-loop-next : goal.invariant-loop-next
invariant-loop-next l = record {
  kept : AreKept l.tree (map (section_in l.bundle) l.sections.sections.items)
      l.sections.places.items;
  read : MatchOption l.next
      (AreSectionsOf l.tree (labels_of l.bundle)
      (map (section_in l.bundle) l.sections.sections.items))
      (λ at. LabelAt l.tree l.bundle (map (section_in l.bundle) l.sections.sections.items) at.now);
}

abbrev pub left : Option (Bor (List ℕ)) → ℕ
left None = 0
left (Some text) = length text.now + 1

abbrev pub decreases-loop-next : goal.decreases-loop-next
decreases-loop-next l = left l.next
