-- The section at a place of a case.
use Rattle.std.proofs.Common.{◌≡◌, ◌≢◌, ℕ, zero, suc, ◌<◌, List, [], ◌∷◌, None, Some, length, map}
use Rattle.std.proofs.Common.{get_or, sym, ap, ◌∙◌, arith, inl, inr}
use Rattle.std.proofs.lemmas.Bool.{cases_Bool}
use Rattle.std.proofs.lemmas.List.{get_or-map, length-map}
use Rattle.case_core.specs.Leaves.{HasTarget}
use Rattle.case_core.specs.Leaf.TheVariants.{Cube}
use Rattle.case_core.specs.Target.{Target}
use Rattle.case_core.specs.Target.TheVariants.{Leaf}
use Rattle.case_core.specs.declared.case.Section.{Section}
use Rattle.case_core.specs.Case.{CaseOf, SectionOf, section_at, targets_of, same_target, proof_for}
use Rattle.case_core.specs.Case.{AreSections}
use Rattle.case_core.proofs.CaseTables.{same_target-self}

-- the target of the section at this place has a proof
pub has_proof : (sections : List SectionOf) (place : ℕ) → place < length sections →
    proof_for sections (section_at sections place).target ≢ None
has_proof [] place below none = absurd (omega arith)
has_proof (section ∷ sections) zero below none =
    let clash : Some section.proof ≡ None = rw (same_target-self section.target) at none in cc
has_proof (section ∷ sections) (suc place) below none =
    elim (cases_Bool (same_target section.target (section_at sections place).target)) [
      | inl same ↦ let clash : Some section.proof ≡ None = rw same at none in cc
      | inr other ↦ has_proof sections place (omega arith) (rw other at none)
    ]

-- the place is one of the sections that the case gives, and this is the section there
pub record IsSectionHere (case : CaseOf) (place : ℕ) (target : Target) : Type 0 where
  pub is : (section_at case.sections place).target ≡ target
  pub has_target : HasTarget case.tree target
  pub proof : proof_for case.sections target ≢ None

abbrev target_of : Section → Target
target_of section = section.target

abbrev target_there : SectionOf → Target
target_there section = section.target

-- there are as many as the case has
pub as_many : (case : CaseOf) (sections : List Section)
    → map (λ section. section.target) sections ≡ targets_of case.sections
    → length sections ≡ length case.sections
as_many case sections are =
    sym (length-map sections target_of) ∙ ap (λ (xs : List Target). length xs) are
    ∙ length-map case.sections target_there

-- a section that stands at a place is the one that is found there
pub section_here : (case : CaseOf) (sections : List Section) (place : ℕ) (other : Section)
    → map (λ section. section.target) sections ≡ targets_of case.sections →
    AreSections case.tree case.sections
    → place < length case.sections → IsSectionHere case place (get_or sections place other).target
section_here case sections place other are apart within =
    let below : place < length sections =
    omega (arith, as_many case sections are, within) in
    let none : Target = Leaf (Cube 0) in
    let is : (section_at case.sections place).target ≡ (get_or sections place other).target =
    sym (get_or-map target_there case.sections place _ none within)
    ∙ ap (λ (xs : List Target). get_or xs place none) (sym are)
    ∙ get_or-map target_of sections place other none below in
    record {
      is = is;
      has_target = rw is at (apart place within).0;
      proof = rw is at (has_proof case.sections place within);
    }
