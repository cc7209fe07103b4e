-- The marks while the findings of a case's sections are posted, one after the other.
use Rattle.std.proofs.Common.{◌≡◌, ◌↔◌, ℕ, zero, suc, ◌+◌, ◌<◌, ◌≤◌, List, [], ◌∷◌, ◌++◌, length}
use Rattle.std.proofs.Common.{length-set, take, drop, map, get_or, set, Bool, true}
use Rattle.std.proofs.Common.{false, refl, sym, ap, ◌∙◌, subst, arith, inl, inr, get_or-set_other}
use Rattle.std.proofs.Common.{get_or-set_same, None, Some}
use Rattle.std.proofs.lemmas.Bool.{cases_Bool, cases_eq}
use Rattle.std.proofs.lemmas.List.{take-append-drop, drop_more, take_all, take_more}
use Rattle.std.specs.Prelude.{MatchOption}
use Rattle.case_core.specs.Literal.{Literal}
use Rattle.case_core.specs.Proof.{Proof, IsProofOf}
use Rattle.case_core.specs.Judgement.{judgement}
use Rattle.case_core.specs.Judged.{Judged}
use Rattle.split_tree.specs.SplitTree.{SplitTree, size}
use Rattle.split_tree.specs.Leaves.{IsTargetAt, IsPathOf, HasTarget}
use Rattle.split_tree.specs.declared.node.Target.{Target}
use Rattle.case_core.specs.declared.case.Section.{Section}
use Rattle.mark_board.proofs.BoardsGathered.{target_inside}
use Rattle.case_core.specs.Case.{CaseOf, SectionOf, targets_of, AreSections, section_at, proof_for}
use Rattle.case_core.specs.Case.{same_target}
use Rattle.case_core.specs.Finding.{IsFinding}
use Rattle.case_core.proofs.CaseTables.{same_target-true, same_target-self, one_target, none_from}
use Rattle.case_core.proofs.CaseTables.{proof_added, proof_kept}
use Rattle.check_crew.proofs.SeenSections as places
use Rattle.check_crew.proofs.SeenSections.{IsSectionHere, as_many}
use Rattle.mark_board.specs.declared.mark.Mark.{Mark}
use Rattle.mark_board.specs.declared.mark.Mark.TheVariants.{Open}
use Rattle.mark_board.specs.Marking.{mark_at}
use Rattle.mark_board.specs.Findings.{mark_as, AreFindings}
use Rattle.mark_board.specs.Boards.{marks_with}

-- the mark of a proof's judgement from the target's path
abbrev pub IsMark : CaseOf → Target → Mark → List ℕ → Type 0
IsMark case target mark text =
    (path : List Literal) (proof : Proof) → IsPathOf case.tree target path → IsProofOf text proof →
    mark ≡ mark_as (judgement case.formula path proof)

-- the findings of these sections are posted
pub record ArePostedOf (case : CaseOf) (done : List SectionOf) (marks : List Mark) : Type 0 where
  pub long : length marks ≡ size case.tree
  pub each : (node : ℕ) (target : Target) → IsTargetAt case.tree node target →
      MatchOption (proof_for done target) (mark_at marks node ≡ Open)
      (IsMark case target (mark_at marks node))

-- the findings of all sections are posted
pub all_posted : (case : CaseOf) (sections : List Section) (i : ℕ) (marks : List Mark) →
    map (λ s. s.target) sections ≡ targets_of case.sections → length sections ≤ i →
    ArePostedOf case (take i case.sections) marks → AreFindings case marks
all_posted case sections i marks targets behind p =
    let long = as_many case sections targets in
    let whole : take i case.sections ≡ case.sections =
    take_all i case.sections (omega (arith, long, behind)) in
    let all : ArePostedOf case case.sections marks = rw whole at p in
    record { long = all.long; each = all.each }

-- ---- the next section

first_of : (front : List SectionOf) (s : SectionOf) (rest : List SectionOf) →
    section_at (front ++ s ∷ rest) (length front) ≡ s
first_of [] s rest = refl
first_of (x ∷ front) s rest = first_of front s rest

before_it : (front : List SectionOf) (rest : List SectionOf) (j : ℕ) → j < length front →
    section_at (front ++ rest) j ≡ section_at front j
before_it [] rest j l = absurd (omega arith)
before_it (x ∷ front) rest zero l = refl
before_it (x ∷ front) rest (suc j) l = before_it front rest j (omega arith)

-- no earlier section is for its target
pub new_target : (tree : SplitTree) (front : List SectionOf) (s : SectionOf)
    (rest : List SectionOf) → AreSections tree (front ++ s ∷ rest) →
    length front < length (front ++ s ∷ rest) →
    HasTarget tree s.target × (proof_for front s.target ≡ None)
new_target tree front s rest h l =
    let a = h (length front) l in
    let here : section_at (front ++ s ∷ rest) (length front) ≡ s = first_of front s rest in (
      rw here at a.0,
      none_from front s.target (λ j k. rw (here, before_it front (s ∷ rest) j k) at (a.1 j k)),
    )

-- and it is the one for its target
pub its_proof : (front : List SectionOf) (s : SectionOf) (rest : List SectionOf) →
    proof_for front s.target ≡ None → proof_for (front ++ s ∷ rest) s.target ≡ Some s.proof
its_proof [] s rest none = rw (same_target-self s.target) refl
its_proof (t ∷ front) s rest none = elim (cases_Bool (same_target t.target s.target)) [
  | inl same ↦ let clash : Some t.proof ≡ None = rw same at none in cc
  | inr other ↦ rw other (its_proof front s rest (rw other at none))
]

pub one_more_posted : (case : CaseOf) (front : List SectionOf) (s : SectionOf)
    (rest : List SectionOf) (old new : List Mark) (node : ℕ) (judged : Judged) (posted : Bool) →
    case.sections ≡ front ++ s ∷ rest → proof_for front s.target ≡ None →
    ArePostedOf case front old → IsTargetAt case.tree node s.target →
    ((i : ℕ) → IsTargetAt case.tree i s.target → i ≡ node) → node < size case.tree →
    IsFinding case s.target judged →
    ((posted ≡ true) ↔ (mark_at old node ≡ Open)) →
    new ≡ marks_with posted old node (mark_as judged) →
    ArePostedOf case (front ++ s ∷ []) new
one_more_posted case front s rest old new node judged posted whole none p here only within is free e
    =
    let open_there : mark_at old node ≡ Open = rw none at (p.each node s.target here) in
    let set_there : new ≡ set old node (mark_as judged) =
    e ∙ ap (λ (b : Bool). marks_with b old node (mark_as judged)) (free.1 open_there) in
    record {
      long = ap length set_there ∙ (length-set old node (mark_as judged) ∙ p.long);
      each = λ i target at. elim (cases_eq i node) [
        | inl same ↦
            let target_is : target ≡ s.target =
            one_target case.tree node target s.target (rw same at at) here in
            let mark_is : mark_at new i ≡ mark_as judged =
            ap (λ (xs : List Mark). mark_at xs i) set_there
            ∙ (ap (mark_at (set old node (mark_as judged))) same
            ∙ get_or-set_same old node (mark_as judged) Open (omega (arith, p.long))) in
            let found : proof_for case.sections s.target ≡ Some s.proof =
            rw whole (its_proof front s rest none) in
            rw (target_is, proof_added front s none)
            (λ path proof of of_text. mark_is ∙ ap mark_as (is path s.proof proof of found of_text))
        | inr other ↦
            let apart : same_target s.target target ≡ false =
            elim (cases_Bool (same_target s.target target)) [
              | inl same ↦ absurd (other (only i (rw (same_target-true s.target target same) at)))
              | inr ne ↦ ne
            ] in
            let mark_is : mark_at new i ≡ mark_at old i =
            ap (λ (xs : List Mark). mark_at xs i) set_there
            ∙ get_or-set_other old node i (mark_as judged) Open other in
            rw (proof_kept front s target apart, mark_is) (p.each i target at)
      ];
    }

-- ---- the section at an index of the case's list

-- the section of the case that stands at an index, between those before it and the others
record SectionHere (case : CaseOf) (i : ℕ) (section : Section) : Type 0 where
  here : SectionOf
  rest : List SectionOf
  target_is : here.target ≡ section.target
  whole : case.sections ≡ take i case.sections ++ here ∷ rest
  more : take (i + 1) case.sections ≡ take i case.sections ++ here ∷ []

module _ (case : CaseOf) (sections : List Section) (i : ℕ) (section : Section)
    (targets : map (λ s. s.target) sections ≡ targets_of case.sections)
    (are : AreSections case.tree case.sections)
    (within : i < length sections) (item : section ≡ get_or sections i section) where
  inside : i < length case.sections
  inside = omega (arith, as_many case sections targets, within)

  there : IsSectionHere case i section.target
  there =
      subst (λ (s : Section). IsSectionHere case i s.target) (sym item)
      (places.section_here case sections i section targets are inside)

  section_here : SectionHere case i section
  section_here =
      let xs = case.sections in
      let at : SectionOf = section_at xs i in
      record {
        here = at;
        rest = drop (i + 1) xs;
        target_is = there.is;
        whole = sym (take-append-drop i xs)
            ∙ ap (λ (ys : List SectionOf). take i xs ++ ys) (drop_more xs i _ inside);
        more = take_more xs i _ inside;
      }

  -- a section's target is one of the tree's
  pub section_target : HasTarget case.tree section.target
  section_target = there.has_target

  -- a section's target has a proof
  pub section_none : proof_for case.sections section.target ≡ None → ⊥
  section_none none = there.proof none

  front_shorter : (front : List SectionOf) (s : SectionOf) (rest : List SectionOf)
      → length front < length (front ++ s ∷ rest)
  front_shorter [] s rest = omega arith
  front_shorter (x ∷ front) s rest = let r = front_shorter front s rest in omega (arith, r)

  -- no section before it is for its target
  new_here : proof_for (take i case.sections) section_here.here.target ≡ None
  new_here =
      let h = section_here in
      (new_target case.tree (take i case.sections) h.here h.rest (rw h.whole at are)
      (front_shorter (take i case.sections) h.here h.rest)).1

  -- the finding of one more section is posted
  pub one_turn : (old new : List Mark) (node : ℕ) (target : Target) (judged : Judged)
      (posted : Bool)
      → ArePostedOf case (take i case.sections) old → target ≡ section.target →
      IsTargetAt case.tree node target
      → ((j : ℕ) → IsTargetAt case.tree j target → j ≡ node) → IsFinding case target judged
      → ((posted ≡ true) ↔ (mark_at old node ≡ Open)) →
      new ≡ marks_with posted old node (mark_as judged)
      → ArePostedOf case (take (i + 1) case.sections) new
  one_turn old new node target judged posted p same at only is free marks =
      let h = section_here in
      let here : target ≡ h.here.target = same ∙ sym h.target_is in
      rw h.more (one_more_posted case (take i case.sections) h.here h.rest old new node judged
      posted h.whole new_here p
      (rw here at at) (rw here at only) (target_inside case.tree node target at) (rw here at is)
      free marks)
