-- The sections and the findings of targets where sections are added, and where proofs have line
-- ends behind them.
use Rattle.std.proofs.Common.{◌≡◌, sym, subst, ℕ, List, [], ◌∷◌, Option, None, Some, inl, inr}
use Rattle.std.proofs.Common.{MatchOption, true, false, ◌++◌, refl}
use Rattle.std.proofs.lemmas.Bool.{cases_Bool}
use Rattle.case_core.specs.Literal.{Literal}
use Rattle.case_core.specs.Proof.{Proof, IsProofOf}
use Rattle.case_core.specs.Judgement.{judgement}
use Rattle.case_core.specs.SplitTree.{SplitTree}
use Rattle.case_core.specs.Leaves.{IsPathOf}
use Rattle.case_core.specs.Target.{Target}
use Rattle.case_core.specs.Case.{CaseOf, SectionOf, proof_for, same_target}
use Rattle.mark_board.specs.declared.mark.Mark.{Mark}
use Rattle.mark_board.specs.declared.mark.Mark.TheVariants.{Open}
use Rattle.mark_board.specs.Findings.{AreFindings, mark_as}
use Rattle.proof_folder.specs.Added.{IsAlmost, AreAlmost}
use Rattle.proof_folder.proofs.AddedLines.{almost_proof}

-- ---- sections behind others

-- the section of a target is the first one for it
pub proof_first : (one other : List SectionOf) (target : Target) (text : List ℕ)
    → proof_for one target ≡ Some text → proof_for (one ++ other) target ≡ Some text
proof_first [] other target text is = absurd (cc)
proof_first (s ∷ one) other target text is = elim (cases_Bool (same_target s.target target)) [
  | inl same ↦ rw same (rw same at is)
  | inr apart ↦ rw apart (proof_first one other target text (rw apart at is))
]

pub proof_second : (one other : List SectionOf) (target : Target)
    → proof_for one target ≡ None → proof_for (one ++ other) target ≡ proof_for other target
proof_second [] other target none = refl
proof_second (s ∷ one) other target none = elim (cases_Bool (same_target s.target target)) [
  | inl same ↦ let clash : Some s.proof ≡ None = rw same at none in absurd (cc)
  | inr apart ↦ rw apart (proof_second one other target (rw apart at none))
]

-- ---- sections with line ends behind them

-- no text, or texts that differ by line ends alone
abbrev pub AlmostTexts : Option (List ℕ) → Option (List ℕ) → Type 0
AlmostTexts None None = Unit {0}
AlmostTexts (Some text) (Some longer) = IsAlmost text longer
AlmostTexts None (Some longer) = ⊥
AlmostTexts (Some text) None = ⊥

pub almost_for : (one other : List SectionOf) (target : Target) → AreAlmost one other →
    AlmostTexts (proof_for one target) (proof_for other target)
almost_for [] [] target almost = tt
almost_for [] (y ∷ other) target almost = absurd almost
almost_for (x ∷ one) [] target almost = absurd almost
almost_for (x ∷ one) (y ∷ other) target almost =
    elim (cases_Bool (same_target x.target target)) [
      | inl same ↦
          let there : same_target y.target target ≡ true =
          subst (λ (t : Target). same_target t target ≡ true) almost.0 same in
          rw (same, there) almost.1
      | inr apart ↦
          let there : same_target y.target target ≡ false =
          subst (λ (t : Target). same_target t target ≡ false) almost.0 apart in
          rw (apart, there) (almost_for one other target almost.2)
    ]

-- a text's mark is that of the text with line ends behind it
mark_almost : (tree : SplitTree) (formula : List (List Literal)) (target : Target) (mark : Mark)
    (one other : Option (List ℕ)) → AlmostTexts one other
    → MatchOption one (mark ≡ Open) (λ text. (path : List Literal) (proof : Proof) →
    IsPathOf tree target path → IsProofOf text proof
    → mark ≡ mark_as (judgement formula path proof))
    → MatchOption other (mark ≡ Open) (λ text. (path : List Literal) (proof : Proof) →
    IsPathOf tree target path → IsProofOf text proof
    → mark ≡ mark_as (judgement formula path proof))
mark_almost tree formula target mark None None almost is = is
mark_almost tree formula target mark None (Some longer) almost is = absurd almost
mark_almost tree formula target mark (Some text) None almost is = absurd almost
mark_almost tree formula target mark (Some text) (Some longer) almost is =
    λ path proof of of_text. is path proof of (almost_proof text longer proof almost of_text)

pub findings_almost : (formula : List (List Literal)) (tree : SplitTree)
    (one other : List SectionOf) (marks : List Mark) → AreAlmost one other
    → AreFindings (record { formula = formula; tree = tree; sections = one }) marks
    → AreFindings (record { formula = formula; tree = tree; sections = other }) marks
findings_almost formula tree one other marks almost are = record {
  long = are.long;
  each = λ node target at.
      mark_almost tree formula target _ (proof_for one target) (proof_for other target)
      (almost_for one other target almost) (are.each node target at);
}

pub findings_without_line_ends : (case whole : CaseOf) (sections : List SectionOf)
    (marks : List Mark) → whole.formula ≡ case.formula → whole.tree ≡ case.tree
    → AreAlmost sections whole.sections
    → AreFindings (record { formula = case.formula; tree = case.tree; sections = sections }) marks
    → AreFindings whole marks
findings_without_line_ends case whole sections marks formula tree almost are =
    findings_almost whole.formula whole.tree sections whole.sections marks almost
    (subst (λ (f : List (List Literal)).
    AreFindings (record { formula = f; tree = whole.tree; sections = sections }) marks)
    (sym formula)
    (subst (λ (t : SplitTree).
    AreFindings (record { formula = case.formula; tree = t; sections = sections }) marks) (sym tree)
    are))
