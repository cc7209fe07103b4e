-- What a report says of the formula.
use Rattle.std.proofs.Common.{◌≡◌, ℕ, Bool, true, false, List, [], ◌∷◌, ◌++◌, length, append-nil}
use Rattle.std.proofs.Common.{append_assoc, arith, refl, sym, ◌∙◌, subst, Option, None, Some}
use Rattle.std.proofs.Common.{IfSome, Result, Ok, Err, IfOk, IfErr, IsErrAnd, OnErr}
use Rattle.std.specs.Prelude.{codes}
use Rattle.case_core.specs.Formula.{IsRefuted}
use Rattle.case_core.proofs.IcnfUnique.{text_of}
use Rattle.split_tree.specs.SplitTree.{subtrees, total}
use Rattle.split_tree.specs.Leaves.{missing_nodes, cube_count}
use Rattle.case_core.specs.Bundle.{icnf_text}
use Rattle.case_core.specs.Case.{CaseOf}
use Rattle.case_core.specs.Sections.{IsCaseOf}
use Rattle.mark_board.specs.Marking.{refuted_by, marked, open_weight, open_branches}
use Rattle.mark_board.specs.TopPlaces.{worth_of}
use Rattle.run_terms.specs.declared.fault.Fault.{Fault}
use Rattle.run_terms.specs.Faults.{IsInputFault}
use Rattle.node_fields.specs.Fields.{answer_line}
use Rattle.cube_report.specs.Report.{total_line, cube_lines, missing_lines, node_lines, open_lines}
use Rattle.cube_report.specs.Report.{weight_line}
use Rattle.mark_board.specs.declared.mark.Mark.{Mark}
use Rattle.mark_board.specs.Findings.{AreFindings}
use Rattle.cube_report.specs.Stated.{IsStated, IsWrittenBy}
use Rattle.cube_report.specs.Correct.{IsCorrect, IsOutcome, SaysRefuted, IsUnsatisfiable, IsFaultOn}
use Rattle.cube_report.specs.Correct.{IsReportOn}

no_nil : (ys : List ℕ) (b : ℕ) → [] ≡ ys ++ b ∷ [] → ⊥
no_nil [] b e = cc
no_nil (y ∷ ys) b e = cc

-- lists that end in one element and are equal
last_same : (xs ys : List ℕ) (a b : ℕ) → xs ++ a ∷ [] ≡ ys ++ b ∷ [] → (xs ≡ ys) × (a ≡ b)
last_same [] [] a b e = (refl, cc)
last_same [] (y ∷ ys) a b e = let rest : [] ≡ ys ++ b ∷ [] = cc in absurd (no_nil ys b rest)
last_same (x ∷ xs) [] a b e = let rest : [] ≡ xs ++ a ∷ [] = cc in absurd (no_nil xs a rest)
last_same (x ∷ xs) (y ∷ ys) a b e =
    let rest : xs ++ a ∷ [] ≡ ys ++ b ∷ [] = cc in
    let head : x ≡ y = cc in
    let both = last_same xs ys a b rest in
    let tail : xs ≡ ys = both.0 in (cc, both.1)

abbrev open_front : List ℕ
open_front = 115 ∷ 32 ∷ 79 ∷ 80 ∷ 69 ∷ []

abbrev refuted_front : List ℕ
refuted_front = 115 ∷ 32 ∷ 82 ∷ 69 ∷ 70 ∷ 85 ∷ 84 ∷ 69 ∷ []

no_way : (a b : ℕ) → a ≡ 78 → b ≡ 68 → a ≡ b → ⊥
no_way a b p q e = omega arith

open_is_not_refuted : (xs ys : List ℕ) → xs ++ codes "s OPEN\n" ≡ ys ++ codes "s REFUTED\n" → ⊥
open_is_not_refuted xs ys e =
    let outer : ((xs ++ open_front) ++ 78 ∷ []) ++ 10 ∷ []
    ≡ ((ys ++ refuted_front) ++ 68 ∷ []) ++ 10 ∷ [] =
    simp append_assoc e in
    let inner =
    last_same ((xs ++ open_front) ++ 78 ∷ []) ((ys ++ refuted_front) ++ 68 ∷ []) 10 10 outer in
    let ends = last_same (xs ++ open_front) (ys ++ refuted_front) 78 68 inner.0 in
    no_way 78 68 refl refl ends.1

-- a text that ends with the answer's line says refuted only where the answer is so
answer_says : (text : List ℕ) (refuted : Bool) → SaysRefuted (text ++ answer_line refuted) →
    refuted ≡ true
answer_says text true says = refl
answer_says text false says = absurd (open_is_not_refuted text says.0 says.1)

-- the text before its last part
last_part : (a b c d e f g : List ℕ) →
    (front : List ℕ) × (a ++ b ++ c ++ d ++ e ++ f ++ g ≡ front ++ g)
last_part a b c d e f g = (a ++ b ++ c ++ d ++ e ++ f, sym (simp append_assoc refl))

-- what holds of the bytes that were read holds of those that there were
pub of_known : (P : List ℕ → Type 0) (known : Option (List ℕ)) (read : List ℕ) →
    IfSome known (λ left. read ≡ left) → P read → IfSome known P
of_known P None read same holds = tt
of_known P (Some left) read same holds = subst P same holds

-- a report that says refuted has the answer true
pub outcome_says : (bundle text : List ℕ) (answer : Bool) → IsCorrect bundle text answer →
    SaysRefuted text → answer ≡ true
outcome_says bundle text answer outcome says =
    let ends =
    last_part (total_line (cube_count outcome.case.tree) (length (missing_nodes outcome.case.tree))
    (total 0 outcome.case.tree))
    (cube_lines outcome.case.tree outcome.marks 1 (cube_count outcome.case.tree))
    (missing_lines outcome.case.tree outcome.marks 1 (missing_nodes outcome.case.tree))
    (node_lines outcome.case.tree outcome.marks 0 (subtrees outcome.case.tree))
    (open_lines outcome.case.tree (open_branches (refuted_by outcome.marks) 0 outcome.case.tree))
    (weight_line
    (open_weight (worth_of outcome.case.tree) (refuted_by outcome.marks) 0 outcome.case.tree))
    (answer_line (marked (refuted_by outcome.marks) 0 outcome.case.tree)) in
    outcome.refuted
    ∙ answer_says ends.0 (marked (refuted_by outcome.marks) 0 outcome.case.tree)
    (says.0, sym ends.1 ∙ (sym outcome.text ∙ says.1))

-- a fault that is told is this one
pub told : {X : Type 0} (r : Result X Fault) (P : Fault → Type 0) (fault : Fault) →
    IsErrAnd r (λ e. e ≡ fault) → P fault → IfErr r P
told (Ok x) P fault h p = tt
told (Err e) P fault h p = subst P (sym h) p

-- what is written of boards that have the marks of a case's findings is stated of the case
pub stated : (case of : CaseOf) (marks : List Mark) (draws : Bool) (report map : List ℕ)
    (answer : Bool) → of ≡ case → AreFindings case marks
    → IsWrittenBy of marks draws report map answer → IsStated case draws report map answer
stated case of marks draws report map answer same findings written =
    let here : IsWrittenBy case marks draws report map answer =
    subst (λ (k : CaseOf). IsWrittenBy k marks draws report map answer) same written in record {
      marks = marks;
      findings = findings;
      text = here.text;
      drawn = here.drawn;
      refuted = here.refuted;
      sound = here.sound;
    }

-- the formula of a case that is refuted without any literal has no model, and it is the bundle's
pub unsatisfiable : (bundle : List ℕ) (case : CaseOf) → IsCaseOf bundle case →
    IsRefuted case.formula [] → IsUnsatisfiable bundle
unsatisfiable bundle case is refuted =
    let text = text_of (icnf_text bundle) is.items is.text in
    (case.formula, (is.items, text, is.formula), rw append-nil at refuted)

-- what is said of the case that a bundle stands for is what a run on the bundle promises
pub correct : (bundle : List ℕ) (case : CaseOf) (draws : Bool) (report map : List ℕ)
    (answer : Bool) → IsCaseOf bundle case → IsStated case draws report map answer →
    IsCorrect bundle report answer
correct bundle case draws report map answer is stated = record {
  case = case;
  marks = stated.marks;
  judged = record { case_is = is; findings = stated.findings };
  text = stated.text;
  refuted = stated.refuted;
  sound = λ says. unsatisfiable bundle case is (stated.sound says);
}

-- and the picture is by the same marks
pub outcome : (bundle : List ℕ) (case : CaseOf) (draws : Bool) (report map : List ℕ)
    (answer : Bool) → IsCaseOf bundle case → IsStated case draws report map answer →
    IsOutcome bundle draws report map answer
unfolding correct
outcome bundle case draws report map answer is stated = record {
  correct = correct bundle case draws report map answer is stated;
  drawn = stated.drawn;
}

-- what a run writes is the report on the bundle
pub report_on : (bundle report : List ℕ) (answer : Bool) → IsCorrect bundle report answer →
    IsReportOn bundle report
report_on bundle report answer correct =
    (correct.case, correct.marks, correct.judged, correct.text)

-- what a run answers for bytes is what it answers for the bytes that were read
pub sound_of : (known : Option (List ℕ)) (read : List ℕ) (result : Result Bool Fault)
    → IfSome known (λ left. read ≡ left)
    → IfOk result (λ answer. answer ≡ true → IsUnsatisfiable read)
    → IfOk result (λ answer. answer ≡ true → IfSome known IsUnsatisfiable)
sound_of known read (Ok answer) is h = λ says. of_known IsUnsatisfiable known read is (h says)
sound_of known read (Err fault) is h = tt

-- where all of an input was read, the fault of what was read is the input's
pub fault_of : (known : Option (List ℕ)) (read : List ℕ) (result : Result Bool Fault)
    → IfSome known (λ left. read ≡ left)
    → IfErr result (λ fault. IsInputFault fault → IsFaultOn read fault)
    → IfErr result (λ fault. IsInputFault fault → IfSome known (λ input. IsFaultOn input fault))
fault_of known read (Ok answer) is h = tt
fault_of known read (Err fault) is h =
    λ input. of_known (λ b. IsFaultOn b fault) known read is (h input)

-- what was begun for bytes was begun for the bytes that were read
pub begun_of : (Failed : Type 0) (P : List ℕ → Type 0) (known : Option (List ℕ)) (read : List ℕ)
    (result : Result Bool Fault)
    → IfSome known (λ left. read ≡ left) → OnErr result (Failed → P read)
    → OnErr result (IfSome known (λ input. Failed → P input))
begun_of Failed P known read (Ok answer) is h = tt
begun_of Failed P None read (Err fault) is h = tt
begun_of Failed P (Some left) read (Err fault) is h = λ failed. subst P is (h failed)
