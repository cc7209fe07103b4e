-- The findings of a case with the sections of the proofs that are given for leaves.
use Rattle.std.proofs.Common.{◌≡◌, ◌≢◌, ◌∙◌, sym, refl, subst, ℕ, List}
use Rattle.std.proofs.Common.{◌++◌, Option, None, Some}
use Rattle.case_core.specs.Leaves.{IsTargetAt}
use Rattle.case_core.specs.Target.{Target}
use Rattle.case_core.specs.Target.TheVariants.{Leaf as Named, Node}
use Rattle.case_core.specs.Case.{CaseOf, SectionOf, proof_for}
use Rattle.case_core.specs.Sections.{IsCaseOf}
use Rattle.mark_board.specs.declared.mark.Mark.{Mark}
use Rattle.mark_board.specs.Marking.{mark_at}
use Rattle.mark_board.specs.Findings.{AreFindings, IsMarkOf}
use Rattle.proof_folder.specs.Added.{sections_of, texts_of}
use Rattle.proof_folder.specs.Given.{Given, files_of, leaves_of, MayBeGiven, HasFewLeaves}
use Rattle.proof_folder.specs.Given.{AreMarksBy, IsJudgedAs}
use Rattle.proof_folder.proofs.AddedMarks.{proof_first, proof_second}
use Rattle.proof_folder.proofs.AddedMarks.{findings_without_line_ends}
use Rattle.proof_folder.proofs.GivenLeaves.{HasCubes, among_leaves, leaves_are_others, given_found}
use Rattle.proof_folder.proofs.GivenLeaves.{none_of_node}
use Rattle.proof_folder.proofs.GivenCase.{given_make_a_case}

some_proof : (case : CaseOf) (target : Target) (text : List ℕ)
    → proof_for case.sections target ≡ Some text → proof_for case.sections target ≢ None
some_proof case target text is none = let clash : Some text ≡ None = sym is ∙ none in cc

module _ (case : CaseOf) (given : Given) (marks : List Mark) (cubes : HasCubes case.tree)
    (are : AreMarksBy case given marks) where
  abbrev added : List SectionOf
  added = sections_of (files_of given case.tree)

  abbrev with_added : CaseOf
  with_added =
      record { formula = case.formula; tree = case.tree; sections = case.sections ++ added }

  -- a target without a section in the case
  unproved : (node : ℕ) (target : Target) → IsTargetAt case.tree node target →
      proof_for case.sections target ≡ None → IsMarkOf with_added target (mark_at marks node)
  unproved node (Named leaf) at free =
      rw (proof_second case.sections added (Named leaf) free
      ∙ given_found given leaf (leaves_of case.tree) (leaves_are_others case.tree)
      (among_leaves case.tree leaf cubes (node, at)))
      (are.leaves node leaf at free)
  unproved node (Node inner) at free =
      rw (proof_second case.sections added (Node inner) free
      ∙ none_of_node given (leaves_of case.tree) inner)
      (rw free at (subst (λ (n : ℕ). IsMarkOf case (Node n) (mark_at marks node)) at.0
      (are.nodes node (refl, at.1, at.2))))

  each_mark : (node : ℕ) (target : Target) → IsTargetAt case.tree node target
      → (proof : Option (List ℕ)) → proof_for case.sections target ≡ proof
      → IsMarkOf with_added target (mark_at marks node)
  each_mark node target at None is = unproved node target at is
  each_mark node target at (Some text) is =
      rw (proof_first case.sections added target text is)
      (rw is at (are.sections node target at (some_proof case target text is)))

  pub findings_with_given : AreFindings with_added marks
  findings_with_given = record {
    long = are.long;
    each = λ node target at. each_mark node target at (proof_for case.sections target) refl;
  }

pub judged_with_given : (bundle : List ℕ) (case : CaseOf) (given : Given) (marks : List Mark) →
    HasCubes case.tree → HasFewLeaves case.tree
    → IsCaseOf bundle case → MayBeGiven case given → AreMarksBy case given marks
    → IsJudgedAs (bundle ++ texts_of (files_of given case.tree)) case marks
judged_with_given bundle case given marks cubes few is may are =
    let with_them = given_make_a_case case given may bundle cubes few is in record {
      whole = with_them.whole;
      is = with_them.is;
      formula = with_them.formula;
      tree = with_them.tree;
      findings =
          findings_without_line_ends case with_them.whole
          (case.sections ++ sections_of (files_of given case.tree)) marks with_them.formula
          with_them.tree with_them.sections (findings_with_given case given marks cubes are);
    }
