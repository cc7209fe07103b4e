-- What workers find of targets, and the marks that are compared with it.
use Rattle.std.specs.Prelude.{◌≡◌, ℕ, List, [], All, Option, None, Some, Bool, true, false, get_or}
use Rattle.std.specs.Prelude.{Result, Ok, Err}
use Rattle.byte_flow.specs.declared.fault.DeviceFault.{DeviceFault}
use Rattle.case_core.specs.Bundle.{labels_of}
use Rattle.case_core.specs.Finding.{IsFoundBy, target_of}
use Rattle.case_core.specs.Target.{Target}
use Rattle.case_core.specs.Target.TheVariants.{Node}
use Rattle.case_core.specs.declared.examiner.ReadFinding.{ReadFinding}
use Rattle.case_core.specs.declared.examiner.ReadProof.{ReadProof}
use Rattle.case_core.specs.declared.examiner.ReadProof.TheVariants.{Found as FoundBy, Labelled}
use Rattle.case_core.specs.Leaves.{IsTargetAt}
use Rattle.case_core.specs.Case.{CaseOf}
use Rattle.mark_board.specs.declared.mark.Mark.{Mark}
use Rattle.mark_board.specs.Marking.{mark_at}
use Rattle.proof_folder.specs.Given.{IsGivenFor}
use Rattle.board_hall.specs.declared.view.View.{View}
use Rattle.proof_folder.specs.TargetProofs.{Known, IsGiven}
use Rattle.check_crew.specs.Examined.{IsExamined}
use Rattle.check_crew.specs.declared.targets.ExaminedTarget.{ExaminedTarget}

-- what is found by a proof that was read, and nothing where it has a label line
abbrev pub found_in : Result ReadProof DeviceFault → Result (Option ReadFinding) DeviceFault
found_in (Ok (FoundBy found)) = Ok (Some found)
found_in (Ok (Labelled label)) = Ok None
found_in (Err fault) = Err fault

-- what was found by the text of the proof that is known to lie there for the target, in which no
-- line is a label line
pub record IsFoundOf (known : Option (Option (List ℕ))) (case : CaseOf) (target : Target)
    (read : ReadFinding) : Type 0 where
  pub of_case : read.finding.case.now ≡ case
  pub of_target : target_of read.finding.leaf read.finding.node ≡ target
  pub text : List ℕ
  pub given : IsGiven known (Some text)
  pub plain : labels_of text ≡ []
  pub found : IsFoundBy case target text read.finding.judged

-- a worker found this of targets of the case
pub record IsListOf (known : Known) (case : CaseOf) (list : List ExaminedTarget) : Type 0 where
  pub view : View
  pub of_case : view.of.case ≡ case
  pub all : All (λ one. IsExamined (known one.target) view one.target one.examined) list

-- by these marks a target that stands at the node has the mark of what was given for it
pub record IsRightAt (known : Known) (case : CaseOf) (marks : List Mark) (node : ℕ) : Type 0 where
  pub target : Target
  pub here : IsTargetAt case.tree node target
  pub given : Option (List ℕ)
  pub is : IsGivenFor (known target) case target (mark_at marks node) given

-- so it is at each node that is noted
abbrev pub AreRightAt : Known → CaseOf → List Mark → List Bool → Type 0
AreRightAt known case marks right =
    (node : ℕ) → get_or right node false ≡ true → IsRightAt known case marks node

-- nothing lies elsewhere for the inner nodes that are noted so
abbrev pub AreAbsent : Known → List Bool → Type 0
AreAbsent known absent =
    (node : ℕ) → get_or absent node false ≡ true → IsGiven (known (Node node)) None
