-- What is found by proofs that the worker which reads a bundle hands to others.
use Rattle.std.specs.Prelude.{◌≡◌}
use Rattle.case_core.specs.Case.{CaseOf, SectionOf}
use Rattle.case_core.specs.Finding.{IsFoundBy, target_of}
use Rattle.case_core.specs.declared.examiner.ReadFinding.{ReadFinding}

-- this was found of the target of a proof, by its text, in this case
pub record IsFoundOf (case : CaseOf) (read : ReadFinding) (proof : SectionOf) : Type 0 where
  pub of_case : read.finding.case.now ≡ case
  pub of_target : target_of read.finding.leaf read.finding.node ≡ proof.target
  pub found : IsFoundBy case proof.target proof.proof read.finding.judged
