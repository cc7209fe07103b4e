-- A proof that is judged while it is read.
use Rattle.std.proofs.Common.{◌≡◌, ◌∙◌, sym, ap, subst, ℕ, List, []}
use Rattle.std.proofs.Common.{Option}
use Rattle.std.proofs.Common.{append-nil}
use Rattle.std.specs.Io.KnownBytes.{Consumes, IsAtEnd}
use Rattle.byte_flow.specs.Device.{IsLeft}
use Rattle.byte_flow.proofs.DeviceGiven.{left_end, left_given}
use Rattle.cnf_text.specs.Literal.{Literal}
use Rattle.hint_check.specs.Proof.{Proof, IsProofOf}
use Rattle.hint_check.specs.Judgement.{judgement}
use Rattle.hint_check.specs.Judging.{JudgingOf, says}
use Rattle.hint_check.proofs.ProofUnique.{has_proof}
use Rattle.hint_check.proofs.JudgementSound.{judgement-refutes}
use Rattle.split_tree.specs.Leaves.{IsPathOf}
use Rattle.split_tree.specs.declared.node.Target.{Target}
use Rattle.case_core.specs.Case.{CaseOf}
use Rattle.case_core.specs.Inner.Reading.{IsBegun}

-- a judging that has begun with a target's path
pub begun : (case : CaseOf) (target : Target) (formula : List (List Literal)) (path : List Literal)
    (j : JudgingOf) → formula ≡ case.formula → IsPathOf case.tree target path →
    ((text : List ℕ) (proof : Proof) → IsProofOf text proof →
    says j text ≡ judgement formula path proof) →
    IsBegun case target j
begun case target formula path j same of told text =
    let known = has_proof text in
    let proof : Proof = known.0 in record {
      path = path;
      of_target = of;
      is = λ each of_text.
          told text each of_text ∙ ap (λ (f : List (List Literal)). judgement f path each) same;
      refuted = λ refuted. judgement-refutes case.formula path proof
          (sym (told text proof known.1 ∙ ap (λ (f : List (List Literal)). judgement f path proof)
          same) ∙ refuted);
    }

-- ---- what a source gave

-- it was read to its end
pub all_left : (first now : Option (List ℕ)) (read : List ℕ) → Consumes first now read
    → IsAtEnd now → IsLeft first read
all_left first now read lost end =
    subst (IsLeft first) (append-nil read) (left_given first now read lost [] (left_end now end))
