use Rattle.std.proofs.Common.{ap, ◌∙◌, append-nil}
use Rattle.lrat_text.specs.Decoding.{proof_in}
use Rattle.lrat_text.proofs.ProofSteps.{bounded, symbols-new}
use Rattle.lrat_text.proofs.ProofUnique.{proof_is}
use Rattle.lrat_text.proofs.steps.OpenSteps+Words.new.Goals as goal

pub returns-clause-value : goal.returns-clause-value
returns-clause-value c = λ proof is.
    ap proof_in (append-nil _ ∙ symbols-new c.args.text.now _ c.new.ensures.value)
    ∙ proof_is c.args.text.now proof is

pub returns-clause-bound : goal.returns-clause-bound
returns-clause-bound c = rw append-nil (bounded _ _ c.new.ensures.bound)
