use Rattle.command_words.specs.Request.{asked_in}
use Rattle.command_words.proofs.WordsProof.{clash_refused}
use Rattle.command_words.proofs.words.refusal_of.Goals as goal

pub returns-clause-none : goal.returns-clause-none
returns-clause-none c = λ none.
    (c.fits_proof.ensures.0 c.if-not-fits_proof.false, c.clash_in.ensures.none none)

pub returns-clause-some : goal.returns-clause-some
returns-clause-some c =
    clash_refused c.clash_in.result (asked_in c.args.request.now) c.clash_in.ensures.some
