use Rattle.std.proofs.Common.{ap, ◌∙◌, append-nil, sym, ◌++◌}
use Rattle.cnf_text.specs.Tokens.{tokens_of}
use Rattle.lrat_text.specs.Grammar.{step_symbols_of}
use Rattle.lrat_text.specs.Decoding.{proof_in, symbols}
use Rattle.lrat_text.proofs.OpenMore.{left-more}
use Rattle.lrat_text.proofs.steps.OpenSteps+Words.within.Goals as goal

pub returns-clause-more : goal.returns-clause-more
returns-clause-more c = λ rest.
    ap (λ found. proof_in (symbols found ++ step_symbols_of (tokens_of rest))) c.within.ensures
    ∙ sym (left-more c.args.text.now rest)

pub returns-clause-last : goal.returns-clause-last
returns-clause-last c =
    ap proof_in (append-nil _) ∙ ap (λ found. proof_in (symbols found)) c.within.ensures
