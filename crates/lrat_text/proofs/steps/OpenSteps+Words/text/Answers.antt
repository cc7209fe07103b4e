use Rattle.std.proofs.Common.{ap, ◌∙◌, ◌++◌}
use Rattle.cnf_text.specs.Tokens.{tokens_of}
use Rattle.lrat_text.specs.Grammar.{step_symbols_of}
use Rattle.lrat_text.specs.StepWords.{proof_with}
use Rattle.lrat_text.specs.Decoding.{proof_in, symbols}
use Rattle.lrat_text.proofs.OpenMore.{left-more}
use Rattle.lrat_text.proofs.steps.OpenSteps+Words.text.Goals as goal

pub returns : goal.returns
returns c = λ rest.
    left-more c.text.result.now rest
    ∙ ap (λ found. proof_in (symbols found ++ step_symbols_of (tokens_of rest))) c.text.ensures
    ∙ ap (λ left. proof_with left (step_symbols_of (tokens_of rest))) c.self.view_is
