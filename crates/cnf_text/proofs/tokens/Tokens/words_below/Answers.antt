use Rattle.std.proofs.Common.{◌∙◌, ap, List, ◌+◌, map}
use Rattle.cnf_text.specs.Tokens.{Token, all_tokens, below}
use Rattle.cnf_text.proofs.WordsLeft.{whatever_line}
use Rattle.cnf_text.proofs.tokens.Tokens.words_below.Goals as goal

pub returns-in-Some-clause-words : goal.returns-in-Some-clause-words
returns-in-Some-clause-words c =
    c.new.ensures.value ∙ whatever_line (c.self.inside.line + 1) c.in-Some.text.now
    ∙ ap (λ (lines : List (List Token)). map (λ (t : Token). t.bytes) (all_tokens (below lines)))
    (rw c.in-Some.is at c.self.view_is)
