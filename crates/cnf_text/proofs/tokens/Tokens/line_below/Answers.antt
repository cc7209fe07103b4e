use Rattle.cnf_text.specs.Tokens.{all_tokens, below}
use Rattle.cnf_text.proofs.TokensUpTo.{walked, next_behind}
use Rattle.cnf_text.proofs.tokens.Tokens.line_below.Goals as goal

pub loop-preserved : goal.loop-preserved
loop-preserved c =
    walked (all_tokens (below c.args.self)) (all_tokens c.loop.tokens) (all_tokens c.next.new.self)
    c.loop.counter c.loop.invariant
    (next_behind c.next.result (all_tokens c.loop.tokens)
    (all_tokens c.next.new.self) c.next.ensures)
