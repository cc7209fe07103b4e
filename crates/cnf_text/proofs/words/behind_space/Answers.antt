use Rattle.std.proofs.Common.{refl, arith}
use Rattle.cnf_text.specs.Tokens.{is_blank}
use Rattle.cnf_text.proofs.WordsLeft.{behind_blank}
use Rattle.cnf_text.proofs.words.behind_space.Goals as goal

pub returns-in-len1-up : goal.returns-in-len1-up
unfolding is_blank
returns-in-len1-up c =
    behind_blank c.args.text.now (omega arith) (rw c.if-first-eq32.true refl)
    (rw c.if-first-eq32.true refl)
