use Rattle.std.proofs.Common.{◌∷◌, arith, refl}
use Rattle.cnf_text.proofs.WordsLeft.{minus_first, told_below}
use Rattle.cnf_text.proofs.words.short_negative.Goals as goal

pub returns-else-magnitude-eq0 : goal.returns-else-magnitude-eq0
returns-else-magnitude-eq0 c =
    let found = c.in_ok-magnitude-in-len1-up.ensures.found in (
      45 ∷ found.0,
      minus_first c.args.text.now found.0 _ (omega arith) c.if-first-eq45.true
          (c.in_ok-magnitude-in-len1-up.ensures.at_once refl) found.1,
      told_below found.0 c.in_ok-magnitude-in-len1-up.magnitude found.2 c.if-magnitude-eq0.false
          found.3,
    )
