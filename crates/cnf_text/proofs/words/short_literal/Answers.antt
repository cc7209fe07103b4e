use Rattle.std.proofs.Common.{refl, arith}
use Rattle.cnf_text.proofs.WordsSigned.{signed_literal}
use Rattle.cnf_text.proofs.words.short_literal.Goals as goal

pub returns : goal.returns
returns c =
    let found = c.in_ok-magnitude.ensures.found in
    signed_literal c.args.text.now found.0 _ _ c.from.result c.in_ok-magnitude.magnitude
    c.from_parts.result (omega arith) refl c.from.ensures
    (c.in_ok-magnitude.ensures.at_once refl) found.1 found.2 c.if-magnitude-eq0.false
    (omega arith) c.from_parts.ensures
