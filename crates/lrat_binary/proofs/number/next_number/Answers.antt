use Rattle.std.proofs.Common.{◌+◌, ◌*◌, ap, arith}
use Rattle.std.proofs.Math.Facts.{Fits-lt-pow}
use Rattle.lrat_binary.proofs.NumberBytes.{one_byte_of, two_bytes_of, three_bytes_of}
use Rattle.lrat_binary.proofs.number.next_number.Goals as goal

pub returns-in-len1-up : goal.returns-in-len1-up
returns-in-len1-up c =
    one_byte_of c.args.bytes.now c.from.result c.in-len1-up.len_at_least c.if-first-lt128.true
    c.from.ensures

pub returns-in-len2-up : goal.returns-in-len2-up
returns-in-len2-up c =
    two_bytes_of c.args.bytes.now c.two_bytes.result c.in-len2-up.len_at_least
    c.if-first-ge128.true (Fits-lt-pow (c.type_inv.bytes 0)) c.if-second-lt128.true
    c.two_bytes.ensures.value

pub returns-in-len3-up : goal.returns-in-len3-up
returns-in-len3-up c =
    three_bytes_of c.args.bytes.now c.two_bytes-in-len3-up.result _ c.in-len3-up.len_at_least
    (omega arith) (Fits-lt-pow (c.type_inv.bytes 0)) (omega arith)
    (Fits-lt-pow (c.type_inv.bytes 1)) (omega arith)
    c.two_bytes-in-len3-up.ensures.value
    (ap (λ t. c.two_bytes-in-len3-up.result + 16384 * t) c.from-in-len3-up.ensures)
