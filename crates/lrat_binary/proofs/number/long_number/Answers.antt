use Rattle.std.proofs.Common.{◌∙◌, ◌+◌, ◌*◌, ap, arith}
use Rattle.std.proofs.Math.Facts.{Fits-lt-pow}
use Rattle.lrat_binary.specs.Binary.{capped}
use Rattle.lrat_binary.proofs.NumberBytes.{none_read, byte_taken, number_taken, no_number}
use Rattle.lrat_binary.proofs.number.long_number.Goals as goal

pub loop-left-init : goal.loop-left-init
loop-left-init c = none_read c.args.bytes.now (λ i. Fits-lt-pow (c.type_inv.bytes i))

pub loop-left-preserved : goal.loop-left-preserved
loop-left-preserved c =
    byte_taken c.args.bytes.now c.loop-left.left.now c.loop-left.scale c.loop-left.value
    c.value_with-value.result c.scale_behind-scale.result (omega arith) c.if-byte-lt128.false
    (c.value_with-value.ensures
    ∙ ap (λ b. capped (c.loop-left.value + c.loop-left.scale * b)) c.from.ensures)
    c.scale_behind-scale.ensures c.loop-left.invariant

pub returns-then-byte-lt128 : goal.returns-then-byte-lt128
returns-then-byte-lt128 c =
    number_taken c.args.bytes.now c.loop-left.left.now c.loop-left.scale c.loop-left.value
    c.value_with-value.result (omega arith) c.if-byte-lt128.true
    (c.value_with-value.ensures
    ∙ ap (λ b. capped (c.loop-left.value + c.loop-left.scale * b)) c.from.ensures)
    c.loop-left.invariant

pub returns : goal.returns
returns c =
    no_number c.args.bytes.now c.loop-left.left.now c.loop-left.scale c.loop-left.value
    c.in_default.len_below c.loop-left.invariant
