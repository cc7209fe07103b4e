use Rattle.std.proofs.Common.{◌+◌, ◌*◌, ◌<◌, ◌++◌, ◌∷◌, ap, ◌∙◌, arith, take}
use Rattle.lrat_binary.specs.Binary.{capped}
use Rattle.lrat_binary.specs.Decoder.{text_left}
use Rattle.lrat_binary.proofs.DecoderBytes.{taken_more}
use Rattle.lrat_binary.proofs.decoder.Decoder.take.Goals as goal

pub returns-then-byte-ge128-clause-left : goal.returns-then-byte-ge128-clause-left
returns-then-byte-ge128-clause-left c = λ more.
    let small : c.args.byte < 256 = omega arith in
    ap (λ t. take c.args.used c.args.page.now ++ t)
    (taken_more c.self.inside.ends c.self.inside.scale c.self.inside.value c.args.byte
    c.value_with-value.result c.scale_behind-self-inside.result c.if-byte-ge128.true small
    (c.value_with-value.ensures
    ∙ ap (λ m. capped (c.self.inside.value + c.self.inside.scale * m)) c.from.ensures)
    c.scale_behind-self-inside.ensures more
    ∙ ap (λ begun. text_left begun (c.args.byte ∷ more)) c.self.view_is)
