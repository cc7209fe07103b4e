use Rattle.std.proofs.Common.{◌++◌, ◌∙◌, ap}
use Rattle.lrat_binary.specs.Decoder.{text_left}
use Rattle.lrat_binary.proofs.FormParts.{no_text, whole_text}
use Rattle.lrat_binary.proofs.form.binary_text.Goals as goal

pub returns-in_default : goal.returns-in_default
returns-in_default c =
    no_text c.begin.result c.args.proof.now c.in_default.not-Binary c.begin.ensures.left
    c.begin.ensures.none

pub returns : goal.returns
returns c =
    whole_text c.begin.result c.args.proof.now c.append.new.text.items c.new-decoder.result
    c.append.new.self c.in-Binary.is c.begin.ensures.left c.new-decoder.ensures (λ more.
    c.in_ok-append.ensures more
    ∙ ap (λ t. t ++ text_left c.new-decoder.result (c.args.proof.now ++ more))
    c.new-text.ensures.items)
