use Rattle.std.proofs.Common.{◌++◌, ◌∙◌, ap, take}
use Rattle.lrat_binary.specs.Binary.{proof_text}
use Rattle.lrat_binary.proofs.FormParts.{rest_from, text_stays}
use Rattle.lrat_binary.proofs.form.turn_from.Goals as goal

pub returns-in_default : goal.returns-in_default
returns-in_default c =
    text_stays c.args.text.now.items c.args.begin
    (rw (c.in_default.is, c.deref.ensures.value) at c.in_ok-made.ensures)

pub returns-in_ok-extend_from_slice : goal.returns-in_ok-extend_from_slice
returns-in_ok-extend_from_slice c =
    c.in_ok-extend_from_slice.ensures.items
    ∙ ap (λ text. text ++ c.deref-in-Some.result.now) c.truncate.ensures.items
    ∙ ap (λ made. take c.args.begin c.args.text.now.items ++ made)
    (c.deref-in-Some.ensures.value
    ∙ (rw (c.in-Some.is, c.deref.ensures.value) at c.in_ok-made.ensures)
    ∙ ap proof_text (rest_from c.args.begin c.args.text.now.items))
