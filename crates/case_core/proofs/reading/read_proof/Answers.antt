use Rattle.std.proofs.Common.{◌≡◌, ◌<◌, ◌∙◌, ◌++◌, ap, length, rules, sym, take}
use Rattle.lrat_binary.specs.Form.{text_in_form}
use Rattle.lrat_binary.specs.declared.form.ProofForm.{ProofForm}
use Rattle.case_core.proofs.ReadingProofs.{binary_read, nothing_read}
use Rattle.case_core.proofs.reading.read_proof.Goals as goal

pub returns-in_ok-judged-in-Unread-clause-read : goal.returns-in_ok-judged-in-Unread-clause-read
returns-in_ok-judged-in-Unread-clause-read g c =
    let none = c.begin.ensures.none c.in-Unread.is in
    let zero : c.in-Ok.count ≡ 0 = c.in-Ok.ensures.bound.1 ∙ ap length none in
    let some : 0 < length c.read.new.buffer = search rules in
    nothing_read c.args.opened c.begin.result _ _ (take c.in-Ok.count c.read.new.buffer)
    c.args.judging.now _ c.begin.ensures.left c.in-Unread.is none c.in-Ok.ensures.bytes.0
    (c.in-Ok.ensures.bytes.1 zero some) c.in_ok-judged-in-Unread.ensures.told

pub returns-in_ok-read-in-Binary-clause-read : goal.returns-in_ok-read-in-Binary-clause-read
returns-in_ok-read-in-Binary-clause-read g c =
    binary_read c.args.opened c.begin.result _ _ (take c.in-Ok.count c.read.new.buffer)
    c.args.judging.now c.more_binary.new.self c.in-Ok.count c.in_ok-read-in-Binary.read
    c.begin.ensures.left c.in-Binary.is c.in-Ok.ensures.bytes.0 c.in-Ok.ensures.bound.1
    c.requires.begun c.in_ok-more_binary-in-Binary.ensures.told
    c.in_ok-read-in-Binary.ensures.read

pub returns-in-Text-clause-read : goal.returns-in-Text-clause-read
returns-in-Text-clause-read g c =
    c.read_text.ensures.read c.args.opened _
    (λ more. sym (c.begin.ensures.left more)
    ∙ ap (λ (f : ProofForm). text_in_form f (take c.in-Ok.count c.read.new.buffer ++ more))
    c.in-Text.is)
    c.in-Ok.ensures.bytes.0
