use Rattle.std.proofs.Common.{◌∙◌, ap}
use Rattle.case_core.specs.Labelled.{fresh_text}
use Rattle.case_core.proofs.ReadingProofs.{label_read, text_read}
use Rattle.case_core.proofs.reading.read_text.Goals as goal

pub returns-in-Some-clause-read : goal.returns-in-Some-clause-read
returns-in-Some-clause-read g c = λ opened first opens lost.
    label_read opened first (g.S.Source.remaining c.args.source.now)
    (g.S.Source.remaining c.read_lines.new.source) c.args.begun.now c.begun-text.result
    c.read_lines.new.text c.take_label.new.self c.args.judging.now c.in_ok-read.read
    c.in-Some.label opens lost
    (c.begun-text.ensures ∙ ap fresh_text c.in_ok-begun.ensures.begun) c.in_ok-read.ensures.read
    (rw c.in-Some.is at c.in_ok-label.ensures.label)

pub returns-clause-read : goal.returns-clause-read
returns-clause-read g c = λ opened first opens lost.
    text_read opened first (g.S.Source.remaining c.args.source.now)
    (g.S.Source.remaining c.read_lines.new.source) c.args.begun.now c.begun-text.result
    c.read_lines.new.text c.args.judging.now c.in_ok-read.read opens lost
    (c.begun-text.ensures ∙ ap fresh_text c.in_ok-begun.ensures.begun) c.in_ok-read.ensures.read
    (rw c.in-None.is at c.in_ok-label.ensures.label).0
