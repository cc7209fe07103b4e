use Rattle.bundle_files.proofs.OneProof.{faulty_below, twice_below}
use Rattle.bundle_files.proofs.one_proof.fault_below.Goals as goal

pub returns-in-Ok-target : goal.returns-in-Ok-target
returns-in-Ok-target c = λ some text first.
    twice_below c.args.bundle.now text c.in-Ok.label.line.items c.args.label.lines
    c.line_ends.result c.in-Ok.label.lines c.args.case.now c.twice.result c.requires.case
    c.requires.one c.requires.free c.line_ends.ensures.value c.in-Ok.ensures.sum
    c.in-Ok-target.field-0 c.in-Ok-target.ensures.has c.in-Ok-target.ensures.named
    (c.twice.ensures some) (rw c.in-Ok.ensures.line first)

pub returns : goal.returns
returns c = λ some text first.
    faulty_below c.args.bundle.now text c.in-Ok.label.line.items c.args.label.lines
    c.line_ends.result c.in-Ok.label.lines c.args.case.now c.in-Err.fault c.requires.case
    c.requires.one c.requires.free c.line_ends.ensures.value c.in-Ok.ensures.sum
    (c.in-Err.ensures.fault some) (rw c.in-Ok.ensures.line first)
