use Rattle.cube_report.specs.Device.{IsLeft}
use Rattle.bundle_files.proofs.OneProof.{posted_alone, refused_with}
use Rattle.bundle_files.proofs.one_proof.judge_begun.Goals as goal

pub returns-in_ok-written_by-in-None-clause-outcome :
    goal.returns-in_ok-written_by-in-None-clause-outcome
returns-in_ok-written_by-in-None-clause-outcome g c =
    let posted = rw c.in-None.is at c.in_ok-read_proof.ensures.posted in
    posted_alone (IsLeft (g.S.Source.remaining c.args.source.now)) c.args.one.now.bundle.items
    c.args.one.now.case posted.0 c.in_ok-worker.worker c.read_proof.new.self c.into_boards.result
    c.args.draws c.in_ok-written_by-in-None.field-0.text.items
    c.in_ok-written_by-in-None.field-0.map.items c.in_ok-written_by-in-None.field-0.refuted
    c.requires.tree posted.1 c.requires.case c.requires.free posted.2.0
    c.in_ok-worker.ensures.case.0 c.in_ok-worker.ensures.marks
    c.in_ok-read_proof.ensures.same.0 c.into_boards.ensures posted.2.1
    c.in_ok-written_by-in-None.ensures

pub returns-in-Some-clause-fault : goal.returns-in-Some-clause-fault
returns-in-Some-clause-fault g c =
    let posted = rw c.in-Some.is at c.in_ok-read_proof.ensures.posted in
    refused_with (IsLeft (g.S.Source.remaining c.args.source.now)) c.args.one.now.bundle.items
    posted.0 c.in-Some.label.line.items c.in-Some.label.lines c.fault_below-fault.result
    c.from.result c.from.ensures posted.1 posted.2.0 posted.2.1
    (rw c.deref.ensures.value at c.fault_below-fault.ensures)
