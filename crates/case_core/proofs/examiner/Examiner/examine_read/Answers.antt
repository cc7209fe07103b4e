use Rattle.case_core.proofs.ReadingProofs.{judged_text, labelled_read, read_found}
use Rattle.case_core.proofs.examiner.Examiner.examine_read.Goals as goal

pub finding_beside-requires-clause-judged : goal.finding_beside-requires-clause-judged
finding_beside-requires-clause-judged g c =
    judged_text _ _ c.args.opened _ _ _ c.in_ok-begin_proof.ensures.begun
    (rw c.in-Judged.is at c.in_ok-read.ensures.read)

pub returns-in-Labelled-clause-read : goal.returns-in-Labelled-clause-read
returns-in-Labelled-clause-read g c =
    labelled_read c.args.self.now c.args.target c.args.opened _ _ _
    (rw c.in-Labelled.is at c.in_ok-read.ensures.read)

pub returns-clause-read : goal.returns-clause-read
returns-clause-read g c =
    read_found c.args.self.now _ c.args.target c.args.opened _ _ c.in-Judged.read
    c.finding_beside.result c.self.view_is c.in_ok-begin_proof.ensures.begun
    (rw c.in-Judged.is at c.in_ok-read.ensures.read) c.finding_beside.ensures.case
    c.finding_beside.ensures.target c.finding_beside.ensures.judged c.finding_beside.ensures.found
