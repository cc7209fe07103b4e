use Rattle.std.proofs.Common.{◌≡◌, ◌+◌, length, rules}
use Rattle.case_core.proofs.ReadingProofs.{part_found, part_text}
use Rattle.case_core.proofs.examiner.Examiner.examine_part.Goals as goal

pub finding_beside-requires-clause-judged : goal.finding_beside-requires-clause-judged
finding_beside-requires-clause-judged g c =
    part_text _ _ c.args.front.now _ _ _ _ c.begin_proof.new.judging c.more.new.self
    c.in_ok-read.read c.in_ok-begin_proof.ensures.begun c.in_ok-more.ensures.told
    c.in_ok-read.ensures.read

pub returns-clause-read : goal.returns-clause-read
returns-clause-read g c =
    let long : c.in-Some.length ≡ c.in_ok-read.read.length + length c.args.front.now =
    search rules in
    part_found c.args.self.now _ c.args.target c.args.front.now c.args.text.now
    c.read_lines.new.text _ _ c.begin_proof.new.judging c.more.new.self c.in_ok-read.read
    c.finding_beside.result _ c.self.view_is c.in_ok-begin_proof.ensures.begun
    c.in_ok-more.ensures.told c.in_ok-read.ensures.read
    c.finding_beside.ensures.case c.finding_beside.ensures.target c.finding_beside.ensures.judged
    c.finding_beside.ensures.found long
