use Rattle.own_threads.proofs.Halves.{both_halves}
use Rattle.own_threads.proofs.boards.post_all.Goals as goal

pub returns-clause-seen : goal.returns-clause-seen
returns-clause-seen g c =
    let ours = c.in_ok-ours in
    rw (c.push_reserved-2.ensures.items, c.push_reserved.ensures.items)
    (both_halves c.args.desk.case.now _ c.args.desk.half _ ours.ours ours.theirs ours.ensures)
