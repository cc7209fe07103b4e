use Rattle.std.proofs.Common.{arith, rules}
use Rattle.mark_board.proofs.BoardsGathered.{parts_listed}
use Rattle.thread_suite.proofs.hall_tests.part_count.Goals as goal

pub returns : goal.returns
returns g c =
    let listed =
    parts_listed c.args.cut c.args.case.now.tree c.expect-parts.result.items (search rules) in
    let long = c.expect-parts.result.ok in
    let told = c.len.ensures in
    omega (arith, listed, long, told)
