use Rattle.std.proofs.Common.{◌≤◌, ◌+◌, ◌-◌, rules}
use Rattle.byte_flow.proofs.LinesFilled.{cut_at}
use Rattle.byte_flow.proofs.lines.LineBuffer.end_at_line.Goals as goal

pub returns-in-Some-clause-same : goal.returns-in-Some-clause-same
returns-in-Some-clause-same c =
    let end = c.self.inside.filled - c.args.count + c.in-Some.end + 1 in
    let before : end ≤ c.self.inside.filled = search rules in
    cut_at c.self.inside.room.items c.self.inside.block c.self.inside.filled end c.args.self.now
    c.self.invariant.0 c.self.invariant.1 c.self.view_is c.requires.none before
