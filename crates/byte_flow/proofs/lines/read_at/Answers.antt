use Rattle.std.proofs.Common.{take, rules}
use Rattle.byte_flow.proofs.LinesFilled.{result_behind}
use Rattle.byte_flow.proofs.lines.read_at.Goals as goal

pub returns-clause-read : goal.returns-clause-read
returns-clause-read g c =
    result_behind c.read.result (g.S.Stream.gives c.args.source.now)
    (g.S.Stream.gives c.read.new.self) (take c.args.from c.args.room.now)
    c.split_at_mut-rest.result.0.now c.read.new.buffer c.args.from (search rules) (search rules)
    (search rules) c.read.ensures.bound c.read.ensures.bytes c.read.ensures.end
