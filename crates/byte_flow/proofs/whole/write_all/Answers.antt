use Rattle.std.proofs.Common.{rules}
use Rattle.byte_flow.proofs.WholePieces.{allowed_more, appends_more, rest_allowed}
use Rattle.byte_flow.proofs.whole.write_all.Goals as goal

pub write-requires-clause-allowed : goal.write-requires-clause-allowed
write-requires-clause-allowed g c =
    rest_allowed (g.W.Sink.allows c.loop-done.writer) c.args.text.now c.loop-done.done
    c.loop-done.invariant.allowed

pub loop-done-preserved : goal.loop-done-preserved
loop-done-preserved g c = record {
  same = search rules;
  in_range = search rules;
  written =
      appends_more _ _ _ c.args.text.now c.loop-done.done c.in-Ok.count
      c.loop-done.invariant.written c.in-Ok.ensures.bytes;
  allowed =
      allowed_more (g.W.Sink.allows c.write.new.self) c.args.text.now c.loop-done.done
      c.in-Ok.count c.in-Ok.ensures.rest;
}
