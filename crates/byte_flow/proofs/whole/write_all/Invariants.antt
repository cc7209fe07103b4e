use Rattle.std.proofs.Common.{◌≡◌, ◌≤◌, ◌-◌, length, take, drop}
use Rattle.std.specs.Io.KnownBytes.{Appends}
use Rattle.byte_flow.proofs.whole.write_all.Given as goal

abbrev pub invariant-loop-done : goal.invariant-loop-done
invariant-loop-done g l = record {
  same : g.W.Sink.failures l.writer ≡ g.W.Sink.failures l.initial.writer;
  in_range : l.done ≤ length l.text;
  written : Appends (g.W.Sink.contents l.initial.writer) (g.W.Sink.contents l.writer)
      (take l.done l.text);
  allowed : g.W.Sink.allows l.writer (drop l.done l.text);
}

abbrev pub decreases-loop-done : goal.decreases-loop-done
decreases-loop-done g l = length l.text - l.done
