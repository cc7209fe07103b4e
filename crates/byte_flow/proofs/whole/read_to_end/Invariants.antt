use Rattle.std.proofs.Common.{◌≡◌, ◌-◌, ◌^◌, vec_len, length}
use Rattle.byte_flow.proofs.WholePieces.{ReadSoFar}
use Rattle.byte_flow.proofs.whole.read_to_end.Given as goal

abbrev pub invariant-loop-count : goal.invariant-loop-count
invariant-loop-count g l = record {
  same : g.R.Source.failures l.reader ≡ g.R.Source.failures l.initial.reader;
  room : length l.buffer ≡ 65536;
  read : ReadSoFar (g.R.Source.remaining l.initial.reader) (g.R.Source.remaining l.reader)
      l.initial.bytes.items l.bytes.items;
}

abbrev pub decreases-loop-count : goal.decreases-loop-count
decreases-loop-count g l = 2 ^ 64 - vec_len l.bytes
