use Rattle.std.proofs.Common.{◌≡◌, ◌-◌, ◌^◌, length}
use Rattle.case_core.specs.Inner.Reading.{HasHanded}
use Rattle.case_core.proofs.reading.read_bytes.Given as goal

abbrev pub invariant-loop-count : goal.invariant-loop-count
invariant-loop-count g l = record {
  same : l.judging.formula ≡ l.initial.judging.formula;
  count : g.S.Source.failures l.source ≡ g.S.Source.failures l.initial.source;
  room : length l.buffer ≡ 65536;
  read : HasHanded (g.S.Source.remaining l.initial.source) (g.S.Source.remaining l.source)
      l.initial.judging l.judging l.initial.length l.length;
}

abbrev pub decreases-loop-count : goal.decreases-loop-count
decreases-loop-count g l = 2 ^ 64 - l.length
