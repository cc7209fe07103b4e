use Rattle.std.proofs.Common.{◌≡◌, ◌+◌, ◌-◌, ◌^◌, length}
use Rattle.case_core.specs.Inner.Reading.{HasFrontJudged}
use Rattle.case_core.proofs.reading.read_lines.Given as goal

abbrev pub invariant-loop-longer : goal.invariant-loop-longer
invariant-loop-longer g l = record {
  same : l.judging.formula ≡ l.initial.judging.formula;
  count : g.S.Stream.failures l.source ≡ g.S.Stream.failures l.initial.source;
  read : HasFrontJudged l.initial.text l.text (g.S.Stream.gives l.initial.source)
      (g.S.Stream.gives l.source) l.initial.judging l.judging l.length;
}

abbrev pub decreases-loop-longer : goal.decreases-loop-longer
decreases-loop-longer g l = 2 ^ 65 - (l.length + length l.text.ready)
