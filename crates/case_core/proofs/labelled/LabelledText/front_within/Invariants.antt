use Rattle.std.proofs.Common.{◌≡◌, ◌+◌, ◌-◌, ◌^◌, length}
use Rattle.case_core.specs.Labelled.{HasFront}
use Rattle.case_core.proofs.labelled.LabelledText.front_within.Given as goal

abbrev pub invariant-loop-lines : goal.invariant-loop-lines
invariant-loop-lines g l = record {
  count : g.S.Stream.failures l.source ≡ g.S.Stream.failures l.initial.source;
  read : HasFront l.initial.self l.self (g.S.Stream.gives l.initial.source)
      (g.S.Stream.gives l.source) l.lines.items;
}

abbrev pub decreases-loop-lines : goal.decreases-loop-lines
decreases-loop-lines g l = 2 ^ 65 - (length l.lines.items + length l.self.ready)
