use Rattle.std.proofs.Common.{◌≡◌, ◌-◌, ◌^◌, length}
use Rattle.byte_flow.specs.Lines.{IsBegunFurther}
use Rattle.byte_flow.proofs.lines.LineBuffer.refill.Given as goal

abbrev pub invariant-loop-count : goal.invariant-loop-count
invariant-loop-count g l = record {
  same : g.S.Stream.failures l.source ≡ g.S.Stream.failures l.initial.source;
  read : IsBegunFurther (g.S.Stream.gives l.initial.source) (g.S.Stream.gives l.source)
      l.initial.self.begun l.self;
}

abbrev pub decreases-loop-count : goal.decreases-loop-count
decreases-loop-count g l = 2 ^ 64 - length l.self.begun
