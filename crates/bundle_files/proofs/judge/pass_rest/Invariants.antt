use Rattle.std.proofs.Common.{◌≡◌}
use Rattle.bundle_files.proofs.judge.pass_rest.Given as goal

abbrev pub invariant-loop : goal.invariant-loop
invariant-loop g l = record {
  count : g.S.Stream.failures l.source ≡ g.S.Stream.failures l.initial.source;
}
