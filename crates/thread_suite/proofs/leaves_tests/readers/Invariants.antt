use Rattle.std.proofs.Common.{◌≡◌, All, vec_len}
use Rattle.thread_suite.proofs.leaves_tests.readers.Given as goal

abbrev pub invariant-loop : goal.invariant-loop
invariant-loop g l = record {
  count : vec_len l.all ≡ l.counter;
  fresh : All (λ one. one.failed ≡ 0) l.all.items;
}
