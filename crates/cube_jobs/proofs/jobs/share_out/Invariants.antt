use Rattle.std.proofs.Common.{◌≡◌, ◌+◌, ◌≤◌, [], All, vec_len, vec_capacity}
use Rattle.crossbeam_deque.specs.Injected.{IsInjectorPassOf, injector_view}
use Rattle.cube_jobs.specs.Jobs.{JobPassOf, new_pass}
use Rattle.cube_jobs.proofs.jobs.share_out.Given as goal

abbrev pub invariant-loop : goal.invariant-loop
invariant-loop l = record {
  seat : IsInjectorPassOf l.queue l.seat;
  all_shares : (injector_view l.seat).all_shares ≡ l.passes;
  shares : (injector_view l.seat).shares + l.counter ≡ l.passes + 1;
  sections : (injector_view l.seat).sections ≡ (injector_view l.fn.seat).sections;
  claims : (injector_view l.seat).claims ≡ [];
  count : vec_len l.shared_out + 1 ≡ l.counter;
  room : l.passes ≤ vec_capacity l.shared_out;
  new : All (λ (p : JobPassOf). p
      ≡ new_pass record
      { queue = l.queue.queue; sections = (injector_view l.fn.seat).sections; passes = l.passes })
      l.shared_out.items;
}
