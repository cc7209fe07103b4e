use Rattle.std.proofs.Common.{◌≡◌, ◌+◌, ◌≤◌, All, vec_len, vec_capacity}
use Rattle.std.specs.Vec.Iter.{into_iter_items, into_iter_len}
use Rattle.check_crew.proofs.threads.join_all.Given as goal

abbrev pub invariant-loop-handle : goal.invariant-loop-handle
invariant-loop-handle g l = record {
  count : vec_len l.results + into_iter_len l.handle-iterator ≡ vec_len l.fn.handles;
  room : vec_len l.fn.handles ≤ vec_capacity l.results;
  same : vec_capacity l.results ≡ vec_capacity l.fn.results;
  promised : All (λ h. h.promise ≡ l.fn.promise) (into_iter_items l.handle-iterator);
  kept : All (g.K.Promise.kept_by l.fn.promise) l.results.items;
}
