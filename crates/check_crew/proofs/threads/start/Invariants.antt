use Rattle.std.proofs.Common.{◌≡◌, ◌+◌, ◌≤◌, All, vec_len, vec_capacity}
use Rattle.std.specs.Vec.Iter.{into_iter_items, into_iter_len}
use Rattle.check_crew.proofs.threads.start.Given as goal

abbrev pub invariant-loop-one : goal.invariant-loop-one
invariant-loop-one g l = record {
  started : vec_len l.handles + into_iter_len l.one-iterator ≡ vec_len l.fn.others;
  room : vec_len l.fn.others ≤ vec_capacity l.handles;
  ready : All (λ one. g.F.Fn.pre l.fn.duty (one, tt)) (into_iter_items l.one-iterator);
  keeps : All (λ one. (t : g.row.T.Denot) → g.F.Fn.post l.fn.duty (one, tt) t
      → g.K.Promise.kept_by l.promise t) (into_iter_items l.one-iterator);
  promised : All (λ h. h.promise ≡ l.promise) l.handles.items;
}
