use Rattle.std.proofs.Common.{◌≡◌, arith}
use Rattle.std.proofs.lemmas.List.Elements.{All-push, All-rest}
use Rattle.check_crew.proofs.threads.start.Goals as goal

pub loop-one-preserved : goal.loop-one-preserved
loop-one-preserved g c =
    let was = c.loop-one.invariant in let next = c.in-Some.ensures.steps in
    let promise = c.args.promise in record {
      started = omega (arith, c.push_reserved.ensures.len, next.1, was.started);
      room = omega (arith, c.push_reserved.ensures.capacity, was.room);
      ready = All-rest (λ one. g.F.Fn.pre c.args.duty.now (one, tt)) _ _ _ next.0 was.ready;
      keeps =
          All-rest
          (λ one. (t : g.row.T.Denot) → g.F.Fn.post c.args.duty.now (one, tt) t
          → g.K.Promise.kept_by promise t) _ _ _ next.0 was.keeps;
      promised =
          rw c.push_reserved.ensures.items
          (All-push (λ h. h.promise ≡ promise) _ _ was.promised c.in-Ok.ensures.ok);
    }
