use Rattle.std.proofs.Common.{◌≡◌, ◌+◌, ◌≤◌, All, Contains, vec_len, vec_capacity}
use Rattle.std.specs.Vec.Iter.{into_iter_items, into_iter_len}
use Rattle.cube_jobs.specs.Jobs.{new_pass}
use Rattle.board_hall.specs.Halls.{shared_of, IsNewPass}
use Rattle.check_crew.specs.Inner.Crew.{IsDealtBy}
use Rattle.check_crew.proofs.crew.deal.Given as goal

abbrev pub invariant-loop-one : goal.invariant-loop-one
invariant-loop-one g l = record {
  passes_left : vec_len l.passes ≡ into_iter_len l.one-iterator;
  job_passes_left : vec_len l.job_passes ≡ into_iter_len l.one-iterator;
  dealt : vec_len l.jobs + into_iter_len l.one-iterator ≡ vec_len l.fn.proofs;
  room : vec_len l.fn.proofs ≤ vec_capacity l.jobs;
  worker : l.worker ≡ into_iter_len l.one-iterator;
  passes : All (IsNewPass (shared_of l.crew.turns.site.core.now)) l.passes.items;
  job_passes : All (λ pass. pass ≡ new_pass l.crew.turns.jobs.now) l.job_passes.items;
  fresh : All (λ one. g.P.TargetProofs.failures one ≡ 0) (into_iter_items l.one-iterator);
  among : All (Contains l.crew.readers.now.value.items) (into_iter_items l.one-iterator);
  jobs : All (IsDealtBy l.crew g.P.TargetProofs.failures) l.jobs.items;
}
