use Rattle.std.proofs.Common.{◌≡◌, ◌+◌, true, None, All, vec_len}
use Rattle.std.specs.Vec.Iter.{into_iter_items, into_iter_len}
use Rattle.case_core.specs.Target.{Target}
use Rattle.cube_jobs.specs.Jobs as queue
use Rattle.cube_jobs.specs.Jobs.{JobPassOf}
use Rattle.board_hall.specs.declared.pass.Pass.{Pass}
use Rattle.board_hall.specs.Halls.{shared_of, view_of, IsPassOf}
use Rattle.proof_folder.specs.TargetProofs.{Known}
use Rattle.check_crew.specs.Inner.Apart.{IsListOf}
use Rattle.check_crew.specs.Inner.Crew.{IsHandedBy, HaveSeenClaims}
use Rattle.check_crew.proofs.crew.hand_in.Given as goal

abbrev pub invariant-loop-shift : goal.invariant-loop-shift
invariant-loop-shift g l = record {
  passes_count : vec_len l.handed.passes + into_iter_len l.shift-iterator ≡ vec_len l.fn.shifts;
  job_passes_count : vec_len l.handed.job_passes + into_iter_len l.shift-iterator
      ≡ vec_len l.fn.shifts;
  rest : All (IsHandedBy l.crew g.P.TargetProofs.held g.P.TargetProofs.failures)
      (into_iter_items l.shift-iterator);
  own : All (IsPassOf (shared_of l.crew.turns.site.core.now)) l.handed.passes.items;
  free : All (λ (pass : Pass). (view_of pass).owes ≡ None) l.handed.passes.items;
  jobs : All (queue.IsJobPassOf l.crew.turns.jobs.now) l.handed.job_passes.items;
  empty : All (λ (pass : JobPassOf). pass.found_empty ≡ true) l.handed.job_passes.items;
  seen : HaveSeenClaims l.crew.turns.order.now l.handed.passes.items l.handed.job_passes.items;
  lists : (known : Known)
      → All (λ one. (target : Target) → g.P.TargetProofs.held one target ≡ known target)
      l.crew.readers.now.value.items
      → All (λ list. IsListOf known l.crew.turns.site.case.now list.items) l.handed.lists.items;
}
