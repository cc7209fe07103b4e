use Rattle.std.proofs.Common.{◌≡◌, None, All}
use Rattle.cube_jobs.specs.Jobs as queue
use Rattle.board_hall.specs.Halls.{shared_of, view_of, IsPassOf}
use Rattle.check_crew.specs.Inner.Crew.{HasSeenTurn}
use Rattle.check_crew.proofs.worker.take_turns.Given as goal

abbrev pub invariant-loop : goal.invariant-loop
invariant-loop g l = record {
  examiner : l.examiner ≡ l.turns.site.case.now;
  pass : IsPassOf (shared_of l.turns.site.core.now) l.pass;
  owes : (view_of l.pass).owes ≡ None;
  job_pass : queue.IsJobPassOf l.turns.jobs.now l.job_pass;
  seen : All (HasSeenTurn l.turns.order.now (view_of l.pass)) l.job_pass.claims;
}
