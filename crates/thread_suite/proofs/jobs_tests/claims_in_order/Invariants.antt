use Rattle.cube_jobs.specs.Jobs.{IsJobPassOf}
use Rattle.thread_suite.proofs.jobs_tests.claims_in_order.Given as goal

abbrev pub invariant-loop-place : goal.invariant-loop-place
invariant-loop-place g l = IsJobPassOf l.jobs l.pass
