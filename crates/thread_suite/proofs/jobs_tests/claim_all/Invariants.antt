use Rattle.cube_jobs.specs.Jobs.{IsJobPassOf}
use Rattle.thread_suite.proofs.jobs_tests.claim_all.Given as goal

abbrev pub invariant-loop : goal.invariant-loop
invariant-loop g l = IsJobPassOf l.jobs l.pass
