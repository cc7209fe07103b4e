use Rattle.std.proofs.Common.{All}
use Rattle.cube_jobs.specs.Jobs.{IsJobPassOf}
use Rattle.thread_suite.proofs.jobs_tests.claim_by_turns.Given as goal

abbrev pub invariant-loop-pass : goal.invariant-loop-pass
invariant-loop-pass g l = All (λ pass. IsJobPassOf l.jobs pass) l.done.items
