use Rattle.std.proofs.Common.{All}
use Rattle.board_hall.specs.Halls.{shared_of, promised, IsPassOf}
use Rattle.thread_suite.proofs.hall_thread_tests.start_all.Given as goal

abbrev pub invariant-loop-pass : goal.invariant-loop-pass
invariant-loop-pass g l =
    All (λ thread. IsPassOf (shared_of l.core) (promised thread.promise)) l.threads.items
