use Rattle.board_hall.specs.Halls.{shared_of, IsPassOf}
use Rattle.thread_suite.proofs.hall_thread_tests.only_falls.Given as goal

abbrev pub invariant-loop : goal.invariant-loop
invariant-loop l = IsPassOf (shared_of l.core) l.pass
