use Rattle.std.proofs.Common.{All}
use Rattle.board_hall.specs.Halls.{shared_of, IsPassOf}
use Rattle.thread_suite.proofs.hall_thread_tests.all_back.Given as goal

abbrev pub invariant-loop-thread : goal.invariant-loop-thread
invariant-loop-thread g l = All (IsPassOf (shared_of l.core)) l.passes.items
