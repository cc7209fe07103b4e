use Rattle.board_hall.specs.Halls.{shared_of}
use Rattle.thread_suite.proofs.hall_thread_tests.answer.Goals as goal

pub returns : goal.returns
returns g c = c.join.ensures (shared_of c.args.core.now) c.requires
