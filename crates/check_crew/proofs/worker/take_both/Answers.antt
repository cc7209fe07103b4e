use Rattle.board_hall.specs.Halls.{view_of}
use Rattle.check_crew.proofs.ApartHanded.{turns_stay}
use Rattle.check_crew.proofs.worker.take_both.Goals as goal

pub returns-in-Ok-clause-taken : goal.returns-in-Ok-clause-taken
returns-in-Ok-clause-taken g c =
    let sections = rw c.in-Ok.is at c.take_all.ensures in let targets = c.examine_targets.ensures in
    let still =
    turns_stay c.args.turns.order.now (view_of c.take_all.new.pass)
    (view_of c.examine_targets.new.pass) c.take_all.new.job_pass c.examine_targets.result
    sections.empty sections.seen targets.stays in record {
      own = targets.own;
      owes = targets.owes;
      of_jobs = sections.of_jobs;
      empty = still.0;
      seen = still.1;
    }
