use Rattle.std.proofs.lemmas.List.Elements.{All-nil}
use Rattle.board_hall.specs.Halls.{view_of}
use Rattle.check_crew.proofs.SeenTurns.{stays_same}
use Rattle.check_crew.proofs.targets.examine_targets.Goals as goal

pub returns-in_default-clause-examined : goal.returns-in_default-clause-examined
returns-in_default-clause-examined g c =
    c.in_ok-first.ensures.absent (view_of c.args.pass.now) (rw c.requires.none (All-nil _))

pub take_targets-requires-clause-examined : goal.take_targets-requires-clause-examined
take_targets-requires-clause-examined g c = λ κs within.
    rw c.in_ok-first.ensures.held
    (c.in_ok-first.ensures.absent (view_of c.args.pass.now) (rw c.requires.none (All-nil _)))

pub returns-clause-examined : goal.returns-clause-examined
returns-clause-examined g c = rw c.in_ok-first.ensures.held at c.take_targets.ensures.examined

pub returns-in_default-clause-stays : goal.returns-in_default-clause-stays
returns-in_default-clause-stays g c = stays_same _
