use Rattle.check_crew.proofs.SeenTurns.{stays_same}
use Rattle.check_crew.proofs.targets.examine_target.Goals as goal

pub returns-then-has_section-clause-stays : goal.returns-then-has_section-clause-stays
returns-then-has_section-clause-stays g c = stays_same _

pub returns-in_err-read-clause-stays : goal.returns-in_err-read-clause-stays
returns-in_err-read-clause-stays g c = stays_same _

pub returns-in-None-clause-stays : goal.returns-in-None-clause-stays
returns-in-None-clause-stays g c = stays_same _
