use Rattle.std.proofs.Common.{ap, inr}
use Rattle.check_crew.specs.declared.fault.CrewFault.TheVariants.{Memory}
use Rattle.check_crew.proofs.while_read.read_with.Goals as goal

pub returns-in_default : goal.returns-in_default
returns-in_default g c =
    let none = c.nothing_read.ensures in
    inr (none.lent, ap (λ kept. kept.boards) none.kept, (Memory, none.end))
