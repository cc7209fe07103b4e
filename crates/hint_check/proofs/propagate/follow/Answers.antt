use Rattle.std.proofs.Common.{sym}
use Rattle.hint_check.specs.Inner.Assignment.{set_of}
use Rattle.hint_check.proofs.PropagationSteps.{chain-missing, chain-falsified, chain-forces}
use Rattle.hint_check.proofs.PropagationSteps.{chain-undecided}
use Rattle.hint_check.proofs.propagate.follow.Goals as goal

pub returns-in_default : goal.returns-in_default
returns-in_default c hints =
    chain-missing c.args.view.now (set_of c.args.assignment.now) c.args.hint hints
    (sym c.in_default.ensures)

pub returns-in-Falsified : goal.returns-in-Falsified
returns-in-Falsified c hints =
    chain-falsified c.args.view.now (set_of c.args.assignment.now) c.args.hint hints
    c.in-Some.clause (sym c.in-Some.ensures) (sym c.in-Falsified.ensures)

pub returns-in-Forces : goal.returns-in-Forces
returns-in-Forces c hints =
    chain-forces c.args.view.now (set_of c.args.assignment.now) c.args.hint hints
    c.in-Some.clause c.in-Forces.lit (sym c.in-Some.ensures) (sym c.in-Forces.ensures)

pub returns-in-Undecided : goal.returns-in-Undecided
returns-in-Undecided c hints =
    chain-undecided c.args.view.now (set_of c.args.assignment.now) c.args.hint hints
    c.in-Some.clause (sym c.in-Some.ensures) (sym c.in-Undecided.ensures)
