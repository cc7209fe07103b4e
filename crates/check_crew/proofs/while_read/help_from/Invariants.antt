use Rattle.std.proofs.Common.{◌≡◌}
use Rattle.check_crew.specs.Inner.WhileRead.{IsHelper}
use Rattle.check_crew.proofs.while_read.help_from.Given as goal

abbrev pub invariant-loop : goal.invariant-loop
invariant-loop g l = record {
  helper : IsHelper g.J.NamesCase.case l.helper;
  examiner : l.examiner ≡ g.J.NamesCase.case;
}
