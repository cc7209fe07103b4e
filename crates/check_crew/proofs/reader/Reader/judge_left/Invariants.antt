use Rattle.std.proofs.Common.{◌≡◌}
use Rattle.check_crew.specs.Inner.WhileRead.{IsReader, KeepsMarks}
use Rattle.check_crew.proofs.reader.Reader.judge_left.Given as goal

abbrev pub invariant-loop : goal.invariant-loop
invariant-loop g l = record {
  reader : IsReader g.J.NamesCase.case l.self;
  examiner : l.examiner ≡ g.J.NamesCase.case;
  keeps : KeepsMarks l.initial.self.kept.boards l.self.kept.boards
      l.initial.self.kept.given.items l.self.kept.given.items;
}
