use Rattle.std.proofs.Common.{◌≡◌, List, ℕ}
use Rattle.byte_flow.specs.Device.{GrewBy}
use Rattle.check_crew.specs.Inner.WhileRead.{IsBelowLabel, IsReader}
use Rattle.check_crew.proofs.reader.Reader.read_from.Given as goal

abbrev pub invariant-loop : goal.invariant-loop
invariant-loop g l = record {
  reader : IsReader g.J.NamesCase.case l.self;
  examiner : l.examiner ≡ g.J.NamesCase.case;
  cut : l.self.kept.boards.cut ≡ l.initial.self.kept.boards.cut;
  count : g.S.Stream.failures l.source ≡ g.S.Stream.failures l.initial.source;
  below : (icnf begun : List ℕ) (start : g.row.S.Denot)
      → IsBelowLabel l.initial.self.kept.boards l.initial.self.kept.given.items icnf
      (GrewBy (g.S.Stream.gives start) begun) (g.S.Stream.gives l.initial.source)
      l.initial.text l.fn.first.line.items l.fn.first.lines
      → IsBelowLabel l.self.kept.boards l.self.kept.given.items icnf
      (GrewBy (g.S.Stream.gives start) begun) (g.S.Stream.gives l.source) l.text
      l.label.line.items l.label.lines;
}
