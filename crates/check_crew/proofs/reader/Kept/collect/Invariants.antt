use Rattle.check_crew.specs.Inner.WhileRead.{KeepsMarks}
use Rattle.check_crew.proofs.reader.Kept.collect.Given as goal

abbrev pub invariant-loop : goal.invariant-loop
invariant-loop g l =
    KeepsMarks l.initial.self.boards l.self.boards l.initial.self.given.items l.self.given.items
