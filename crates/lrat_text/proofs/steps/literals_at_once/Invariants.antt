use Rattle.std.proofs.Common.{◌≡◌, List, ◌++◌, map, length}
use Rattle.std.specs.List.{AllByRecursion}
use Rattle.cnf_text.specs.Literal.{Literal, IsVariable}
use Rattle.lrat_text.specs.Grammar.{signed}
use Rattle.lrat_text.proofs.steps.literals_at_once.Given as goal

abbrev pub invariant-loop-literal : goal.invariant-loop-literal
invariant-loop-literal g l =
    (run : List Literal) × (l.literals.items ≡ l.initial.literals.items ++ run)
    × AllByRecursion (λ literal. IsVariable literal.variable) run
    × (g.W.StepWords.ahead 2 l.fn.words ≡ map signed run ++ g.W.StepWords.ahead 2 l.left)
    × (g.W.StepWords.cut 2 l.fn.words ≡ g.W.StepWords.cut 2 l.left)

abbrev pub decreases-loop-literal : goal.decreases-loop-literal
decreases-loop-literal g l = length (g.W.StepWords.ahead 2 l.left)
