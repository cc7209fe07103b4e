use Rattle.std.proofs.Common.{◌≡◌, ◌++◌, map, drop}
use Rattle.cnf_text.specs.Literal.{literal_of}
use Rattle.split_tree.specs.Clash.{cube_lists}
use Rattle.suite.proofs.literals.cubes.Given as goal

abbrev pub invariant-loop-numbers : goal.invariant-loop-numbers
invariant-loop-numbers g l =
    cube_lists l.cubes.items
    ++ map (λ numbers. map literal_of numbers.now) (drop l.numbers-index l.lists)
    ≡ map (λ numbers. map literal_of numbers.now) l.lists
