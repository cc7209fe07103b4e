use Rattle.std.proofs.Common.{◌≡◌, ◌++◌, map, drop}
use Rattle.mark_board.specs.TopPlaces.{worth_of}
use Rattle.mark_board.proofs.stored.worths_of.Given as goal

abbrev pub invariant-loop-node : goal.invariant-loop-node
invariant-loop-node l =
    l.worths.items ++ map (worth_of l.tree) (drop l.node-index l.nodes)
    ≡ map (worth_of l.tree) l.nodes
