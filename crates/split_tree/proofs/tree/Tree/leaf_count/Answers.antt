use Rattle.std.proofs.Common.{arith}
use Rattle.split_tree.proofs.LeavesNodes.{listed_missing}
use Rattle.split_tree.proofs.tree.Tree.leaf_count.Goals as goal

pub overflow_cast-result : goal.overflow_cast-result
overflow_cast-result c =
    let missed = listed_missing c.self.inside.nodes _ c.self.invariant.missing_are in
    omega (arith, missed.0, missed.1, c.self.invariant.cubes_are.count)

pub returns : goal.returns
returns c =
    let missed = listed_missing c.self.inside.nodes _ c.self.invariant.missing_are in
    rw (← c.self.view_is) (omega (arith, missed.0, c.self.invariant.cubes_are.count))
