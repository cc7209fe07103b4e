use Rattle.std.proofs.Common.{◌-◌, ◌≤◌, get_or, length, arith}
use Rattle.split_tree.proofs.LeavesNodes.{count_leaves, few_leaves}
use Rattle.split_tree.proofs.tree.Tree.cube_count.Goals as goal

pub overflow_cast-result : goal.overflow_cast-result
overflow_cast-result c =
    let count = c.self.invariant.cubes_are.count in
    let few = c.self.invariant.few in
    omega (
      arith,
      count,
      few,
      count_leaves c.self.inside.nodes,
      few_leaves c.self.inside.nodes,
      c.len.ensures,
      c.self.inside.cube_nodes.ok,
    )

pub returns-clause-leaves : goal.returns-clause-leaves
returns-clause-leaves c = λ k some few.
    let l : k ≤ length c.self.inside.cube_nodes.items =
    omega (arith, few, c.len.ensures, c.self.inside.cube_nodes.ok) in
    rw (← c.self.view_is) (
      get_or c.self.inside.cube_nodes.items (k - 1) 0,
      (c.self.invariant.cubes_are.within k some l, c.self.invariant.cubes_are.each k some l),
    )
