use Rattle.split_tree.proofs.LeavesNodes.{cube_within, missing_inside}
use Rattle.split_tree.proofs.tree.Tree.node_of_leaf.Goals as goal
use Rattle.split_tree.proofs.tree.Tree.node_of_leaf.Goals.{in-Cube, in-Missing}

pub returns-clause-within : goal.returns-clause-within
returns-clause-within c =
    elim c.match-leaf.branch [
      | in-Cube w ↦ rw (c.new.ensures, w.new-is)
          (cube_within c.args.self.now c.self.inside.cube_nodes.items w.in-Cube.number
          w.index.result.now
          (rw c.self.view_is at c.self.invariant.cubes_are) (rw w.in-Cube.is at c.requires)
          w.index.ensures)
      | in-Missing w ↦ rw (c.new.ensures, w.new-is)
          (missing_inside c.args.self.now c.self.inside.missing_nodes.items w.in-Missing.number
          w.index-in-Missing.result.now
          (rw c.self.view_is at c.self.invariant.missing_are) (rw w.in-Missing.is at c.requires)
          w.index-in-Missing.ensures)
    ]
