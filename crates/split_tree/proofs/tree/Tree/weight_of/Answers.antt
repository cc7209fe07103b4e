use Rattle.std.proofs.Common.{◌∙◌}
use Rattle.split_tree.specs.SplitTree.{depth_at, subtree_at}
use Rattle.split_tree.proofs.LeavesNodes.{leaf_there}
use Rattle.split_tree.proofs.TablesTotals.{leaf_total, weight_some}
use Rattle.split_tree.proofs.tree.Tree.weight_of.Goals as goal

pub returns-clause-weight : goal.returns-clause-weight
returns-clause-weight c =
    let leaf =
    leaf_there c.args.self.now c.node_of_leaf.result c.args.leaf c.node_of_leaf.ensures.here in (
      c.node_of_leaf.result,
      c.node_of_leaf.ensures.here,
      c.weight_under.ensures
          ∙ leaf_total (depth_at c.args.self.now c.node_of_leaf.result)
          (subtree_at c.args.self.now c.node_of_leaf.result) leaf,
    )

pub returns-clause-some : goal.returns-clause-some
returns-clause-some c =
    let leaf =
    leaf_there c.args.self.now c.node_of_leaf.result c.args.leaf c.node_of_leaf.ensures.here in
    rw (
      c.weight_under.ensures,
      leaf_total (depth_at c.args.self.now c.node_of_leaf.result)
          (subtree_at c.args.self.now c.node_of_leaf.result) leaf,
    )
    (weight_some (depth_at c.args.self.now c.node_of_leaf.result))
