use Rattle.std.proofs.Common.{◌+◌, arith}
use Rattle.split_tree.specs.SplitTree.{numbered}
use Rattle.split_tree.proofs.ClashFits.{are_fit, all_fit, tree_fits}
use Rattle.split_tree.proofs.SplitTreeUnique.{literals_of}
use Rattle.split_tree.proofs.SplitTreeExists.{fit_tree}
use Rattle.split_tree.proofs.laws.tree_where_all_fit.Goals as goal

pub returns : goal.returns
returns c cubes = (
  λ all. fit_tree (literals_of (numbered 1 cubes) + 1) (numbered 1 cubes) (omega arith)
      (are_fit 1 cubes all),
  λ tree is. all_fit 1 cubes (tree_fits tree (numbered 1 cubes) is),
)
