-- What the leaves of a tree weigh together.
use Rattle.std.proofs.Common.{ℕ, suc, ◌≤◌, arith}
use Rattle.split_tree.specs.SplitTree.{SplitTree, missing, cube, split, total}
use Rattle.split_tree.proofs.TablesTotals.{weight_some}

-- they weigh something, at whatever depth the tree lies
pub whole_some : (depth : ℕ) (t : SplitTree) → 1 ≤ total depth t
whole_some depth missing = weight_some depth
whole_some depth (cube k) = weight_some depth
whole_some depth (split v p n) = let a = whole_some (suc depth) p in omega (arith, a)
