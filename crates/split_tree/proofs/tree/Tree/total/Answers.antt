use Rattle.std.proofs.Common.{◌≡◌, ℕ, suc, Bool}
use Rattle.split_tree.specs.SplitTree.{depth_at, subtree_at}
use Rattle.split_tree.proofs.NodesCoding.{subtree-root}
use Rattle.split_tree.proofs.SplitTreeLabels.{label-root}
use Rattle.split_tree.proofs.tree.Tree.total.Goals as goal

pub returns : goal.returns
returns c =
    let tree : subtree_at c.args.self.now 0 ≡ c.args.self.now = subtree-root c.args.self.now in
    let depth : depth_at c.args.self.now 0 ≡ 0 =
    label-root (λ (d v : ℕ) (sign : Bool). suc d) 0 0 c.args.self.now in
    rw (c.root.ensures.value, tree, depth) at c.weight_under.ensures
