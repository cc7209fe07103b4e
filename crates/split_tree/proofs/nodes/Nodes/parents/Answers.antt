use Rattle.std.proofs.Common.{◌≡◌, arith}
use Rattle.split_tree.specs.SplitTree.{size}
use Rattle.split_tree.proofs.TablesParents.{parented_all}
use Rattle.split_tree.proofs.nodes.Nodes.parents.Goals as goal

pub returns : goal.returns
returns c =
    let all : c.loop-i.i ≡ size c.args.self.now = omega arith in
    parented_all c.args.self.now c.loop-i.parents.items c.loop-i.invariant.long
    (rw all at c.loop-i.invariant.known)
