use Rattle.std.proofs.Common.{◌≡◌, arith}
use Rattle.split_tree.specs.SplitTree.{size}
use Rattle.split_tree.proofs.LeavesNodes.{placed_all}
use Rattle.split_tree.proofs.nodes.Nodes.cube_nodes.Goals as goal

pub returns : goal.returns
returns c =
    let all : c.loop-i.i ≡ size c.args.self.now = omega arith in
    placed_all c.args.self.now c.args.cubes c.loop-i.nodes.items c.requires c.loop-i.invariant.long
    (rw all at c.loop-i.invariant.known)
