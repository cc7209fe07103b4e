use Rattle.std.proofs.Common.{◌+◌, ◌<◌, ◌^◌, arith}
use Rattle.split_tree.specs.SplitTree.{subtree_at}
use Rattle.split_tree.specs.Navigation.{StepsToward}
use Rattle.mark_board.proofs.RowsWays.{target_within, place_fits, whole_below, steps_down}
use Rattle.mark_board.proofs.walk.toward.Goals as goal

-- the node's number in the whole tree fits
from_here : (c : goal.After-size-few) → c.args.root + c.args.node < 2 ^ 32
from_here c =
    place_fits c.args.tree.now c.args.root c.args.node c.requires.root
    (omega (arith, c.size-few.ensures, c.size-few.type_inv)) c.requires.below.within

pub overflow_add-root : goal.overflow_add-root
overflow_add-root c = omega (arith, from_here c)

pub overflow_cast-root : goal.overflow_cast-root
overflow_cast-root c = omega (arith, from_here c)

-- and so does that of the node that the way leads to
to_target : (c : goal.After-new-here) → c.args.root + c.args.target < 2 ^ 32
to_target c =
    place_fits c.args.tree.now c.args.root c.args.target c.requires.root
    (omega (arith, c.size-few.ensures, c.size-few.type_inv))
    (target_within (subtree_at c.args.tree.now c.args.root) c.args.node c.args.target
    c.requires.below)

pub overflow_add-root-2 : goal.overflow_add-root-2
overflow_add-root-2 c = omega (arith, to_target c)

pub overflow_cast-root-2 : goal.overflow_cast-root-2
overflow_cast-root-2 c = omega (arith, to_target c)

pub toward-requires : goal.toward-requires
toward-requires c =
    rw (c.new-here.ensures, c.new-end.ensures)
    (whole_below c.args.tree.now c.args.root c.args.node c.args.target c.requires.root
    c.requires.below)

pub returns : goal.returns
returns c =
    let step : StepsToward c.args.tree.now (c.args.root + c.args.node) (c.args.root + c.args.target)
    c.toward.result =
    rw (c.new-here.ensures, c.new-end.ensures) at c.toward.ensures in
    rw c.index.ensures.value
    (steps_down c.args.tree.now c.args.root c.args.node c.args.target c.toward.result
    c.requires.root c.requires.below step)
