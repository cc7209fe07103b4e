use Rattle.std.proofs.Common.{length, sym, ◌∙◌, arith}
use Rattle.split_tree.specs.Clash.{cube_lists}
use Rattle.split_tree.specs.SplitTree.{numbered}
use Rattle.split_tree.proofs.ClashRelations.{length-cubes_of}
use Rattle.split_tree.proofs.ClashFits.{are_fit, all_fit, tree_fits}
use Rattle.split_tree.proofs.NodesCoding.{stored_nodes, stored_tree, few_nodes}
use Rattle.split_tree.proofs.NodesCoding.{literals_of-numbered}
use Rattle.split_tree.proofs.LeavesPaths.{cube_leaves}
use Rattle.split_tree.proofs.SplitTreeUnique.{total_most}
use Rattle.split_tree.proofs.tree.build.Goals as goal

pub fault_of-requires-clause-clash : goal.fault_of-requires-clause-clash
fault_of-requires-clause-clash c all =
    let none = rw c.in_default.is at c.in_ok-shapes.ensures.shapes in
    none (rw c.in_ok-start.ensures (are_fit 1 (cube_lists c.args.cubes.now) all))

pub of_shapes-requires-clause-nodes : goal.of_shapes-requires-clause-nodes
of_shapes-requires-clause-nodes c =
    let some = rw c.in-Some.is at c.in_ok-shapes.ensures.shapes in
    stored_nodes some.0 c.in-Some.shapes.items some.2

pub of_shapes-requires-clause-few : goal.of_shapes-requires-clause-few
of_shapes-requires-clause-few c =
    let some = rw c.in-Some.is at c.in_ok-shapes.ensures.shapes in
    few_nodes some.0 c.in-Some.shapes.items (cube_lists c.args.cubes.now)
    (rw c.in_ok-start.ensures at some.1) some.2 c.requires.literals

pub of_nodes-requires : goal.of_nodes-requires
of_nodes-requires c =
    let some = rw c.in-Some.is at c.in_ok-shapes.ensures.shapes in
    let same = c.in_ok-nodes.ensures ∙ stored_tree some.0 c.in-Some.shapes.items some.2 in
    rw same (cube_leaves some.0 (cube_lists c.args.cubes.now) (length c.args.cubes.now)
    (rw c.in_ok-start.ensures at some.1)
    (sym (length-cubes_of c.args.cubes.now)))

pub returns-clause-tree : goal.returns-clause-tree
returns-clause-tree c =
    let some = rw c.in-Some.is at c.in_ok-shapes.ensures.shapes in
    let same =
    c.in_ok-tree.ensures
    ∙ (c.in_ok-nodes.ensures ∙ stored_tree some.0 c.in-Some.shapes.items some.2) in
    rw same (rw c.in_ok-start.ensures at some.1)

pub returns-clause-fit : goal.returns-clause-fit
returns-clause-fit c ok =
    let some = rw c.in-Some.is at c.in_ok-shapes.ensures.shapes in
    all_fit 1 (cube_lists c.args.cubes.now)
    (tree_fits some.0 (numbered 1 (cube_lists c.args.cubes.now))
    (rw c.in_ok-start.ensures at some.1))

pub returns-clause-total : goal.returns-clause-total
returns-clause-total c =
    let some = rw c.in-Some.is at c.in_ok-shapes.ensures.shapes in
    let same =
    c.in_ok-tree.ensures
    ∙ (c.in_ok-nodes.ensures ∙ stored_tree some.0 c.in-Some.shapes.items some.2) in
    let most =
    rw (literals_of-numbered 1 (cube_lists c.args.cubes.now)) at
    (total_most some.0 (numbered 1 (cube_lists c.args.cubes.now))
    (rw c.in_ok-start.ensures at some.1)) in
    rw same (omega (arith, most, c.requires.literals))
