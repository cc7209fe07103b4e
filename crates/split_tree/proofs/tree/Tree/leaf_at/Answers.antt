use Rattle.std.proofs.Common.{◌≡◌, ◌<◌, ◌+◌, ◌-◌, Ok, Err, sym, ◌∙◌, arith}
use Rattle.std.proofs.lemmas.List.Sorted.{searched}
use Rattle.split_tree.specs.SplitTree.{missing, size, subtrees, subtree_at}
use Rattle.split_tree.specs.Leaves.{missing_nodes}
use Rattle.split_tree.proofs.LeavesNodes.{listed_missing, missing_rise, missing_root}
use Rattle.split_tree.proofs.LeavesNodes.{not_missed}
use Rattle.split_tree.proofs.tree.Tree.leaf_at.Goals as goal

-- the place of a missing leaf among them is less than the number of all nodes
place_fits : (c : goal.In-Ok) → c.in-Ok.place < size c.self.inside.nodes
place_fits c =
    let missed =
    listed_missing c.self.inside.nodes c.deref.result.now
    (c.deref.ensures.value ∙ c.self.invariant.missing_are) in
    omega (arith, missed.0, missed.1, c.in-Ok.ensures.bound)

pub overflow_cast-result : goal.overflow_cast-result
overflow_cast-result c = omega (arith, place_fits c)

pub overflow_add-result : goal.overflow_add-result
overflow_add-result c = omega (arith, place_fits c)

pub unreachable-requires : goal.unreachable-requires
unreachable-requires c =
    let listed : c.deref.result.now ≡ missing_nodes c.self.inside.nodes =
    c.deref.ensures.value ∙ c.self.invariant.missing_are in
    let missed =
    searched c.deref.result.now c.number.result (Err c.in-Err.field-0) c.in-Err.ensures.position
    (rw listed (missing_rise 0 (subtrees c.self.inside.nodes))) in
    let gaps = rw (listed, c.number.ensures) at missed in
    let here : subtree_at c.self.inside.nodes c.args.node ≡ missing =
    missing_root (subtree_at c.self.inside.nodes c.args.node)
    (sym c.in-Missing.is ∙ rw c.index.ensures.value at c.shape.ensures) in
    let within : c.args.node < size c.self.inside.nodes = rw c.self.view_is c.requires in
    not_missed c.self.inside.nodes c.args.node c.in-Err.field-0 within here gaps.1 gaps.2

pub returns-in-Ok : goal.returns-in-Ok
returns-in-Ok c =
    let listed : c.deref.result.now ≡ missing_nodes c.self.inside.nodes =
    c.deref.ensures.value ∙ c.self.invariant.missing_are in
    let found =
    searched c.deref.result.now c.number.result (Ok c.in-Ok.place) c.in-Ok.ensures.position
    (rw listed (missing_rise 0 (subtrees c.self.inside.nodes))) in
    let there = rw (listed, c.number.ensures) at found in
    let q : c.in-Ok.place + 1 - 1 ≡ c.in-Ok.place = omega arith in
    rw (← c.self.view_is) (omega arith, omega (arith, there.0), rw q (sym there.1))
