use Rattle.std.proofs.Common.{◌≡◌, ◌∙◌, sym, arith}
use Rattle.split_tree.specs.Parts.{top}
use Rattle.split_tree.specs.Navigation.{AreBranches}
use Rattle.mark_board.specs.TopPlaces.{top_node}
use Rattle.mark_board.proofs.TopPlacesNodes.{place_root, place_first, place_second, place_own}
use Rattle.mark_board.proofs.TopPlacesNodes.{nodes_long, nodes_read}
use Rattle.mark_board.proofs.board.Board.place_above.Goals as goal

pub loop-node-init : goal.loop-node-init
loop-node-init c =
    place_root c.args.self.now.case.tree c.args.self.now.cut c.args.node c.requires.node

pub index-requires : goal.index-requires
index-requires c =
    let board = c.args.self.now in
    let k =
    nodes_long board.case.tree board.cut c.args.above.now.nodes.items c.requires.above.nodes in
    let l = c.loop-node.invariant.0 in
    omega (arith, k, l, c.args.above.now.nodes.ok)

pub index-requires-in-loop-node-2 : goal.index-requires-in-loop-node-2
index-requires-in-loop-node-2 c =
    let board = c.args.self.now in
    let k =
    nodes_long board.case.tree board.cut c.args.above.now.nodes.items c.requires.above.nodes in
    let b : AreBranches (top board.cut board.case.tree) c.loop-node.place _ _ =
    rw (c.requires.above.is_top, c.new-here.ensures) at c.in-Some.ensures in
    let l = b.within in
    let i = c.index-in-loop-node.ensures.value in
    omega (arith, k, l, i, c.args.above.now.nodes.ok)

pub loop-node-preserved-then-number : goal.loop-node-preserved-then-number
loop-node-preserved-then-number c =
    let board = c.args.self.now in
    let tree = board.case.tree in
    let b : AreBranches (top board.cut tree) c.loop-node.place _ _ =
    rw (c.requires.above.is_top, c.new-here.ensures) at c.in-Some.ensures in
    let here : c.index.result.now ≡ top_node board.cut tree c.loop-node.place =
    nodes_read tree board.cut c.args.above.now.nodes.items c.loop-node.place c.index.result.now
    c.requires.above.nodes c.loop-node.invariant.0 c.index.ensures in
    let second : c.index-in-loop-node-2.result.now
    ≡ top_node board.cut tree c.index-in-loop-node.result =
    nodes_read tree board.cut c.args.above.now.nodes.items c.index-in-loop-node.result
    c.index-in-loop-node-2.result.now c.requires.above.nodes
    (rw c.index-in-loop-node.ensures.value b.within) c.index-in-loop-node-2.ensures in
    let n1 = c.number.ensures in
    let n2 = c.number-in-loop-node.ensures in
    let i2 = c.index-in-loop-node.ensures.value in
    let n3 = c.number-in-loop-node-2.ensures in
    let n4 = c.number-in-loop-node-3.ensures in
    rw c.index-place.ensures.value
    (place_first tree board.cut c.loop-node.place _ _ c.args.node c.loop-node.invariant.0 b
    c.loop-node.invariant.1 (λ e. c.loop-node-test.true (n1 ∙ (here ∙ (e ∙ sym n2))))
    (omega (arith, rw i2 at second, n3, n4, c.if-number.true)))

pub loop-node-preserved : goal.loop-node-preserved
loop-node-preserved c =
    let board = c.args.self.now in
    let tree = board.case.tree in
    let b : AreBranches (top board.cut tree) c.loop-node.place _ _ =
    rw (c.requires.above.is_top, c.new-here.ensures) at c.in-Some.ensures in
    let second : c.index-in-loop-node-2.result.now
    ≡ top_node board.cut tree c.index-in-loop-node.result =
    nodes_read tree board.cut c.args.above.now.nodes.items c.index-in-loop-node.result
    c.index-in-loop-node-2.result.now c.requires.above.nodes
    (rw c.index-in-loop-node.ensures.value b.within) c.index-in-loop-node-2.ensures in
    let i2 = c.index-in-loop-node.ensures.value in
    let n3 = c.number-in-loop-node-2.ensures in
    let n4 = c.number-in-loop-node-3.ensures in
    rw c.index-place-else-number.ensures.value
    (place_second tree board.cut c.loop-node.place _ _ c.args.node
    c.loop-node.invariant.0 b c.loop-node.invariant.1
    (omega (arith, rw i2 at second, n3, n4, c.if-number.false)))

pub returns : goal.returns
returns c =
    let board = c.args.self.now in
    let tree = board.case.tree in
    let here : c.index.result.now ≡ top_node board.cut tree c.loop-node.place =
    nodes_read tree board.cut c.args.above.now.nodes.items c.loop-node.place c.index.result.now
    c.requires.above.nodes c.loop-node.invariant.0 c.index.ensures in
    place_own tree board.cut c.loop-node.place c.args.node c.loop-node.invariant.0
    c.loop-node.invariant.1
    (sym here ∙ (sym c.number.ensures ∙ (c.loop-node-test.false ∙ c.number-in-loop-node.ensures)))
