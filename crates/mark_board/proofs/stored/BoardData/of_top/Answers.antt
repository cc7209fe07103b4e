use Rattle.std.proofs.Common.{◌≡◌, length, map, replicate, ap, ◌∙◌}
use Rattle.split_tree.specs.Parts.{top, top_nodes}
use Rattle.mark_board.specs.declared.mark.Mark.TheVariants.{Open}
use Rattle.mark_board.specs.TopPlaces.{worth_of}
use Rattle.mark_board.proofs.BoardNumbers.{length-top_nodes}
use Rattle.mark_board.proofs.MarkingSound.{at_first}
use Rattle.mark_board.proofs.TopPlacesNodes.{node_within, top_kept, length-mapped}
use Rattle.mark_board.proofs.stored.BoardData.of_top.Goals as goal

pub worths_of-requires : goal.worths_of-requires
worths_of-requires c =
    let tree = c.args.case.now.tree in
    let nodes : c.deref.result.now ≡ top_nodes c.args.cut 0 tree =
    rw c.tree.ensures.tree at (c.deref.ensures.value ∙ c.in_ok-above.ensures.nodes) in
    rw (c.tree-2.ensures.tree, nodes)
    (λ i l. node_within tree c.args.cut i (rw (length-top_nodes c.args.cut 0 tree) at l))

pub returns-clause-data : goal.returns-clause-data
returns-clause-data c =
    let tree = c.args.case.now.tree in
    let nodes : c.in_ok-above.above.nodes.items ≡ top_nodes c.args.cut 0 tree =
    rw c.tree.ensures.tree at c.in_ok-above.ensures.nodes in
    let above : c.in_ok-above.above.tree ≡ top c.args.cut tree =
    rw c.tree.ensures.tree at c.in_ok-above.ensures.tree in
    let worths : c.in_ok-worths.worths.items ≡ map (worth_of tree) c.in_ok-above.above.nodes.items =
    rw (c.tree-2.ensures.tree, c.deref.ensures.value) at c.in_ok-worths.ensures in
    let weights : c.in_ok-rows.rows.weights.items
    ≡ map (worth_of tree) c.in_ok-above.above.nodes.items =
    c.in_ok-rows.ensures.weights ∙ (c.deref-2.ensures.value ∙ worths) in
    let marks : c.in_ok-rows.rows.marks.items
    ≡ replicate (length c.in_ok-rows.rows.weights.items) Open =
    rw c.in_ok-rows.ensures.weights c.in_ok-rows.ensures.marks in
    record {
      is_region = record { low = c.requires; nodes = nodes; is_top = above };
      kept =
          top_kept tree c.args.cut c.in_ok-above.above.nodes.items c.in_ok-rows.rows.weights.items
          c.in_ok-rows.rows.marks.items nodes weights marks;
      sound = rw marks (at_first _ _ _);
    }

pub returns-clause-marks : goal.returns-clause-marks
returns-clause-marks c =
    let tree = c.args.case.now.tree in
    let nodes : c.in_ok-above.above.nodes.items ≡ top_nodes c.args.cut 0 tree =
    rw c.tree.ensures.tree at c.in_ok-above.ensures.nodes in
    let worths : c.in_ok-worths.worths.items ≡ map (worth_of tree) c.in_ok-above.above.nodes.items =
    rw (c.tree-2.ensures.tree, c.deref.ensures.value) at c.in_ok-worths.ensures in
    c.in_ok-rows.ensures.marks
    ∙ ap (λ worths. replicate (length worths) Open) (c.deref-2.ensures.value ∙ worths)
    ∙ ap (λ count. replicate count Open)
    (length-mapped (worth_of tree) c.in_ok-above.above.nodes.items ∙ ap length nodes
    ∙ length-top_nodes c.args.cut 0 tree)
