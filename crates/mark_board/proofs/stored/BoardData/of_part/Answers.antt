use Rattle.std.proofs.Common.{◌≡◌, ◌+◌, ◌-◌, ◌≤◌, ◌∙◌, subst, arith, length, replicate, take, drop}
use Rattle.split_tree.specs.SplitTree.{size, subtree_at}
use Rattle.split_tree.specs.Navigation.{AreTotals}
use Rattle.split_tree.proofs.SplitTreeLabels.{inside}
use Rattle.mark_board.specs.declared.mark.Mark.TheVariants.{Open}
use Rattle.mark_board.specs.Rows.{AreRowsKept}
use Rattle.mark_board.specs.TopPlaces.{worth_of}
use Rattle.mark_board.proofs.MarkingSound.{at_first}
use Rattle.mark_board.proofs.RowsWorths.{part_kept}
use Rattle.mark_board.proofs.stored.BoardData.of_part.Goals as goal

pub slice_bounds-new-end : goal.slice_bounds-new-end
slice_bounds-new-end c =
    let w : c.in_ok-root.root + size (subtree_at c.args.case.now.tree c.in_ok-root.root)
    ≤ size c.args.case.now.tree =
    inside c.args.case.now.tree c.in_ok-root.root c.in_ok-root.ensures.within in
    let t : AreTotals c.args.case.now.tree c.weights.result.now =
    rw c.tree-tree.ensures.tree at c.weights.ensures in
    let e : c.end_of-end.result
    ≡ c.in_ok-root.root + size (subtree_at c.args.case.now.tree c.in_ok-root.root) =
    rw c.tree-tree.ensures.tree at c.end_of-end.ensures in
    let i = c.index.ensures.value in
    omega (arith, w, t.long, e, i)

pub returns-clause-data : goal.returns-clause-data
returns-clause-data c =
    let tree = c.args.case.now.tree in
    let root = c.in_ok-root.root in
    let t : AreTotals tree c.weights.result.now =
    rw c.tree-tree.ensures.tree at c.weights.ensures in
    let e : c.end_of-end.result ≡ root + size (subtree_at tree root) =
    rw c.tree-tree.ensures.tree at c.end_of-end.ensures in
    let i = c.index.ensures.value in
    let n : c.end_of-end.result - c.index.result ≡ size (subtree_at tree root) =
    omega (arith, e, i) in
    let n2 : c.end_of-end.result - root ≡ size (subtree_at tree root) = omega (arith, e) in
    let weights : c.in_ok-rows.rows.weights.items
    ≡ take (c.end_of-end.result - root) (drop root c.weights.result.now) =
    rw c.index.ensures.value at c.in_ok-rows.ensures.weights in
    let marks : c.in_ok-rows.rows.marks.items
    ≡ replicate (length (take (c.end_of-end.result - root) (drop root c.weights.result.now))) Open =
    rw c.index.ensures.value at c.in_ok-rows.ensures.marks in
    record {
      is_region = record {
        within = c.requires.part;
        placed = c.number-root.ensures ∙ c.in_ok-root.ensures.value;
      };
      kept =
          subst (λ from. AreRowsKept (subtree_at tree from) (λ row. worth_of tree (from + row))
          c.in_ok-rows.rows.marks.items c.in_ok-rows.rows.weights.items) c.in_ok-root.ensures.value
          (part_kept tree c.weights.result.now c.in_ok-rows.rows.weights.items
          c.in_ok-rows.rows.marks.items root (c.end_of-end.result - root) t
          c.in_ok-root.ensures.within n2 weights marks);
      sound = rw marks (at_first _ _ _);
    }
