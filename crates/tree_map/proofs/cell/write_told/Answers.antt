use Rattle.std.proofs.Common.{◌≡◌, List, ℕ, ◌++◌, ◌∙◌, ap, sym}
use Rattle.std.specs.Prelude.{codes}
use Rattle.split_tree.specs.SplitTree.{missing, subtree_at}
use Rattle.mark_board.specs.Marking.{mark_at}
use Rattle.node_fields.specs.Fields.{status_fields}
use Rattle.tree_map.specs.Picture.{path_fields}
use Rattle.tree_map.proofs.PictureNodes.{missing_stands, told_missing}
use Rattle.tree_map.proofs.PictureTexts.{and_then}
use Rattle.tree_map.proofs.cell.write_told.Goals as goal

pub returns-in_ok-write_status-in-Leaf-Missing : goal.returns-in_ok-write_status-in-Leaf-Missing
returns-in_ok-write_status-in-Leaf-Missing c =
    let case = c.args.boards.now.case in
    let marks = c.args.boards.now.marks in
    let first : List ℕ = c.args.text.now.items in
    let tree : c.tree.result.now ≡ case.tree =
    c.tree.ensures.tree ∙ ap (λ x. x.tree) c.case.ensures in
    let here : subtree_at case.tree c.args.node ≡ missing =
    missing_stands case.tree c.args.node _
    (rw (tree, c.in-Leaf-Missing.field-0-is) at c.in-Leaf-Missing.ensures) in
    let path = path_fields case.tree c.args.node in
    let named =
    and_then first c.extend_from_slice-in-Leaf-Missing.new.self.items c.write_path_to.new.text.items
    (codes "m") path
    c.in_ok-extend_from_slice-in-Leaf-Missing.ensures.items
    (rw c.case-in-Leaf-Missing.ensures at c.in_ok-write_path_to-in-Leaf-Missing.ensures) in
    let all =
    and_then first c.write_path_to.new.text.items c.write_status-in-Leaf-Missing.new.text.items
    (codes "m" ++ path) (status_fields (mark_at marks c.args.node)) named
    (rw c.mark_at-mark.ensures.mark at c.in_ok-write_status-in-Leaf-Missing.ensures) in
    all ∙ ap (λ xs. first ++ xs) (sym (told_missing case marks c.args.node _ here))
