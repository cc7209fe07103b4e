use Rattle.std.proofs.Common.{◌≡◌, ◌<◌, ◌≤◌, ◌++◌, ◌∙◌, sym, ap, append-nil}
use Rattle.std.proofs.lemmas.List.{take_all}
use Rattle.split_tree.specs.SplitTree.{subtrees, size}
use Rattle.split_tree.proofs.NodesCoding.{length-subtrees}
use Rattle.split_tree.proofs.NavigationSteps.{split_branches}
use Rattle.cube_report.specs.Report.{node_lines}
use Rattle.cube_report.proofs.ReportLines.{node_turn, split_part, leaf_part}
use Rattle.cube_report.proofs.report.write_nodes.Goals.{in-Some+in_ok-write_marked, in_default}
use Rattle.cube_report.proofs.report.write_nodes.Goals as goal

pub loop-number-preserved : goal.loop-number-preserved
loop-number-preserved g c =
    let tree : c.tree-tree.result.now ≡ (g.M.MarkedTree.splits c.args.told.now) =
    c.tree-tree.ensures in
    let inside : c.loop-number.number < size (g.M.MarkedTree.splits c.args.told.now) =
    rw (c.size-number-end.ensures, tree) at c.loop-number-test.true in
    node_turn (g.M.MarkedTree.splits c.args.told.now) (g.M.MarkedTree.marks c.args.told.now)
    c.args.text.now.items
    c.loop-number.text.items c.match-branches.text.items c.loop-number.number inside
    c.loop-number.invariant
    (elim c.match-branches.branch [
      | in-Some+in_ok-write_marked w ↦
          let here =
          split_branches (g.M.MarkedTree.splits c.args.told.now) c.loop-number.number _ _
          (rw (tree, c.new-node.ensures) at w.in-Some.ensures) in
          let part =
          split_part (g.M.MarkedTree.splits c.args.told.now) (g.M.MarkedTree.marks c.args.told.now)
          c.loop-number.number _ here in
          ap (λ x. x.items) w.text-is
          ∙ ((rw c.new-node.ensures at w.in_ok-write_marked.ensures)
          ∙ ap (λ xs. c.loop-number.text.items ++ xs) (sym part))
      | in_default w ↦
          let part =
          leaf_part (g.M.MarkedTree.splits c.args.told.now) (g.M.MarkedTree.marks c.args.told.now)
          c.loop-number.number _
          (rw (tree, c.new-node.ensures) at w.in_default.ensures) in
          ap (λ x. x.items) w.text-is
          ∙ (sym (append-nil c.loop-number.text.items)
          ∙ ap (λ xs. c.loop-number.text.items ++ xs) (sym part))
    ])

pub returns : goal.returns
returns g c =
    let tree : c.tree-tree.result.now ≡ (g.M.MarkedTree.splits c.args.told.now) =
    c.tree-tree.ensures in
    let all : size (g.M.MarkedTree.splits c.args.told.now) ≤ c.loop-number.number =
    rw (c.size-number-end.ensures, tree) at c.loop-number-test.false in
    c.loop-number.invariant
    ∙ ap (λ xs. c.args.text.now.items
    ++ node_lines (g.M.MarkedTree.splits c.args.told.now) (g.M.MarkedTree.marks c.args.told.now) 0
    xs)
    (take_all c.loop-number.number (subtrees (g.M.MarkedTree.splits c.args.told.now))
    (rw (length-subtrees (g.M.MarkedTree.splits c.args.told.now)) all))
