use Rattle.std.proofs.Common.{◌≡◌, ◌∙◌, ap}
use Rattle.split_tree.proofs.NodesCoding.{subtree-root}
use Rattle.mark_board.specs.Marking.{open_weight, refuted_by}
use Rattle.mark_board.specs.TopPlaces.{worth_of}
use Rattle.cube_report.proofs.ReportWhole.{root_answer}
use Rattle.cube_join.proofs.joining.Join.report.Goals as goal

pub returns-clause-refuted : goal.returns-clause-refuted
returns-clause-refuted c =
    let tree : c.in_ok-told.told.tree ≡ c.args.self.now.tree =
    c.in_ok-told.ensures.0 ∙ ap (λ m. m.tree) c.self.view_is in
    let marks : c.in_ok-told.told.marks ≡ c.args.self.now.marks =
    c.in_ok-told.ensures.1 ∙ c.deref.ensures.value ∙ ap (λ m. m.marks) c.self.view_is in
    let weight : c.open_under-refuted.result
    ≡ open_weight (worth_of c.args.self.now.tree) (refuted_by c.args.self.now.marks) 0
    c.args.self.now.tree =
    rw (tree, marks, c.root.ensures.value, subtree-root c.args.self.now.tree)
    at c.open_under-refuted.ensures in
    root_answer c.args.self.now.tree (refuted_by c.args.self.now.marks)
    c.open_under-refuted.result weight
