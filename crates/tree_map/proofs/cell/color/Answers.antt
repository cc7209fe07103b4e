use Rattle.std.proofs.Common.{◌≡◌, ◌∙◌, ap, sym}
use Rattle.tree_map.proofs.PictureNodes.{color_covered, color_marked, color_rejected}
use Rattle.tree_map.proofs.PictureNodes.{color_open, color_part}
use Rattle.tree_map.proofs.cell.color.Goals as goal

pub returns-then-open_under-eq0 : goal.returns-then-open_under-eq0
returns-then-open_under-eq0 c =
    color_marked c.args.boards.now.case.tree c.args.boards.now.marks c.args.level c.args.node
    c.args.open_under c.args.covered c.requires.weight c.if-open_under-eq0.true

pub returns-then-covered : goal.returns-then-covered
returns-then-covered c =
    color_covered c.args.boards.now.case.tree c.args.boards.now.marks c.args.level c.args.node
    c.args.open_under c.args.covered c.requires.weight c.if-covered.true c.if-open_under-eq0.false

pub returns-then-shows_rejected : goal.returns-then-shows_rejected
returns-then-shows_rejected c =
    color_rejected c.args.boards.now.case.tree c.args.boards.now.marks c.args.level c.args.node
    c.args.open_under c.args.covered c.requires.weight c.if-covered.false c.if-open_under-eq0.false
    (sym c.shows_rejected.ensures ∙ c.if-shows_rejected.true)

pub returns-then-open_under-weight_under : goal.returns-then-open_under-weight_under
returns-then-open_under-weight_under c =
    let tree : c.tree.result.now ≡ c.args.boards.now.case.tree =
    c.tree.ensures.tree ∙ ap (λ x. x.tree) c.case.ensures in
    color_open c.args.boards.now.case.tree c.args.boards.now.marks c.args.level c.args.node
    c.args.open_under c.args.covered c.requires.weight c.if-covered.false c.if-open_under-eq0.false
    (sym c.shows_rejected.ensures ∙ c.if-shows_rejected.false) c.requires.node
    (c.if-open_under-weight_under.true ∙ (rw tree at c.weight_under.ensures))

pub returns-else-open_under-weight_under : goal.returns-else-open_under-weight_under
returns-else-open_under-weight_under c =
    let tree : c.tree.result.now ≡ c.args.boards.now.case.tree =
    c.tree.ensures.tree ∙ ap (λ x. x.tree) c.case.ensures in
    color_part c.args.boards.now.case.tree c.args.boards.now.marks c.args.level c.args.node
    c.args.open_under c.args.covered c.requires.weight c.if-covered.false c.if-open_under-eq0.false
    (sym c.shows_rejected.ensures ∙ c.if-shows_rejected.false) c.requires.node
    (λ e. c.if-open_under-weight_under.false (e ∙ sym (rw tree at c.weight_under.ensures)))
