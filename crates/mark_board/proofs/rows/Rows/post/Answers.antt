use Rattle.std.proofs.Common.{◌≡◌, refl, sym, ◌∙◌}
use Rattle.split_tree.specs.SplitTree.{subtree_at}
use Rattle.mark_board.specs.declared.mark.Mark.TheVariants.{Open}
use Rattle.mark_board.specs.Marking.{mark_at}
use Rattle.mark_board.proofs.RowsPosts.{mark_read, kept_rejected, rejected_root}
use Rattle.mark_board.proofs.rows.Rows.post.Goals as goal

pub returns-in_default-mark : goal.returns-in_default-mark
returns-in_default-mark c =
    let is_open : mark_at c.args.self.now.marks.items c.args.node ≡ Open =
    sym (mark_read (subtree_at c.args.tree.now c.args.root) c.args.self.now.marks.items c.args.node
    c.index.result.now c.requires.kept.1.board.long c.requires.node
    c.index.ensures) ∙ c.in-Open.is in
    let no_root =
    rejected_root (subtree_at c.args.tree.now c.args.root) c.requires.kept.0
    c.args.self.now.marks.items c.args.self.now.weights.items c.args.node
    c.args.mark c.requires.kept.1 c.requires.node is_open c.in_default-mark.not-Refuted in
    record {
      marks = refl;
      kept =
          λ worth k. kept_rejected (subtree_at c.args.tree.now c.args.root) worth
          c.args.self.now.marks.items c.args.self.now.weights.items c.args.node
          c.args.mark k c.requires.node is_open c.in_default-mark.not-Refuted;
      already = (λ r. cc, λ r. absurd (r is_open));
      root = (λ r. cc, λ r. absurd (no_root r));
    }
