use Rattle.std.proofs.Common.{ℕ, arith}
use Rattle.split_tree.proofs.NodesCoding.{subtree-root, some_node}
use Rattle.mark_board.specs.TopPlaces.{worth_of}
use Rattle.mark_board.specs.Rows.{AreRowsKept}
use Rattle.mark_board.proofs.MarksGiven.{posted_free}
use Rattle.mark_board.proofs.marks.give.Goals as goal

pub post-requires : goal.post-requires
post-requires c =
    let root = subtree-root c.args.tree.now in
    record {
      root = omega (arith, some_node c.args.tree.now);
      node = rw root c.requires.node;
      judged = c.in_default.not-Open;
      kept = (worth_of c.args.tree.now, rw root c.requires.kept);
    }

pub returns : goal.returns
returns c =
    let tree = c.args.tree.now in
    let kept : (worth : ℕ → ℕ) →
    AreRowsKept tree worth c.args.rows.now.marks.items c.args.rows.now.weights.items →
    AreRowsKept tree worth c.post.new.self.marks.items c.post.new.self.weights.items =
    rw (subtree-root tree) at c.post.ensures.kept in
    record {
      marks = posted_free c.post.result c.args.rows.now.marks.items c.post.new.self.marks.items
          c.args.node c.args.mark c.post.ensures.already c.requires.free c.post.ensures.marks;
      kept = kept (worth_of tree) c.requires.kept;
    }
