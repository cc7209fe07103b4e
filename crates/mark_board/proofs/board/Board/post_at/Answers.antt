use Rattle.std.proofs.Common.{◌≡◌, ℕ, ap, ◌∙◌}
use Rattle.split_tree.specs.SplitTree.{subtree_at}
use Rattle.split_tree.specs.declared.top.Top as split
use Rattle.mark_board.specs.declared.stored.Region.TheVariants.{Part, Top}
use Rattle.mark_board.specs.Board.{tree_on}
use Rattle.mark_board.proofs.BoardRows.{on_part, on_top, data_after, part_inside, part_tree}
use Rattle.mark_board.proofs.BoardRows.{top_tree}
use Rattle.mark_board.proofs.board.Board.post_at.Goals.{in-Part, in-Top}
use Rattle.mark_board.proofs.board.Board.post_at.Goals as goal

pub post-requires-clause-root : goal.post-requires-clause-root
post-requires-clause-root c =
    rw (c.tree-tree.ensures.tree, ap (λ board. board.case) c.self.view_is)
    (part_inside c.args.self.now _ _
    (on_part c.args.self.now _ _ c.self.view_is c.self.invariant _ _ c.in-Part.is))

-- the tree of a part's board
below : (c : goal.Joined-region) (part root : ℕ) → c.self.inside.stored.region ≡ Part part root
    → subtree_at c.tree-tree.result.now root ≡ tree_on c.args.self.now
below c part root is =
    ap (λ tree. subtree_at tree root)
    (c.tree-tree.ensures.tree ∙ ap (λ board. board.case.tree) c.self.view_is)
    ∙ part_tree c.args.self.now _ _
    (on_part c.args.self.now _ _ c.self.view_is c.self.invariant _ _ is)

-- the tree of the top board
over : (c : goal.Joined-region) (above : split.Top) → c.self.inside.stored.region ≡ Top above
    → subtree_at above.tree 0 ≡ tree_on c.args.self.now
over c above is =
    top_tree c.args.self.now _ (on_top c.args.self.now _ _ c.self.view_is c.self.invariant _ is)

pub invariant_of-self : goal.invariant_of-self
invariant_of-self c = elim c.match-region.branch [
  | in-Part w ↦ rw w.self-inside-is (data_after c.args.self.now _ _ c.self.view_is
      c.self.invariant _ _ c.args.row c.args.mark w.post.result _ w.in-Part.is
      (below c _ _ w.in-Part.is) w.post.ensures.marks w.post.ensures.kept c.requires.sound)
  | in-Top w ↦ rw w.self-inside-is (data_after c.args.self.now _ _ c.self.view_is
      c.self.invariant _ _ c.args.row c.args.mark w.post-in-Top.result _ w.in-Top.is
      (over c _ w.in-Top.is) w.post-in-Top.ensures.marks w.post-in-Top.ensures.kept
      c.requires.sound)
]

pub returns-clause-root : goal.returns-clause-root
returns-clause-root c = elim c.match-region.branch [
  | in-Part w ↦ rw (
    w.result-is,
    w.self-inside-is,
    ← below c _ _ w.in-Part.is,
    ← ap (λ board. board.marks) c.self.view_is,
  ) w.post.ensures.root
  | in-Top w ↦ rw (
    w.result-is,
    w.self-inside-is,
    ← over c _ w.in-Top.is,
    ← ap (λ board. board.marks) c.self.view_is,
  ) w.post-in-Top.ensures.root
]
