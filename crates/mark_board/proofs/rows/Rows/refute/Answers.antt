use Rattle.std.proofs.Common.{refl}
use Rattle.split_tree.specs.SplitTree.{subtree_at}
use Rattle.mark_board.proofs.RowsPosts.{enough_kept, kept_refuted, root_then, root_else}
use Rattle.mark_board.proofs.rows.Rows.refute.Goals as goal

pub cover-requires-clause-first : goal.cover-requires-clause-first
cover-requires-clause-first c = (c.first_open-first.ensures (λ i. 0)).has_below

pub cover-requires-clause-enough : goal.cover-requires-clause-enough
cover-requires-clause-enough c =
    enough_kept (subtree_at c.args.tree.now c.args.root) c.requires.kept.0
    c.args.self.now.marks.items c.args.self.now.weights.items c.deref_mut.result.now
    c.args.node c.first_open-first.result c.requires.kept.1 c.requires.node
    c.deref_mut.ensures.value
    (c.first_open-first.ensures c.requires.kept.0)

pub returns-then-was_open-clause-kept : goal.returns-then-was_open-clause-kept
returns-then-was_open-clause-kept c = λ worth k.
    kept_refuted (subtree_at c.args.tree.now c.args.root) worth c.args.self.now.marks.items
    c.args.self.now.weights.items c.deref_mut.result.now
    c.cover.new.weights c.args.self.now.weights.len c.args.node c.first_open-first.result k
    c.requires.node c.deref_mut.ensures.value c.deref_mut.ensures.len
    (c.first_open-first.ensures worth) c.cover.ensures

pub returns-else-was_open-clause-kept : goal.returns-else-was_open-clause-kept
returns-else-was_open-clause-kept c = λ worth k.
    kept_refuted (subtree_at c.args.tree.now c.args.root) worth c.args.self.now.marks.items
    c.args.self.now.weights.items c.deref_mut.result.now
    c.cover.new.weights c.args.self.now.weights.len c.args.node c.first_open-first.result k
    c.requires.node c.deref_mut.ensures.value c.deref_mut.ensures.len
    (c.first_open-first.ensures worth) c.cover.ensures

pub returns-then-was_open-clause-root : goal.returns-then-was_open-clause-root
returns-then-was_open-clause-root c =
    root_then (subtree_at c.args.tree.now c.args.root) c.requires.kept.0 c.args.self.now.marks.items
    c.args.self.now.weights.items _ c.args.node
    c.index.result.now c.index-then-was_open.result.now _ c.requires.kept.1
    (returns-then-was_open-clause-kept c c.requires.kept.0 c.requires.kept.1)
    c.index.ensures c.if-was_open.true c.index-then-was_open.ensures refl

pub returns-else-was_open-clause-root : goal.returns-else-was_open-clause-root
returns-else-was_open-clause-root c =
    root_else (subtree_at c.args.tree.now c.args.root) c.requires.kept.0 c.args.self.now.marks.items
    c.args.self.now.weights.items c.args.node
    c.index.result.now _ c.requires.kept.1 c.index.ensures c.if-was_open.false refl
