use Rattle.std.proofs.Common.{◌∙◌, ap, length}
use Rattle.split_tree.specs.SplitTree.{size}
use Rattle.cube_join.proofs.JoinedMarks.{long_joined}
use Rattle.cube_join.proofs.joining.Join.add.Goals as goal

pub invariant_of-self : goal.invariant_of-self
invariant_of-self c =
    ap length c.join_marks.ensures
    ∙ long_joined c.self.inside.marks.items _ (size c.self.inside.tree.now) c.self.invariant
    (rw c.deref-2.ensures.value (rw c.in-Some.is at c.in_ok-told.ensures.long))
