use Rattle.std.proofs.Common.{◌≡◌, All, vec_len}
use Rattle.case_core.specs.SplitTree.{size}
use Rattle.proof_folder.specs.TargetProofs.{Known}
use Rattle.check_crew.specs.Inner.Apart.{IsListOf, AreRightAt}
use Rattle.check_crew.proofs.compare.has_right_marks.Given as goal

abbrev pub invariant-loop-list : goal.invariant-loop-list
invariant-loop-list l = record {
  long : vec_len l.right ≡ size l.boards.case.tree;
  noted : (known : Known) → All (λ list. IsListOf known l.boards.case list.items) l.lists
      → AreRightAt known l.boards.case l.boards.marks l.right.items;
}
