use Rattle.std.proofs.Common.{◌≡◌, vec_len}
use Rattle.proof_folder.specs.TargetProofs.{Known}
use Rattle.check_crew.specs.Inner.Apart.{IsListOf, AreRightAt}
use Rattle.check_crew.proofs.compare.note_right.Given as goal

abbrev pub invariant-loop-one : goal.invariant-loop-one
invariant-loop-one l = record {
  long : vec_len l.right ≡ vec_len l.fn.right;
  noted : (known : Known) → IsListOf known l.boards.case l.examined
      → AreRightAt known l.boards.case l.boards.marks l.fn.right.items
      → AreRightAt known l.boards.case l.boards.marks l.right.items;
}
