use Rattle.std.proofs.Common.{zero-add}
use Rattle.split_tree.specs.SplitTree.{size}
use Rattle.mark_board.proofs.MarkingLaws.{branches_apart}
use Rattle.mark_board.proofs.laws.open_branches_are_apart.Goals as goal

pub returns : goal.returns
returns c = λ refuted tree. rw (zero-add (size tree)) at (branches_apart refuted 0 tree)
