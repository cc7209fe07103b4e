-- Boards with nothing marked.
use Rattle.std.specs.Prelude.{ℕ, ◌<◌, ◌≡◌, Bool, true, false, List, length, get_or, replicate}
use Rattle.split_tree.specs.SplitTree.{size}
use Rattle.case_core.specs.Case.{CaseOf}
use Rattle.mark_board.specs.declared.mark.Mark.TheVariants.{Open}
use Rattle.mark_board.specs.declared.rows.Answer.{Answer}
use Rattle.mark_board.specs.declared.rows.Answer.TheVariants.{Marked, RootMarked, Already}
use Rattle.mark_board.specs.declared.place.Place.TheVariants.{Part}
use Rattle.mark_board.specs.Board.{BoardOf}
use Rattle.mark_board.specs.Boards.{part_tree}

-- a board of a part with nothing marked
pub record IsNewPart (case : CaseOf) (cut part : ℕ) (board : BoardOf) : Type 0 where
  pub case_is : board.case ≡ case
  pub cut_is : board.cut ≡ cut
  pub place_is : board.place ≡ Part part
  pub none : board.marks ≡ replicate (size (part_tree cut case.tree part)) Open

-- these are the boards of the first parts, with nothing marked
pub record AreNewParts (case : CaseOf) (cut : ℕ) (boards : List BoardOf) (count : ℕ) : Type 0 where
  pub long : length boards ≡ count
  pub each : (other : BoardOf) (part : ℕ) → part < count →
      IsNewPart case cut part (get_or boards part other)

-- whether a post is new: its target had no mark
abbrev pub is_new : Answer → Bool
is_new Marked = true
is_new RootMarked = true
is_new Already = false
