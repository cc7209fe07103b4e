-- The words and boards of a hall with no posts.
use Rattle.std.specs.Prelude.{◌≡◌, ℕ, ◌*◌, ◌<◌, List, [], length, slice_index, Option, Some}
use mathlib.Core.Option.{some}
use lib.ListN.{get_elem?}
use Rattle.mark_board.specs.declared.stored.BoardData.{BoardData}
use Rattle.mark_board.specs.declared.mark.Mark.TheVariants.{Open}
use Rattle.board_hall.specs.declared.view.CutCase.{CutCase}
use Rattle.board_hall.specs.Posts.{open_by}
use Rattle.board_hall.specs.Hall.{lock_word, open_word, IsBoard}

-- the first boards' words: each lock is free, and each open word is the board's total
pub record AreOpeningWords (k : CutCase) (boards : ℕ) (words : List ℕ) : Type 0 where
  pub long : length words ≡ 2 * boards
  pub free : (b : ℕ) → b < boards → slice_index words (lock_word b) ≡ 0
  pub total : (b : ℕ) → b < boards → slice_index words (open_word b) ≡ open_by k b (λ _. Open)

-- the first slots' boards, with nothing marked
pub record AreNewBoards (k : CutCase) (boards : ℕ) (slots : List (Option BoardData)) : Type 0 where
  pub long : length slots ≡ boards
  pub new : (b : ℕ) → b < boards →
      (y : BoardData) × (get_elem? slots b ≡ some (Some y)) × IsBoard k b [] y

-- the first boards, with nothing posted
pub record IsOpened (k : CutCase) (boards : ℕ) (words : List ℕ) (slots : List (Option BoardData))
    : Type 0 where
  pub words_are : AreOpeningWords k boards words
  pub slots_are : AreNewBoards k boards slots
