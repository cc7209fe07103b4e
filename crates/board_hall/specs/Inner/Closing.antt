-- The boards of a hall that is closed.
use Rattle.std.specs.Prelude.{◌≡◌, ◌<◌, ℕ, List, length, Option, Some}
use mathlib.Core.Option.{some}
use lib.ListN.{get_elem?}
use Rattle.mark_board.specs.declared.stored.BoardData.{BoardData}
use Rattle.mark_board.specs.Boards.{part_mark}
use Rattle.mark_board.specs.TopPlaces.{part_place}
use Rattle.board_hall.specs.declared.view.CutCase.{CutCase}
use Rattle.board_hall.specs.declared.view.Post.{Post}
use Rattle.board_hall.specs.Posts.{parts_in, board_count, mark_in, root_by}
use Rattle.board_hall.specs.Hall.{IsBoard}

-- each board is at home with these posts, and the top board marks a part exactly where the part's
-- own root is marked
pub record AreHome (k : CutCase) (posts : List Post) (slots : List (Option BoardData))
    : Type 0 where
  pub long : length slots ≡ board_count k
  pub board : (b : ℕ) → b < board_count k →
      (y : BoardData) × (get_elem? slots b ≡ some (Some y)) × IsBoard k b posts y
  pub settled : (part : ℕ) → part < parts_in k →
      mark_in posts (parts_in k) (part_place k.cut k.case.tree part)
      ≡ part_mark (root_by k part (mark_in posts part))
