-- What a step tells the pass that makes it.
use Rattle.std.specs.Prelude.{◌≡◌, ◌≢◌, ◌<◌, ℕ, List, ◌∷◌, ◌++◌, Option, Some}
use Rattle.atomic_table.specs.Table.{Me, Step, rest}
use Rattle.mark_board.specs.declared.mark.Mark.TheVariants.{Open}
use Rattle.mark_board.specs.declared.stored.BoardData.{BoardData}
use Rattle.mark_board.specs.TopPlaces.{part_place}
use Rattle.board_hall.specs.declared.view.View.{View}
use Rattle.board_hall.specs.declared.view.CutCase.{CutCase}
use Rattle.board_hall.specs.declared.view.Post.{Post}
use Rattle.board_hall.specs.Posts.{parts_in, open_by, mark_in, AreReal}
use Rattle.board_hall.specs.Hall.{lock_word, open_word, IsBoard, taking, posting, giving, seeing}
use Rattle.board_hall.specs.Clauses.{Own}

abbrev pub Hand : Type 0
Hand = Me (Option BoardData) View

-- a part that a pass owes has no verdict on the top board
abbrev pub OwedIsOpen : CutCase → Option ℕ → List Post → Type 0
OwedIsOpen k owes posts =
    (part : ℕ) → part < parts_in k → owes ≡ Some part →
    mark_in posts (parts_in k) (part_place k.cut k.case.tree part) ≡ Open

-- the pass has board b, with the posts on it
pub record Took (me : Hand) (b : ℕ) (posts : List Post) (y : BoardData) (after : Hand)
    : Type 0 where
  pub after_is : after ≡ (taking b posts me.0, (b, Some y) ∷ me.1)
  pub board : IsBoard me.0.of b posts y
  pub real : AreReal me.0.of posts
  pub owed : b ≡ parts_in me.0.of → OwedIsOpen me.0.of me.0.owes posts

-- the lock was free, and the pass has the board of the posts that it knows; or it was not, and
-- nothing changed
abbrev pub Tried : Step (Option BoardData) → Hand → ℕ → Hand → Type 0
Tried st me found after =
    (found ≢ 0 → after ≡ me)
    × (found ≡ 0 →
    (b : ℕ) × (posts : List Post) × (y : BoardData) × (st.word ≡ lock_word b)
    × Took me b posts y after)

abbrev pub Noted : Post → Option ℕ → Step (Option BoardData) → Hand → ℕ → Hand → Type 0
Noted x owes st me found after = after ≡ (posting x owes me.0, me.1)

-- the pass has given board b back, and has seen all posts on it
pub record GaveBack (me : Hand) (b : ℕ) (posts : List Post) : Type 0 where
  pub own : Own me.0 b posts
  pub marks : (row : ℕ) → mark_in (me.0.seen ++ posts) b row ≡ mark_in me.0.known b row

abbrev pub Gave : Step (Option BoardData) → Hand → ℕ → Hand → Type 0
Gave st me found after =
    (posts : List Post) × (after ≡ (giving posts me.0, rest me.1)) × AreReal me.0.of posts
    × ((b : ℕ) → me.0.held ≡ Some b → GaveBack me b posts)

-- the pass has seen all posts on the board, and their open weight
abbrev pub Read : Step (Option BoardData) → Hand → ℕ → Hand → Type 0
Read st me found after =
    (b : ℕ) × (posts : List Post) × (st.word ≡ open_word b) × (after ≡ (seeing posts me.0, me.1))
    × AreReal me.0.of posts × Own me.0 b posts
    × (found ≡ open_by me.0.of b (mark_in (me.0.seen ++ posts) b))
