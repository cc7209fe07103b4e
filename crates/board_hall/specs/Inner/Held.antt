-- What a seat that holds a board has after a post, and what a seat that met others stands for.
use Rattle.std.specs.Prelude.{◌+◌, ◌⊎◌, All, true, false, ◌≡◌, ◌≢◌, ℕ, List, [], ◌∷◌, Option, None}
use Rattle.std.specs.Prelude.{Some}
use Rattle.split_tree.specs.SplitTree.{missing}
use Rattle.mark_board.specs.declared.mark.Mark.TheVariants.{Open}
use Rattle.mark_board.specs.declared.posted.Posted.{Posted}
use Rattle.mark_board.specs.declared.posted.Posted.TheVariants as posted
use Rattle.mark_board.specs.declared.posted.PartPosted.{PartPosted}
use Rattle.mark_board.specs.declared.posted.PartPosted.TheVariants as part_posted
use Rattle.board_hall.specs.declared.pass.Pass.{Pass}
use Rattle.board_hall.specs.declared.view.View.{View}
use Rattle.board_hall.specs.declared.view.CutCase.{CutCase}
use Rattle.board_hall.specs.declared.view.Post.{Post}
use Rattle.board_hall.specs.Posts.{parts_in, mark_in, root_by, Among, AreReal}
use Rattle.board_hall.specs.Inner.Plays.{Hand, GaveBack}
use Rattle.board_hall.specs.Hall.{giving, posting, newcomer}
use Rattle.board_hall.specs.Terms.{cut_case}
use Rattle.board_hall.specs.Halls.{view_of}
use Rattle.board_hall.specs.Clauses.{IsVerdictOf}

-- the seat has given board b back, and has seen all posts on it
pub record HasGiven (me : Hand) (b : ℕ) (after : Hand) : Type 0 where
  pub posts : List Post
  pub after_is : after ≡ (giving posts me.0, [])
  pub real : AreReal me.0.of posts
  pub gave : GaveBack me b posts

-- by what it knew, the root of x's board wasn't marked, and with x it is
pub record MakesRoot (k : CutCase) (x : Post) (known : List Post) : Type 0 where
  pub was : root_by k x.board (mark_in known x.board) ≡ false
  pub is : root_by k x.board (mark_in (x ∷ known) x.board) ≡ true

pub record IsNoted (x : Post) (owes : Option ℕ) (me after : Hand) : Type 0 where
  pub after_is : after ≡ (posting x owes me.0, me.1)
  pub new : mark_in me.0.known x.board x.row ≡ Open

abbrev pub Recorded : CutCase → Post → Posted → Hand → Hand → Type 0
Recorded k x posted.Marked me after = IsNoted x None me after × (MakesRoot k x me.0.known → ⊥)
Recorded k x (posted.RootMarked verdict) me after =
    IsNoted x (Some x.board) me after × MakesRoot k x me.0.known × IsVerdictOf k x.board verdict
Recorded k x posted.TopMarked me after =
    IsNoted x None me after × MakesRoot k x me.0.known × (x.board ≡ parts_in k)
Recorded k x (posted.Already finding) me after =
    (after ≡ me) × (mark_in me.0.known x.board x.row ≢ Open)

abbrev pub PartRecorded : CutCase → Post → PartPosted → Hand → Hand → Type 0
PartRecorded k x part_posted.Marked me after =
    IsNoted x None me after × (MakesRoot k x me.0.known → ⊥)
PartRecorded k x part_posted.RootMarked me after =
    IsNoted x None me after × MakesRoot k x me.0.known
PartRecorded k x (part_posted.Already verdict) me after = ⊥

-- the part that is owed after an answer
abbrev pub owed_after : Posted → Option ℕ
owed_after posted.Marked = None
owed_after (posted.RootMarked verdict) = Some verdict.part
owed_after posted.TopMarked = None
owed_after (posted.Already finding) = None

-- a view that stands for nothing
abbrev pub no_view : View
no_view = newcomer (cut_case record { formula = []; tree = missing; sections = [] } 0) 0

-- what the pass posted and has seen is among what the view has or has seen
abbrev pub Includes : View → Pass → Type 0
Includes v p =
    (x : Post) → Among x (view_of p).posts ⊎ Among x (view_of p).seen →
    Among x v.posts ⊎ Among x v.seen

-- a seat that has met so many passes, beside the first
pub record Gathered (first : Pass) (count : ℕ) (others : List Pass) (me : Hand) : Type 0 where
  pub none_out : me.1 ≡ []
  pub rests : (me.0.held ≡ None) × (me.0.owes ≡ None)
  pub parts : me.0.parts ≡ count + 1
  pub has_first : Includes me.0 first
  pub has_others : All (Includes me.0) others
