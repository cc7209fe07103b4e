-- What the two threads begin with, and what each of them hands back.
use Rattle.std.specs.Prelude.{◌≡◌, ℕ, ◌<◌, ◌≤◌, length, None}
use Rattle.case_core.specs.Case.{CaseOf}
use Rattle.board_hall.specs.declared.pass.Pass.{Pass}
use Rattle.board_hall.specs.declared.view.View.{View}
use Rattle.board_hall.specs.Halls.{HallOf, IsPassOf, view_of}
use Rattle.check_crew.specs.Seen.{HasSeenSection}

-- the hall is of this case, and the first half is of its sections
pub record IsReady (case : CaseOf) (hall : HallOf) (half : ℕ) : Type 0 where
  pub case_is : case ≡ hall.of.case
  pub within : half ≤ length case.sections

-- the findings of the sections at the places from `first` on and before `end` are among what was
-- seen
abbrev pub HasSeenFrom : View → ℕ → ℕ → Type 0
HasSeenFrom v first end = (place : ℕ) → first ≤ place → place < end → HasSeenSection v place

-- the pass is the hall's and owes no verdict, and has seen the findings of the sections at these
-- places
pub record HasPostedFrom (hall : HallOf) (first end : ℕ) (pass : Pass) : Type 0 where
  pub own : IsPassOf hall pass
  pub free : (view_of pass).owes ≡ None
  pub seen : HasSeenFrom (view_of pass) first end

-- the first pass has seen those of the first half of the sections, and the second pass those of the
-- second half
pub record HavePosted (case : CaseOf) (hall : HallOf) (half : ℕ) (ours theirs : Pass) : Type 0 where
  pub first : HasPostedFrom hall 0 half ours
  pub second : HasPostedFrom hall half (length case.sections) theirs
