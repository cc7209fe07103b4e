-- What a worker has seen of the findings of a case.
-- It promises what its pass has seen, and not what it posted: by the hall's contract alone a post
-- may be answered `Already`, and then the pass has seen the mark.
use Rattle.std.specs.Prelude.{◌≡◌, ◌≢◌, ℕ, ◌<◌, List, length}
use Rattle.std.specs.List.{Contains}
use Rattle.case_core.specs.Leaves.{IsTargetAt}
use Rattle.case_core.specs.Target.{Target}
use Rattle.case_core.specs.Judged.{Judged}
use Rattle.case_core.specs.Case.{CaseOf, section_at}
use Rattle.case_core.specs.Finding.{IsFinding}
use Rattle.mark_board.specs.declared.mark.Mark.TheVariants.{Open}
use Rattle.mark_board.specs.declared.place.Place.{Place}
use Rattle.mark_board.specs.Findings.{mark_as}
use Rattle.board_hall.specs.declared.pass.Pass.{Pass}
use Rattle.board_hall.specs.declared.view.View.{View}
use Rattle.board_hall.specs.Posts.{mark_in, open_by}
use Rattle.board_hall.specs.Clauses.{IsHome, board_number}
use Rattle.board_hall.specs.Halls.{view_of}

-- the finding of a node is among what was seen
pub record HasSeen (v : View) (node : ℕ) : Type 0 where
  pub board : ℕ
  pub row : ℕ
  pub home : IsHome v.of node board row
  pub marked : mark_in v.seen board row ≢ Open

-- that of the section at a place
abbrev pub HasSeenSection : View → ℕ → Type 0
HasSeenSection v place =
    (node : ℕ) → IsTargetAt v.of.case.tree node (section_at v.of.case.sections place).target →
    HasSeen v node

-- the finding of each section of the case is among what one of these passes has seen
abbrev pub HaveSeenSections : CaseOf → List Pass → Type 0
HaveSeenSections case passes = (place : ℕ) → place < length case.sections
    → (pass : Pass) × Contains passes pass × HasSeenSection (view_of pass) place

-- this judgement's mark is among what was seen, at this node
pub record HasSeenMark (v : View) (node : ℕ) (judged : Judged) : Type 0 where
  pub board : ℕ
  pub row : ℕ
  pub home : IsHome v.of node board row
  pub is : mark_in v.seen board row ≡ mark_as judged

-- What a gate is told of a section, or of a target's proof. The target stands at this node; it is
-- judged so, by its section where it has one; by the posts that were seen the node has the mark of
-- this judgement, and the board at this place, on which it is posted, has this open weight.
pub record IsTold (v : View) (case : CaseOf) (target : Target) (node : ℕ) (judged : Judged)
    (place : Place) (weight : ℕ) : Type 0 where
  pub same : case ≡ v.of.case
  pub here : IsTargetAt case.tree node target
  pub is : IsFinding case target judged
  pub seen : HasSeenMark v node judged
  pub place_is : board_number v.of place ≡ seen.board
  pub weight_is : weight ≡ open_by v.of seen.board (mark_in v.seen seen.board)
