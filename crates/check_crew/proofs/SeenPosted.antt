-- What a pass has seen of a finding after its post.
use Rattle.std.proofs.Common.{◌≡◌, ◌≢◌, ℕ, List, [], ◌∷◌, ◌++◌, refl, ap, ◌∙◌}
use Rattle.std.proofs.Common.{inl, inr}
use Rattle.std.proofs.lemmas.Bool.{cases_Bool}
use Rattle.case_core.specs.Judged.{Judged}
use Rattle.mark_board.specs.declared.mark.Mark.TheVariants.{Open}
use Rattle.mark_board.specs.Findings.{mark_as}
use Rattle.mark_board.specs.declared.posted.Posted.{Posted}
use Rattle.mark_board.specs.declared.posted.Posted.TheVariants as posted
use Rattle.board_hall.specs.declared.view.CutCase.{CutCase}
use Rattle.board_hall.specs.declared.view.Post.{Post}
use Rattle.board_hall.specs.declared.view.View.{View}
use Rattle.board_hall.specs.Posts.{mark_in, is_at}
use Rattle.board_hall.specs.Clauses.{Stays, IsPosted, Becomes, HasPosted}
use Rattle.board_hall.proofs.PostsLists.{never_open}
use Rattle.check_crew.specs.Seen.{HasSeen, HasSeenMark}

-- a row that is marked keeps its mark
mark_kept : (posts more : List Post) (board row : ℕ) → mark_in posts board row ≢ Open →
    mark_in (posts ++ more) board row ≡ mark_in posts board row
mark_kept [] more board row marked = absurd (marked refl)
mark_kept (post ∷ posts) more board row marked = elim (cases_Bool (is_at post board row)) [
  | inl here ↦ rw here refl
  | inr other ↦ rw other (mark_kept posts more board row (rw other at marked))
]

-- a mark that was seen stays so
pub mark_stays : (before after : View) (node : ℕ) (judged : Judged) → Stays before after →
    HasSeenMark before node judged → HasSeenMark after node judged
mark_stays before after node judged stays seen = record {
  board = seen.board;
  row = seen.row;
  home = rw stays.of_same seen.home;
  is =
      ap (λ (l : List Post). mark_in l seen.board seen.row) stays.seen
      ∙ mark_kept before.seen stays.more seen.board seen.row
      (rw seen.is (never_open judged))
      ∙ seen.is;
}

-- whose mark was seen, was seen
pub seen_by_mark : (v : View) (node : ℕ) (judged : Judged) → HasSeenMark v node judged →
    HasSeen v node
seen_by_mark v node judged seen = record {
  board = seen.board;
  row = seen.row;
  home = seen.home;
  marked = rw seen.is (never_open judged);
}

-- an answer that gives no finding back
abbrev pub IsNew : Posted → Type 0
IsNew posted.Marked = Unit {0}
IsNew (posted.RootMarked verdict) = Unit {0}
IsNew posted.TopMarked = Unit {0}
IsNew (posted.Already finding) = ⊥

has_posted : (k : CutCase) (x : Post) (result : Posted) (before after : View) → IsNew result →
    Becomes k x result before after → HasPosted x before after
has_posted k x posted.Marked before after new becomes = becomes.0
has_posted k x (posted.RootMarked verdict) before after new becomes = becomes.0
has_posted k x posted.TopMarked before after new becomes = becomes.0
has_posted k x (posted.Already finding) before after new becomes = absurd new

-- what was posted is seen
pub posted_new : (k : CutCase) (node : ℕ) (judged : Judged) (result : Posted)
    (before after : View) → after.of ≡ k → IsNew result
    → IsPosted k node judged result before after → HasSeenMark after node judged
posted_new k node judged result before after same new is =
    let has = has_posted k is.post result before after new is.becomes in record {
      board = is.post.board;
      row = is.post.row;
      home = rw same is.is_post.home;
      is = has.mark ∙ ap mark_as is.is_post.judged_is;
    }
