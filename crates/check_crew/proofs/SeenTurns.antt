-- What a worker has seen after one more section.
use Rattle.std.proofs.Common.{◌≡◌, ◌≢◌, ℕ, List, [], ◌∷◌, ◌++◌, refl, sym, ap, ◌∙◌, subst, inl, inr}
use Rattle.std.proofs.Common.{append_assoc, append-nil}
use Rattle.std.proofs.lemmas.Bool.{cases_Bool}
use Rattle.case_core.specs.Leaves.{IsTargetAt}
use Rattle.case_core.specs.Target.{Target}
use Rattle.case_core.specs.Judged.{Judged}
use Rattle.case_core.specs.Case.{CaseOf, section_at}
use Rattle.case_core.specs.Finding.{IsFinding}
use Rattle.mark_board.specs.declared.mark.Mark.TheVariants.{Open}
use Rattle.mark_board.specs.declared.posted.Posted.{Posted}
use Rattle.mark_board.specs.declared.posted.Posted.TheVariants.{Marked, RootMarked, TopMarked}
use Rattle.mark_board.specs.declared.posted.Posted.TheVariants.{Already}
use Rattle.board_hall.specs.declared.view.CutCase.{CutCase}
use Rattle.board_hall.specs.declared.view.Post.{Post}
use Rattle.board_hall.specs.declared.view.View.{View}
use Rattle.board_hall.specs.Posts.{mark_in, is_at, open_by}
use Rattle.board_hall.specs.Clauses.{Stays, IsPosted, Becomes, board_number}
use Rattle.board_hall.proofs.PostsLists.{never_open}
use Rattle.mark_board.specs.declared.place.Place.{Place}
use Rattle.mark_board.specs.Boards.{IsPlaceFor}
use Rattle.check_crew.specs.Seen.{HasSeen, HasSeenMark, HasSeenSection, IsTold}
use Rattle.check_crew.proofs.SeenMarks.{one_board, place_home}

-- a pass is its own later one
pub stays_same : (v : View) → Stays v v
stays_same v = record {
  of_same = refl;
  parts = refl;
  more = [];
  seen = sym (append-nil v.seen);
}

-- what comes later still has seen all
pub stays_on : (before between after : View) → Stays before between → Stays between after →
    Stays before after
stays_on before between after first second = record {
  of_same = second.of_same ∙ first.of_same;
  parts = second.parts ∙ first.parts;
  more = first.more ++ second.more;
  seen =
      second.seen
      ∙ ap (λ (l : List Post). l ++ second.more) first.seen
      ∙ append_assoc before.seen first.more second.more;
}

-- a row that is marked stays so
mark_in-stays : (posts more : List Post) (board row : ℕ) → mark_in posts board row ≢ Open →
    mark_in (posts ++ more) board row ≢ Open
mark_in-stays [] more board row marked = absurd (marked refl)
mark_in-stays (post ∷ posts) more board row marked = elim (cases_Bool (is_at post board row)) [
  | inl here ↦ rw here (rw here at marked)
  | inr other ↦ rw other (mark_in-stays posts more board row (rw other at marked))
]

-- what was seen stays seen
pub seen_stays : (before after : View) → Stays before after → (node : ℕ) → HasSeen before node →
    HasSeen after node
seen_stays before after stays node seen = record {
  board = seen.board;
  row = seen.row;
  home = rw stays.of_same seen.home;
  marked = rw stays.seen (mark_in-stays before.seen stays.more seen.board seen.row seen.marked);
}

-- who has seen the finding of a section has seen it later too
pub section_stays : (before after : View) → Stays before after → (place : ℕ) →
    HasSeenSection before place → HasSeenSection after place
section_stays before after stays place seen node at =
    seen_stays before after stays node (seen node (rw stays.of_same at at))

-- after a post the finding was seen, whatever the answer
pub posted_seen : (k : CutCase) (node : ℕ) (judged : Judged) (result : Posted)
    (before after : View) → after.of ≡ k → IsPosted k node judged result before after →
    HasSeen after node
posted_seen k node judged result before after same posted = record {
  board = posted.post.board;
  row = posted.post.row;
  home = rw same posted.is_post.home;
  marked = by_answer result posted.becomes;
}
  where
    by_answer : (result : Posted) → Becomes k posted.post result before after →
        mark_in after.seen posted.post.board posted.post.row ≢ Open
    by_answer Marked becomes = rw becomes.0.mark (never_open posted.post.judged)
    by_answer (RootMarked verdict) becomes = rw becomes.0.mark (never_open posted.post.judged)
    by_answer TopMarked becomes = rw becomes.0.mark (never_open posted.post.judged)
    by_answer (Already finding) becomes = becomes.1

-- the section at a place, where its target's finding was seen
pub section_seen : (case : CaseOf) (v : View) (place node : ℕ) (target : Target) →
    v.of.case ≡ case → (section_at case.sections place).target ≡ target
    → ((other : ℕ) → IsTargetAt case.tree other target → other ≡ node) → HasSeen v node →
    HasSeenSection v place
section_seen case v place node target same is only seen other at =
    subst (HasSeen v) (sym (only other (rw (same, is) at at))) seen

told_by : (v : View) (case : CaseOf) (node : ℕ) (target : Target) (judged : Judged) (place : Place)
    (weight : ℕ) → case ≡ v.of.case
    → IsTargetAt v.of.case.tree node target
    → IsFinding v.of.case target judged → HasSeenMark v node judged
    → IsPlaceFor v.of.cut v.of.case.tree node place →
    weight ≡ open_by v.of (board_number v.of place) (mark_in v.seen (board_number v.of place)) →
    IsTold v case target node judged place weight
told_by v case node target judged place weight same here is seen at weight_is =
    let one =
    one_board v.of node (board_number v.of place) at.row seen.board seen.row
    (place_home v.of node place at) seen.home in
    record {
      same = same;
      here = rw same here;
      is = rw same is;
      seen = seen;
      place_is = one;
      weight_is = weight_is ∙ ap (λ (b : ℕ). open_by v.of b (mark_in v.seen b)) one;
    }

-- what a gate is told
pub told : (k : CutCase) (v : View) (case : CaseOf) (node : ℕ) (target : Target) (judged : Judged)
    (place : Place) (weight : ℕ) → v.of ≡ k → case ≡ k.case
    → IsTargetAt case.tree node target
    → IsFinding case target judged → HasSeenMark v node judged
    → IsPlaceFor k.cut k.case.tree node place →
    weight ≡ open_by k (board_number k place) (mark_in v.seen (board_number k place)) →
    IsTold v case target node judged place weight
told k v case node target judged place weight same of here is seen at weight_is =
    let there : case ≡ v.of.case = of ∙ ap (λ (c : CutCase). c.case) (sym same) in
    told_by v case node target judged place weight there
    (rw there at here) (rw there at is) seen (rw same at) (rw same weight_is)
