-- What a pass has posted and seen after a call.
use Rattle.std.proofs.Common.{◌≡◌, ◌≢◌, ℕ, true, false, [], ◌∷◌, ◌++◌, Option, Some, None}
use Rattle.std.proofs.Common.{if◌then◌else◌, ⊎_elim, refl, sym, ap, ◌∙◌, eq-eqb, ne_eqb}
use mathlib.Core.Logic.{dite}
use native.Mathlib.Decide.{ℕ_discrete}
use Rattle.mark_board.specs.declared.mark.Mark.TheVariants.{Open}
use Rattle.mark_board.specs.declared.posted.Posted.{Posted}
use Rattle.mark_board.specs.declared.posted.Posted.TheVariants as posted
use Rattle.mark_board.specs.declared.posted.PartPosted.{PartPosted}
use Rattle.mark_board.specs.declared.posted.PartPosted.TheVariants as part_posted
use Rattle.mark_board.specs.Marking.{marked, is_refuted}
use Rattle.mark_board.specs.Findings.{mark_as}
use Rattle.board_hall.specs.declared.view.View.{View}
use Rattle.board_hall.specs.declared.view.CutCase.{CutCase}
use Rattle.board_hall.specs.declared.view.Post.{Post}
use Rattle.board_hall.specs.Posts.{tree_at, is_at, mark_by, mark_in, root_by, AreReal}
use Rattle.board_hall.specs.Inner.Plays.{Hand}
use Rattle.board_hall.specs.Clauses.{with_row_open, HasPosted, MarksRootOf, Becomes, PartBecomes}
use Rattle.board_hall.specs.Clauses.{SeesOwn}
use Rattle.board_hall.specs.Clauses.{HasSectionAt}
use Rattle.board_hall.specs.Inner.Held.{HasGiven, MakesRoot, IsNoted, Recorded, PartRecorded}
use Rattle.board_hall.proofs.PostsLists.{of_cases, is_itself}
use Rattle.board_hall.proofs.PlaysHands.{seen_more}

-- what a post on a held board leaves of a view
pub record Keeps (me after : Hand) : Type 0 where
  pub of_same : after.0.of ≡ me.0.of
  pub seen : after.0.seen ≡ me.0.seen
  pub held : after.0.held ≡ me.0.held
  pub parts : after.0.parts ≡ me.0.parts
  pub out : after.1 ≡ me.1

noted_keeps : (x : Post) (owes : Option ℕ) (me after : Hand) → IsNoted x owes me after →
    Keeps me after
noted_keeps x owes me after n = record {
  of_same = ap (λ (m : Hand). m.0.of) n.after_is;
  seen = ap (λ (m : Hand). m.0.seen) n.after_is;
  held = ap (λ (m : Hand). m.0.held) n.after_is;
  parts = ap (λ (m : Hand). m.0.parts) n.after_is;
  out = ap (λ (m : Hand). m.1) n.after_is;
}

-- a pass stays one of its hall and forgets nothing by a post
pub keeps : (k : CutCase) (x : Post) (r : Posted) (me after : Hand) → Recorded k x r me after →
    Keeps me after
keeps k x posted.Marked me after e = noted_keeps x None me after e.0
keeps k x (posted.RootMarked verdict) me after e = noted_keeps x (Some x.board) me after e.0
keeps k x posted.TopMarked me after e = noted_keeps x None me after e.0
keeps k x (posted.Already f) me after e = record {
  of_same = ap (λ (m : Hand). m.0.of) e.0;
  seen = ap (λ (m : Hand). m.0.seen) e.0;
  held = ap (λ (m : Hand). m.0.held) e.0;
  parts = ap (λ (m : Hand). m.0.parts) e.0;
  out = ap (λ (m : Hand). m.1) e.0;
}

-- a pass stays one of its hall and forgets nothing by a part's post
pub part_keeps : (k : CutCase) (x : Post) (r : PartPosted) (me after : Hand) →
    PartRecorded k x r me after → Keeps me after
part_keeps k x part_posted.Marked me after e = noted_keeps x None me after e.0
part_keeps k x part_posted.RootMarked me after e = noted_keeps x None me after e.0
part_keeps k x (part_posted.Already verdict) me after e = absurd e

-- what a pass has seen after it gave a board back
pub saw : (k : CutCase) (b : ℕ) (v : View) (me mid after : Hand) → me.0.of ≡ k →
    me.0.seen ≡ v.seen → Keeps me mid → HasGiven mid b after → AreReal k v.seen →
    (after.0.of ≡ k) × AreReal k after.0.seen × SeesOwn after.0 b
saw k b v me mid after of_k seen kept given real =
    let m =
    seen_more k v mid.0 after.0 given.posts b (ap (λ (m : Hand). m.0.posts) given.after_is)
    (ap (λ (m : Hand). m.0.seen) given.after_is) (kept.seen ∙ seen) (kept.of_same ∙ of_k) real
    given.real given.gave.own in
    (ap (λ (m : Hand). m.0.of) given.after_is ∙ (kept.of_same ∙ of_k), m.0, m.1)

module _ (k : CutCase) (x : Post) (b : ℕ) (v : View) (me mid after : Hand) (is_b : x.board ≡ b)
    (posts : me.0.posts ≡ v.posts) (owes : me.0.owes ≡ v.owes) (given : HasGiven mid b after) where
  -- the marks of the board are what the seat knew when it gave the board back
  seen_is : (row : ℕ) → mark_in after.0.seen x.board row ≡ mark_in mid.0.known x.board row
  seen_is row =
      (λ i. mark_in (ap (λ (m : Hand). m.0.seen) given.after_is i) (is_b i) row)
      ∙ (given.gave.marks row ∙ (λ i. mark_in mid.0.known (sym is_b i) row))

  module _ (due : Option ℕ) (n : IsNoted x due me mid) where
    known_is : (row : ℕ) → mark_in after.0.seen x.board row ≡ mark_in (x ∷ me.0.known) x.board row
    known_is row =
        seen_is row ∙ (λ i. mark_in (ap (λ (m : Hand). m.0.known) n.after_is i) x.board row)

    other : (row : ℕ) → row ≢ x.row →
        mark_in (x ∷ me.0.known) x.board row ≡ mark_in me.0.known x.board row
    other row apart = ⊎_elim
        (λ (h : (x.board ≡ x.board) × (x.row ≡ row) × (is_at x x.board row ≡ true)). absurd
        (apart (sym h.1)))
        (λ (h : is_at x x.board row ≡ false). λ i. mark_by (h i) x (mark_in me.0.known x.board row))
        (of_cases x x.board row)

    without_is : (row : ℕ) →
        with_row_open x.row (mark_in after.0.seen x.board) row ≡ mark_in me.0.known x.board row
    without_is row = dite (ℕ_discrete row x.row)
        (λ here. ap (λ c. if c then Open else mark_in after.0.seen x.board row)
        (eq-eqb row x.row here) ∙ (sym n.new ∙ (λ i. mark_in me.0.known x.board (sym here i))))
        (λ apart. ap (λ c. if c then Open else mark_in after.0.seen x.board row)
        (ne_eqb row x.row apart) ∙ (known_is row ∙ other row apart))

    has_posted : HasPosted x v after.0
    has_posted = record {
      posts =
          ap (λ (m : Hand). m.0.posts) given.after_is
          ∙ (ap (λ (m : Hand). m.0.posts) n.after_is ∙ ap (λ l. l ++ x ∷ []) posts);
      mark = known_is x.row ∙ (λ i. mark_by (is_itself x i) x (mark_in me.0.known x.board x.row));
    }

    owes_is : after.0.owes ≡ due
    owes_is = ap (λ (m : Hand). m.0.owes) given.after_is ∙ ap (λ (m : Hand). m.0.owes) n.after_is

    was_root : root_by k x.board (with_row_open x.row (mark_in after.0.seen x.board))
        ≡ root_by k x.board (mark_in me.0.known x.board)
    was_root = λ i. marked (λ row. is_refuted (without_is row i)) 0 (tree_at k x.board)

    is_root : root_by k x.board (mark_in after.0.seen x.board)
        ≡ root_by k x.board (mark_in (x ∷ me.0.known) x.board)
    is_root = λ i. marked (λ row. is_refuted (known_is row i)) 0 (tree_at k x.board)

    marks_root : MakesRoot k x me.0.known → MarksRootOf k x (mark_in after.0.seen x.board)
    marks_root m = record { was = was_root ∙ m.was; is = is_root ∙ m.is }

    makes_root : MarksRootOf k x (mark_in after.0.seen x.board) → MakesRoot k x me.0.known
    makes_root m = record { was = sym was_root ∙ m.was; is = sym is_root ∙ m.is }

  -- what a post on a held board recorded is what the clause of `post` says
  pub becomes : (mark_in after.0.seen x.board x.row ≢ Open → HasSectionAt k x →
      mark_in after.0.seen x.board x.row ≡ mark_as x.judged) → (r : Posted) →
      Recorded k x r me mid → Becomes k x r v after.0
  becomes settles posted.Marked e =
      (has_posted None e.0, owes_is None e.0, (λ m. e.1 (makes_root None e.0 m)))
  becomes settles (posted.RootMarked verdict) e = (
    has_posted (Some x.board) e.0,
    owes_is (Some x.board) e.0,
    marks_root (Some x.board) e.0 e.1,
    e.2,
  )
  becomes settles posted.TopMarked e =
      (has_posted None e.0, owes_is None e.0, marks_root None e.0 e.1, e.2)
  becomes settles (posted.Already f) e =
      let marked : mark_in after.0.seen x.board x.row ≢ Open =
      λ o.
      e.1 (sym (seen_is x.row ∙ (λ i. mark_in (ap (λ (m : Hand). m.0.known) e.0 i) x.board x.row))
      ∙ o) in (
        record {
          posts =
              ap (λ (m : Hand). m.0.posts) given.after_is
              ∙ (ap (λ (m : Hand). m.0.posts) e.0 ∙ posts);
          owes = ap (λ (m : Hand). m.0.owes) given.after_is
              ∙ (ap (λ (m : Hand). m.0.owes) e.0 ∙ owes);
        },
        marked,
        settles marked,
      )

  -- what a part's post recorded is what the clause of `post_part` says
  pub part_becomes : (r : PartPosted) → PartRecorded k x r me mid → PartBecomes k x r v after.0
  part_becomes part_posted.Marked e =
      (has_posted None e.0, owes_is None e.0, (λ m. e.1 (makes_root None e.0 m)))
  part_becomes part_posted.RootMarked e =
      (has_posted None e.0, owes_is None e.0, marks_root None e.0 e.1)
  part_becomes (part_posted.Already verdict) e = absurd e

-- a call that posts nothing keeps all
pub keeps_all : (me : Hand) → Keeps me me
keeps_all me = record { of_same = refl; seen = refl; held = refl; parts = refl; out = refl }
