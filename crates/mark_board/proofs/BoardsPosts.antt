-- What a post on one of the boards changes of all of them.
use Rattle.std.proofs.Common.{◌≡◌, ◌≢◌, ◌↔◌, ℕ, ◌<◌, ◌⊎◌, List, length, map, get_or, set, Bool}
use Rattle.std.proofs.Common.{true, false, refl, sym, ap, ◌∙◌, inl, inr, get_or-set_other}
use Rattle.std.proofs.Common.{length-set}
use Rattle.std.proofs.lemmas.List.{set-get_or}
use Rattle.std.proofs.lemmas.Bool.{cases_Bool, cases_eq}
use Rattle.split_tree.specs.SplitTree.{SplitTree, size, subtree_at, IsSplit}
use Rattle.split_tree.specs.Parts.{top}
use Rattle.mark_board.specs.declared.mark.Mark.{Mark}
use Rattle.mark_board.specs.declared.mark.Mark.TheVariants.{Open, Refuted, Rejected}
use Rattle.mark_board.specs.declared.place.Place.TheVariants.{Part, Top}
use Rattle.mark_board.specs.declared.rows.Answer.{Answer}
use Rattle.mark_board.specs.declared.rows.Answer.TheVariants.{Marked, RootMarked, Already}
use Rattle.mark_board.specs.Marking.{marked, IsWithin, is_refuted, mark_at, refuted_by}
use Rattle.mark_board.specs.Posting.{marks_after, MarksRoot}
use Rattle.mark_board.specs.TopPlaces.{part_count, part_place}
use Rattle.mark_board.specs.Board.{BoardOf, IsRow, IsRowOn, tree_on}
use Rattle.mark_board.specs.Boards.{part_tree, marks_of, boards_of, BoardsOf, AreBoards, IsBoardAt}
use Rattle.mark_board.specs.Boards.{IsPlaceFor, marks_with}
use Rattle.mark_board.specs.Inner.Boards.{is_new}
use Rattle.mark_board.proofs.MarkingLaws.{marked_more}
use Rattle.mark_board.proofs.BoardsMarks.{unposted}
use Rattle.mark_board.proofs.BoardsGathered.{part_is_there, with_marks, board_is, part_boards}
use Rattle.mark_board.proofs.BoardsGathered.{root_boards, top_boards, part_marks_after}
use Rattle.mark_board.proofs.BoardsGathered.{root_marks_after, top_marks_after, read_in_part}
use Rattle.mark_board.proofs.BoardsGathered.{read_on_top, listed}

-- what a board says of a post on it
pub record IsPost (old new : BoardOf) (node : ℕ) (mark : Mark) (answer : Answer) : Type 0 where
  pub case : new.case ≡ old.case
  pub cut : new.cut ≡ old.cut
  pub place : new.place ≡ old.place
  pub marks : (row : ℕ) → IsRowOn old node row → new.marks ≡ marks_after answer old.marks row mark
  pub already : (row : ℕ) → IsRowOn old node row → (answer ≡ Already) ↔
      (mark_at old.marks row ≢ Open)
  pub root : (answer ≡ RootMarked) ↔ MarksRoot (tree_on old) old.marks new.marks

-- all boards after a post, with these marks; `new` says that the node had none among those before
abbrev pub ArePosted : (above : BoardOf) (parts : List BoardOf) (before : BoardsOf)
    (marks : List Mark) (node : ℕ) (new : Bool) → Type 0
ArePosted above parts before marks node new =
    AreBoards above parts
    × ((boards_of above parts).marks ≡ marks)
    × (new ≡ true ↔ (mark_at before.marks node ≡ Open))

open_or_not : (mark : Mark) → (mark ≡ Open) ⊎ (mark ≢ Open)
open_or_not Open = inl refl
open_or_not Refuted = inr (λ e. cc)
open_or_not (Rejected step reason) = inr (λ e. cc)

-- where the post was new there was no mark
no_mark : (answer : Answer) (mark : Mark) → ((answer ≡ Already) ↔ (mark ≢ Open)) →
    (answer ≡ Already → ⊥) → mark ≡ Open
no_mark answer mark h ne =
    elim (open_or_not mark) [ inl e ↦ e | inr other ↦ absurd (ne (h.1 other)) ]

grows : (marks : List Mark) (row : ℕ) (mark : Mark) → mark_at marks row ≡ Open →
    IsWithin (refuted_by marks) (refuted_by (set marks row mark))
grows marks row mark e q is = elim (cases_eq q row) [
  | inl same ↦
      let none : refuted_by marks q ≡ false = ap (refuted_by marks) same ∙ ap is_refuted e in
      let k : false ≡ true = sym none ∙ is in absurd (cc)
  | inr other ↦ ap is_refuted (get_or-set_other marks row q mark Open other) ∙ is
]

-- where it didn't mark the root, the root is marked exactly where it was
root_same : (tree : SplitTree) (old new : List Mark) → IsWithin (refuted_by old) (refuted_by new) →
    (MarksRoot tree old new → ⊥) →
    marked (refuted_by new) 0 tree ≡ marked (refuted_by old) 0 tree
root_same tree old new w none = elim (cases_Bool (marked (refuted_by old) 0 tree)) [
  | inl was ↦ marked_more (refuted_by old) (refuted_by new) 0 tree w was ∙ sym was
  | inr was ↦ elim (cases_Bool (marked (refuted_by new) 0 tree)) [
    | inl is ↦ absurd (none (record { was = was; is = is }))
    | inr is ↦ is ∙ sym was
  ]
]

-- ---- on a part

module _ (above : BoardOf) (parts : List BoardOf) (h : AreBoards above parts) (k node row : ℕ)
    (mark : Mark) (new : BoardOf)
    (l : k < part_count above.cut above.case.tree)
    (at : IsRow above.cut above.case.tree (Part k) node row) where
  here : IsBoardAt above.case above.cut (Part k) (get_or parts k above)
  here = h.at_part k l

  row_on : IsRowOn (get_or parts k above) node row
  row_on = rw (here.case_is, here.cut_is, here.place_is) at

  tree_is : tree_on (get_or parts k above) ≡ part_tree above.cut above.case.tree k
  tree_is = rw (here.case_is, here.cut_is, here.place_is) refl

  set_at : (answer : Answer) → IsPost (get_or parts k above) new node mark answer →
      length new.marks ≡ size (part_tree above.cut above.case.tree k) →
      IsBoardAt above.case above.cut (Part k) new
  set_at answer p long = record {
    case_is = p.case ∙ here.case_is;
    cut_is = p.cut ∙ here.cut_is;
    place_is = p.place ∙ here.place_is;
    long = long;
  }

  pub part_already : IsPost (get_or parts k above) new node mark Already →
      AreBoards above (set parts k new)
      × ((boards_of above (set parts k new)).marks ≡ (boards_of above parts).marks)
      × (mark_at (boards_of above parts).marks node ≢ Open)
  part_already p =
      let e : new.marks ≡ (get_or parts k above).marks = p.marks row row_on in
      let same : new ≡ get_or parts k above = board_is new _ _ _ _ p.case p.cut p.place e in
      let parts_same : set parts k new ≡ parts =
      ap (set parts k) same ∙ set-get_or parts k above in (
        rw parts_same h,
        ap (λ (xs : List BoardOf). (boards_of above xs).marks) parts_same,
        λ none. (p.already row row_on).0 refl (read_in_part above parts h k node row l at ∙ none),
      )

  pub part_marked : IsPost (get_or parts k above) new node mark Marked →
      AreBoards above (set parts k new)
      × ((boards_of above (set parts k new)).marks ≡ set (boards_of above parts).marks node mark)
      × (mark_at (boards_of above parts).marks node ≡ Open)
  part_marked p =
      let e : new.marks ≡ set (get_or parts k above).marks row mark = p.marks row row_on in
      let none : mark_at (get_or parts k above).marks row ≡ Open =
      no_mark Marked _ (p.already row row_on) (λ q. cc) in
      let long : length new.marks ≡ size (part_tree above.cut above.case.tree k) =
      ap length e ∙ (length-set (get_or parts k above).marks row mark ∙ here.long) in
      let not_root : MarksRoot (part_tree above.cut above.case.tree k) (get_or parts k above).marks
      new.marks → ⊥ =
      (λ m. let q : Marked ≡ RootMarked = p.root.1 (rw tree_is m) in cc) in
      let root =
      root_same (part_tree above.cut above.case.tree k) (get_or parts k above).marks new.marks
      (rw e (grows (get_or parts k above).marks row mark none)) not_root in
      let b = part_boards above parts h k new l (set_at Marked p long) root in (
        b,
        part_marks_after above parts h k node row mark new l at e b,
        sym (read_in_part above parts h k node row l at) ∙ none,
      )

  pub part_root_marked : IsPost (get_or parts k above) new node mark RootMarked →
      (mark_at (boards_of above parts).marks node ≡ Open)
      × (mark_at above.marks (part_place above.cut above.case.tree k) ≡ Open)
  part_root_marked p =
      let none : mark_at (get_or parts k above).marks row ≡ Open =
      no_mark RootMarked _ (p.already row row_on) (λ q. cc) in
      let m : MarksRoot (part_tree above.cut above.case.tree k) (get_or parts k above).marks
      new.marks = rw tree_is at (p.root.0 refl) in (
        sym (read_in_part above parts h k node row l at) ∙ none,
        unposted above.cut above.case.tree above.marks (map marks_of parts) k h.posted l
            (rw (listed above parts h k l) m.was),
      )

  -- and then on the top board
  pub part_then_top : IsPost (get_or parts k above) new node mark RootMarked →
      (there : BoardOf) (answer : Answer) → there.case ≡ above.case → there.cut ≡ above.cut →
      there.place ≡ above.place →
      there.marks ≡ marks_after answer above.marks (part_place above.cut above.case.tree k)
      Refuted →
      ((answer ≡ Already) ↔ (mark_at above.marks (part_place above.cut above.case.tree k) ≢ Open)) →
      AreBoards there (set parts k new)
      × ((boards_of there (set parts k new)).marks ≡ set (boards_of above parts).marks node mark)
  part_then_top p there answer case cut place marks already =
      let e : new.marks ≡ set (get_or parts k above).marks row mark = p.marks row row_on in
      let long : length new.marks ≡ size (part_tree above.cut above.case.tree k) =
      ap length e ∙ (length-set (get_or parts k above).marks row mark ∙ here.long) in
      let m : MarksRoot (part_tree above.cut above.case.tree k) (get_or parts k above).marks
      new.marks = rw tree_is at (p.root.0 refl) in
      let set_top : there.marks ≡ set above.marks (part_place above.cut above.case.tree k) Refuted =
      marks ∙ set_when answer (λ q. already.0 q (part_root_marked p).1) in
      let is : there
      ≡ with_marks above (set above.marks (part_place above.cut above.case.tree k) Refuted) =
      board_is there _ _ _ _ case cut place set_top in
      let b = root_boards above parts h k new l (set_at RootMarked p long) m.is in
      rw is (b, root_marks_after above parts h k node row mark new l at e b)
    where
      set_when : (answer : Answer) → (answer ≡ Already → ⊥) →
          marks_after answer above.marks (part_place above.cut above.case.tree k) Refuted
          ≡ set above.marks (part_place above.cut above.case.tree k) Refuted
      set_when Marked ne = refl
      set_when RootMarked ne = refl
      set_when Already ne = absurd (ne refl)

-- ---- on the top board

module _ (above : BoardOf) (parts : List BoardOf) (h : AreBoards above parts) (node row : ℕ)
    (mark : Mark) (new : BoardOf)
    (at : IsRow above.cut above.case.tree Top node row)
    (s : IsSplit (subtree_at (top above.cut above.case.tree) row)) where
  own_row_on : IsRowOn above node row
  own_row_on = rw h.at_top.place_is at

  top_set : (answer : Answer) → IsPost above new node mark answer →
      new.marks ≡ set above.marks row mark →
      AreBoards new parts
      × ((boards_of new parts).marks ≡ set (boards_of above parts).marks node mark)
  top_set answer p e =
      let is : new ≡ with_marks above (set above.marks row mark) =
      board_is new _ _ _ _ p.case p.cut p.place e in
      rw is (top_boards above parts h row mark s, top_marks_after above parts h node row mark at s)

  was_open : (answer : Answer) → IsPost above new node mark answer → (answer ≡ Already → ⊥) →
      mark_at (boards_of above parts).marks node ≡ Open
  was_open answer p ne =
      sym (read_on_top above parts h node row at s) ∙ no_mark answer _ (p.already row own_row_on) ne

  -- after a post on the top board the boards have that mark more
  pub after_top : (answer : Answer) → IsPost above new node mark answer →
      ArePosted new parts (boards_of above parts)
      (marks_with (is_new answer) (boards_of above parts).marks node mark) node (is_new answer)
  after_top Marked p =
      let t = top_set Marked p (p.marks row own_row_on) in
      (t.0, t.1, (λ _. was_open Marked p (λ q. cc), λ _. refl))
  after_top RootMarked p =
      let t = top_set RootMarked p (p.marks row own_row_on) in
      (t.0, t.1, (λ _. was_open RootMarked p (λ q. cc), λ _. refl))
  after_top Already p =
      let is : new ≡ above = board_is new _ _ _ _ p.case p.cut p.place (p.marks row own_row_on) in
      let had : mark_at (boards_of above parts).marks node ≢ Open =
      λ e. (p.already row own_row_on).0 refl (read_on_top above parts h node row at s ∙ e) in (
        rw is h,
        ap (λ (x : BoardOf). (boards_of x parts).marks) is,
        (λ f. let k : false ≡ true = f in absurd (cc), λ e. absurd (had e)),
      )

-- ---- on a part, as the call tells it

pub record IsPostIn (above : BoardOf) (parts : List BoardOf) (k node : ℕ) (mark : Mark)
    (new : BoardOf) (answer : Answer) : Type 0 where
  pub place : IsPlaceFor above.cut above.case.tree node (Part k)
  pub post : IsPost (get_or parts k above) new node mark answer

-- a post on a part's board asks for what the board asks for
pub post_in : (above : BoardOf) (parts : List BoardOf) → AreBoards above parts →
    (boards : BoardsOf) → boards_of above parts ≡ boards →
    (k node : ℕ) (mark : Mark) (old new : BoardOf)
    (answer : Answer) → IsPlaceFor boards.cut boards.case.tree node (Part k) →
    old ≡ get_or parts k old → IsPost old new node mark answer →
    IsPostIn above parts k node mark new answer
post_in above parts h boards v k node mark old new answer place e p =
    let here : IsPlaceFor above.cut above.case.tree node (Part k) = rw (← v) at place in
    record { place = here; post = rw (part_is_there above parts h k old here.is_place e) at p }

true_not_false : {A : Type 0} → false ≡ true → A
true_not_false e = absurd (cc)

-- a post that found a mark on a part's board changes none of the boards
pub in_already : (above : BoardOf) (parts : List BoardOf) (h : AreBoards above parts)
    (boards : BoardsOf) → boards_of above parts ≡ boards →
    (k node : ℕ) (mark : Mark) (new : BoardOf) →
    IsPostIn above parts k node mark new Already →
    ArePosted above (set parts k new) boards boards.marks node false
in_already above parts h boards v k node mark new p =
    let r =
    part_already above parts h k node p.place.row mark new p.place.is_place p.place.is_row p.post in
    rw (← v) (r.0, r.1, (λ f. true_not_false f, λ e. absurd (r.2 e)))

-- after a post on a part's board the boards have that mark more
pub in_marked : (above : BoardOf) (parts : List BoardOf) (h : AreBoards above parts)
    (boards : BoardsOf) → boards_of above parts ≡ boards →
    (k node : ℕ) (mark : Mark) (new : BoardOf) →
    IsPostIn above parts k node mark new Marked →
    ArePosted above (set parts k new) boards (set boards.marks node mark) node true
in_marked above parts h boards v k node mark new p =
    let r =
    part_marked above parts h k node p.place.row mark new p.place.is_place p.place.is_row p.post in
    rw (← v) (r.0, r.1, (λ f. r.2, λ e. refl))

part_of : (a b : ℕ) → Part a ≡ Part b → a ≡ b
part_of a b e = cc

-- after a post that marked a part's root, and the part's own, the boards have that mark more
pub in_root_marked : (above : BoardOf) (parts : List BoardOf) (h : AreBoards above parts)
    (boards : BoardsOf) → boards_of above parts ≡ boards →
    (k node : ℕ) (mark : Mark) (old new : BoardOf) →
    IsPostIn above parts k node mark new RootMarked → old ≡ get_or parts k old → (part : ℕ) →
    old.place ≡ Part part → (there : BoardOf) (answer : Answer) →
    there.case ≡ above.case → there.cut ≡ above.cut → there.place ≡ above.place →
    there.marks ≡ marks_after answer above.marks (part_place above.cut above.case.tree part)
    Refuted →
    ((answer ≡ Already) ↔
    (mark_at above.marks (part_place above.cut above.case.tree part) ≢ Open)) →
    ArePosted there (set parts k new) boards (set boards.marks node mark) node true
in_root_marked above parts h boards v k node mark old new p e part place there answer case cut
    place_same marks already =
    let b = h.at_part k p.place.is_place in
    let same : part ≡ k =
    part_of part k
    (sym place
    ∙ (ap (λ (x : BoardOf). x.place) (part_is_there above parts h k old p.place.is_place e)
    ∙ b.place_is)) in
    let r =
    part_then_top above parts h k node p.place.row mark new p.place.is_place p.place.is_row p.post
    there answer case cut place_same (rw same at marks) (rw same at already) in
    let was =
    part_root_marked above parts h k node p.place.row mark new p.place.is_place p.place.is_row
    p.post in
    rw (← v) (r.0, r.1, (λ f. was.0, λ _. refl))
