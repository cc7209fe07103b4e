-- How passes are gathered, and what the boards of a closed hall are.
use Rattle.std.proofs.Common.{◌≡◌, ◌⊎◌, ℕ, ◌+◌, ◌<◌, ◌≤◌, Bool, true, false, List, [], ◌∷◌, ◌++◌}
use Rattle.std.proofs.Common.{length, get_or, map, All, Option, Some, None, refl, sym, ap, ◌∙◌}
use Rattle.std.proofs.Common.{subst, inl, inr, ⊎_elim, arith, append_assoc, length-append}
use mathlib.Core.Logic.{dite}
use native.Mathlib.Decide.{ℕ_discrete}
use mathlib.Core.Option.{some, some-injective}
use lib.ListN.{get_elem?}
use Rattle.std.proofs.Math.ListN.{get_or-append}
use Rattle.std.proofs.lemmas.List.Elements.{All-cons}
use Rattle.std.proofs.lemmas.List.{get_or_push, get_or-map}
use Rattle.atomic_table.specs.Table.{Final, Seen}
use Rattle.split_tree.specs.SplitTree.{size}
use Rattle.mark_board.specs.declared.mark.Mark.{Mark}
use Rattle.mark_board.specs.declared.mark.Mark.TheVariants.{Open, Refuted, Rejected}
use Rattle.mark_board.specs.declared.place.Place.{Place}
use Rattle.mark_board.specs.declared.place.Place.TheVariants.{Part, Top}
use Rattle.mark_board.specs.declared.stored.BoardData.{BoardData}
use Rattle.mark_board.specs.Board.{BoardOf, board_tree, IsRow, HasTargets}
use Rattle.mark_board.specs.Boards.{part_mark, part_tree, part_marks, marks_of}
use Rattle.mark_board.specs.Boards.{boards_of as boards_together, IsBoardAt, AreBoards}
use Rattle.case_core.specs.Case.{CaseOf}
use Rattle.mark_board.specs.BoardData.{stored_board, IsDataOf}
use Rattle.mark_board.specs.Marking.{marked, mark_at, refuted_by, is_refuted}
use Rattle.mark_board.specs.TopPlaces.{part_place}
use Rattle.mark_board.specs.Findings.{mark_as}
use Rattle.mark_board.proofs.BoardsGathered.{all_marks, read_in_part, read_on_top}
use Rattle.board_hall.specs.declared.pass.Pass.{Pass}
use Rattle.board_hall.specs.declared.view.View.{View}
use Rattle.board_hall.specs.declared.view.CutCase.{CutCase}
use Rattle.board_hall.specs.declared.view.Post.{Post}
use Rattle.board_hall.specs.declared.view.Proofs.{Proofs}
use Rattle.board_hall.specs.Posts.{parts_in, board_count, place_of, mark_in, root_by, one_if}
use Rattle.board_hall.specs.Posts.{placed, Among, AreReal, IsFindingPost, IsPartPost, posts_of}
use Rattle.board_hall.specs.Hall.{HallState, IsBoardOf, Reached, meeting}
use Rattle.board_hall.specs.Inner.Plays.{Hand}
use Rattle.board_hall.specs.Halls.{view_of}
use Rattle.board_hall.specs.Clauses.{IsHome, HoldPosts}
use Rattle.board_hall.specs.Inner.Held.{Includes, Gathered}
use Rattle.board_hall.specs.Inner.Closing.{AreHome}
use Rattle.board_hall.proofs.PostsLists.{among_left, among_right, among_posts, marked_among}
use Rattle.board_hall.proofs.HallLawful.{reached_lawful, all_real, all_free, none_owed, own_row}
use Rattle.board_hall.proofs.PostsHomes.{place_in_part, place_on_top}
use Rattle.board_hall.proofs.HeldPosts.{open_or}

includes_more : (v w : View) (p : Pass) → Includes v p → Includes (meeting v w) p
includes_more v w p h x a =
    ⊎_elim (λ l. inl l) (λ r. inr (among_left v.seen (w.posts ++ w.seen) x r)) (h x a)

includes_met : (v : View) (p : Pass) → Includes (meeting v (view_of p)) p
includes_met v p x a =
    let w : View = view_of p in
    inr (among_right v.seen (w.posts ++ w.seen) x
    (⊎_elim (λ l. among_left w.posts w.seen x l) (λ r. among_right w.posts w.seen x r) a))

-- one more pass was met
pub gathered_more : (first p : Pass) (m : List Pass) (me after : Hand) →
    Gathered first (length m) m me → (view_of p).parts ≡ 1 →
    after ≡ (meeting me.0 (view_of p), me.1) → Gathered first (length (p ∷ m)) (p ∷ m) after
gathered_more first p m me after g one is =
    let t = g.parts in subst (Gathered first (length (p ∷ m)) (p ∷ m)) (sym is) record {
      none_out = g.none_out;
      rests = g.rests;
      parts = omega (arith, t, one);
      has_first = includes_more me.0 (view_of p) first g.has_first;
      has_others =
          All-cons (Includes (meeting me.0 (view_of p))) p m (includes_met me.0 p)
          (λ j d inside. includes_more me.0 (view_of p) (get_or m j d) (g.has_others j d inside));
    }

-- the last of some passes is moved to the front of the others
pub moved_over : (all old new m : List Pass) (p : Pass) → all ≡ old ++ m → old ≡ new ++ p ∷ [] →
    all ≡ new ++ p ∷ m
moved_over all old new m p e f = e ∙ (ap (λ l. l ++ m) f ∙ append_assoc new (p ∷ []) m)

-- a fact on each of several and a last one
pub all_front : {A : Type 0} (P : A → Type 0) (xs : List A) (x : A) → All P (xs ++ x ∷ []) →
    All P xs
all_front P xs x h j d inside =
    subst P (get_or-append xs (x ∷ []) d j inside)
    (h j d (let l = length-append xs (x ∷ []) in omega (arith, l, inside)))

-- what holds of some and of one more behind them holds of all
pub all_both : {A : Type 0} (P : A → Type 0) (all xs : List A) (x : A) → all ≡ xs ++ x ∷ [] →
    All P xs → P x → All P all
all_both P all xs x e h last = subst (All P) (sym e) (λ j d inside. dite (ℕ_discrete j (length xs))
    (λ is. subst P (sym (get_or_push xs x d j (sym is))) last)
    (λ apart. let l = length-append xs (x ∷ []) in
    let near : j < length xs = omega (arith, l, inside, apart) in
    subst P (sym (get_or-append xs (x ∷ []) d j near)) (h j d near)))

-- once no pass holds a board or owes a part

refuted_only : (m : Mark) → (m ≡ Open) ⊎ (m ≡ Refuted) → (r : Bool) → one_if r ≡ placed m →
    m ≡ part_mark r
refuted_only Open o true e = absurd (omega (arith, e))
refuted_only Open o false e = refl
refuted_only Refuted o true e = refl
refuted_only Refuted o false e = absurd (omega (arith, e))
refuted_only (Rejected number reason) o r e = ⊎_elim (λ z. absurd (cc)) (λ z. absurd (cc)) o

module _ (k : CutCase) where
  part_open_or : (posts : List Post) → AreReal k posts → (part : ℕ) → part < parts_in k →
      (mark_in posts (parts_in k) (part_place k.cut k.case.tree part) ≡ Open)
      ⊎ (mark_in posts (parts_in k) (part_place k.cut k.case.tree part) ≡ Refuted)
  part_open_or posts real part inside = ⊎_elim (λ o. inl o)
      (λ some_. let a = marked_among posts (parts_in k) (part_place k.cut k.case.tree part) some_ in
      ⊎_elim
      (λ (f : IsFindingPost k a.0). absurd (own_row k a.0 f a.2 part inside (sym a.3)))
      (λ (p : (q : ℕ) × IsPartPost k q a.0). inr (a.4 ∙ ap mark_as p.1.refuted))
      (real a.0 a.1))
      (open_or (mark_in posts (parts_in k) (part_place k.cut k.case.tree part)))

  -- each board is at home, once a seat stands for all passes
  pub homes : (passes id : ℕ) (v : View) (words : List ℕ) (slots : List (Option BoardData)) →
      Final (Seen (Reached k passes) id v) words slots → v.parts ≡ passes →
      (v.held ≡ None) × (v.owes ≡ None)
      →
      (s : HallState) × Reached k passes s × AreReal k (posts_of s.views)
      × ((x : Post) → Among x v.posts ⊎ Among x v.seen → Among x (posts_of s.views))
      × AreHome k (posts_of s.views) slots
  homes passes id v words slots f whole rests =
      let s : HallState = f.0 in let g = f.1.0 in let at_id = f.1.1 in
      let l = reached_lawful k passes s g in let P : List Post = posts_of s.views in
      let kn = l.each_pass id v at_id in let real = all_real k s l in (
        s,
        g,
        real,
        (λ x a. ⊎_elim (λ m. among_posts s.views id v x at_id m) (λ m. kn.seen x m) a),
        record {
          long = sym f.3 ∙ l.slots;
          board = λ b inside. let h =
              l.home b inside (all_free k passes s g id v at_id whole rests b inside) in
              (h.0, f.4 b (Some h.0) h.1, h.2);
          settled =
              λ part inside.
              refuted_only (mark_in P (parts_in k) (part_place k.cut k.case.tree part))
              (part_open_or P real part inside) (root_by k part (mark_in P part))
              (let o = l.owing part inside in
              let z = none_owed k passes s g id v at_id whole rests part in omega (arith, o, z));
        },
      )

-- The boards together.
rebase : (k : CutCase) (b : ℕ) (place : Place) (board above : BoardOf) →
    IsBoardAt k.case k.cut (place_of k b) board → above.case ≡ k.case → above.cut ≡ k.cut →
    place_of k b ≡ place → IsBoardAt above.case above.cut place board
rebase k b place board above is e f g = record {
  case_is = is.case_is ∙ sym e;
  cut_is = is.cut_is ∙ sym f;
  place_is = is.place_is ∙ g;
  long = is.long ∙ (λ i. size (board_tree (sym f i) (sym e i).tree (g i)));
}

module _ (e : Proofs) (posts : List Post) (above : BoardOf) (parts : List BoardOf) where
  abbrev k : CutCase
  k = record { case = above.case; cut = above.cut; proofs = e }

  module _ (low : above.cut ≤ 6) (count : length parts ≡ parts_in k)
      (top : IsBoardOf k (parts_in k) posts above)
      (each : (part : ℕ) → part < parts_in k → IsBoardOf k part posts (get_or parts part above))
      (settled : (part : ℕ) → part < parts_in k →
      mark_in posts (parts_in k) (part_place k.cut k.case.tree part)
      ≡ part_mark (root_by k part (mark_in posts part))) where
    listed : (part : ℕ) → part < parts_in k →
        part_marks (map marks_of parts) part ≡ (get_or parts part above).marks
    listed part inside = get_or-map marks_of parts part above [] (omega (arith, count, inside))

    root_there : (part : ℕ) → part < parts_in k →
        marked (refuted_by (part_marks (map marks_of parts) part)) 0
        (part_tree k.cut k.case.tree part) ≡ root_by k part (mark_in posts part)
    root_there part inside =
        (λ i. marked (refuted_by (listed part inside i)) 0 (part_tree k.cut k.case.tree part))
        ∙ (λ i. marked (λ row. is_refuted ((each part inside).marks row i)) 0
        (board_tree k.cut k.case.tree (sym (place_in_part k part inside) i)))

    pub are_boards : AreBoards above parts
    are_boards = record {
      low = low;
      at_top =
          rebase k (parts_in k) Top above above top.is_at refl refl
          (place_on_top k (parts_in k) refl);
      count = count;
      at_part =
          λ part inside.
          rebase k part (Part part) (get_or parts part above) above (each part inside).is_at refl
          refl (place_in_part k part inside);
      posted =
          λ part inside. top.marks (part_place k.cut k.case.tree part)
          ∙ (settled part inside ∙ ap part_mark (sym (root_there part inside)));
    }

    marks_are : (node b row : ℕ) → IsHome k node b row →
        mark_at (boards_together above parts).marks node ≡ mark_in posts b row
    marks_are node b row home = dite (ℕ_discrete b (parts_in k))
        (λ e. let p = place_on_top k b e in
        sym (read_on_top above parts are_boards node row
        (subst (λ z. IsRow k.cut k.case.tree z node row) p home.is_row)
        (subst (λ z. HasTargets k.cut k.case.tree z row) p home.has_targets))
        ∙ (top.marks row ∙ (λ i. mark_in posts (sym e i) row)))
        (λ apart. let n = home.inside in let inside : b < parts_in k = omega (arith, n, apart) in
        sym (read_in_part above parts are_boards b node row inside
        (subst (λ z. IsRow k.cut k.case.tree z node row) (place_in_part k b inside) home.is_row))
        ∙ (each b inside).marks row)

    pub hold : HoldPosts k posts (boards_together above parts)
    hold =
        record {
          case = refl;
          cut = refl;
          long = (all_marks above parts are_boards).long;
          marks = marks_are;
        }

-- the board that was taken out of a slot
pub board_there : (k : CutCase) (posts : List Post) (slots : List (Option BoardData)) (b : ℕ)
    (slot : Option BoardData) (board : BoardOf) (case : CaseOf) → AreHome k posts slots →
    k.case ≡ case → b < board_count k
    → get_elem? slots b ≡ some slot →
    ((stored : BoardData) → slot ≡ Some stored → board ≡ stored_board case stored) →
    IsBoardOf k b posts board
board_there k posts slots b slot board case home is inside at bound =
    let h = home.board b inside in
    let e : slot ≡ Some h.0 = some-injective slot (Some h.0) (sym at ∙ h.1) in
    subst (IsBoardOf k b posts) (sym (bound h.0 e ∙ ap (λ z. stored_board z h.0) (sym is)))
    h.2.is_board

-- it is of the case
pub slot_there : (k : CutCase) (posts : List Post) (slots : List (Option BoardData)) (b : ℕ)
    (slot : Option BoardData) (case : CaseOf) → AreHome k posts slots → k.case ≡ case →
    b < board_count k
    → get_elem? slots b ≡ some slot →
    (stored : BoardData) × (slot ≡ Some stored) × IsDataOf case stored
slot_there k posts slots b slot case home is inside at =
    let h = home.board b inside in
    (h.0, some-injective slot (Some h.0) (sym at ∙ h.1), subst (λ z. IsDataOf z h.0) is h.2.is_data)

-- one more board was taken out
pub unpacked_more : (k : CutCase) (posts : List Post) (old new : List BoardOf) (part : ℕ)
    (board : BoardOf) → length old ≡ part → new ≡ old ++ board ∷ [] → IsBoardOf k part posts board
    → ((other : BoardOf) (p : ℕ) → p < part → IsBoardOf k p posts (get_or old p other)) →
    (other : BoardOf) (p : ℕ) → p < part + 1 → IsBoardOf k p posts (get_or new p other)
unpacked_more k posts old new part board long items is so other p inside =
    subst (λ l. IsBoardOf k p posts (get_or l p other)) (sym items) (dite (ℕ_discrete p part)
    (λ here. subst (λ (z : BoardOf × ℕ). IsBoardOf k z.1 posts z.0)
    (λ i. (sym (get_or_push old board other p (long ∙ sym here)) i, sym here i)) is)
    (λ apart. subst (IsBoardOf k p posts)
    (sym (get_or-append old (board ∷ []) other p (omega (arith, long, inside, apart))))
    (so other p (omega (arith, inside, apart)))))

-- all boards together
pub together : (k : CutCase) (posts : List Post) (above : BoardOf) (parts : List BoardOf) →
    k.cut ≤ 6 → length parts ≡ parts_in k → IsBoardOf k (parts_in k) posts above
    → ((part : ℕ) → part < parts_in k → IsBoardOf k part posts (get_or parts part above))
    →
    ((part : ℕ) → part < parts_in k →
    mark_in posts (parts_in k) (part_place k.cut k.case.tree part)
    ≡ part_mark (root_by k part (mark_in posts part)))
    → AreBoards above parts × HoldPosts k posts (boards_together above parts)
together k posts above parts low count top each settled =
    let here : CutCase =
    record { case = above.case; cut = above.cut; proofs = k.proofs } in
    let same : here ≡ k = (λ i. record {
      case = top.is_at.case_is i;
      cut = top.is_at.cut_is i;
      proofs = k.proofs;
    }) in
    let low' : above.cut ≤ 6 = subst (λ (z : CutCase). z.cut ≤ 6) (sym same) low in
    let count' : length parts ≡ parts_in here = count ∙ (λ i. parts_in (sym same i)) in
    let top' : IsBoardOf here (parts_in here) posts above =
    subst (λ (z : CutCase). IsBoardOf z (parts_in z) posts above) (sym same) top in
    let each' : (part : ℕ) → part < parts_in here →
    IsBoardOf here part posts (get_or parts part above) =
    subst (λ (z : CutCase). (part : ℕ) → part < parts_in z →
    IsBoardOf z part posts (get_or parts part above)) (sym same) each in
    let settled' : (part : ℕ) → part < parts_in here →
    mark_in posts (parts_in here) (part_place here.cut here.case.tree part)
    ≡ part_mark (root_by here part (mark_in posts part)) =
    subst (λ (z : CutCase). (part : ℕ) → part < parts_in z →
    mark_in posts (parts_in z) (part_place z.cut z.case.tree part)
    ≡ part_mark (root_by z part (mark_in posts part))) (sym same) settled in (
      are_boards k.proofs posts above parts low' count' top' each' settled',
      subst (λ z. HoldPosts z posts (boards_together above parts)) same
          (hold k.proofs posts above parts low' count' top' each' settled'),
    )
