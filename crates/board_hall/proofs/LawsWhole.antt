-- What a free board is.
use Rattle.std.proofs.Common.{◌≡◌, ◌≢◌, ◌⊎◌, ◌+◌, ◌<◌, ◌≤◌, ◌&&◌, ◌||◌, ℕ, suc, Bool, true, false}
use Rattle.std.proofs.Common.{List, get_or, refl, sym, ap, ◌∙◌, subst, inl, inr, ⊎_elim, arith}
use Rattle.std.proofs.Common.{zero-add}
use Rattle.std.specs.List.{Contains}
use Rattle.std.proofs.lemmas.Bool.{and_from}
use Rattle.case_core.specs.Formula.{IsRefuted}
use Rattle.case_core.specs.Judged.{Judged}
use Rattle.case_core.specs.Judged.TheVariants.{Refuted as judged_refuted}
use Rattle.case_core.specs.Judged.TheVariants.{Rejected as judged_rejected}
use Rattle.split_tree.specs.SplitTree.{SplitTree, missing, cube, split, size, subtree_at, path_at}
use Rattle.split_tree.specs.SplitTree.{IsLeaf}
use Rattle.split_tree.specs.Navigation.{AreBranches}
use Rattle.mark_board.specs.declared.mark.Mark.{Mark}
use Rattle.mark_board.specs.declared.mark.Mark.TheVariants.{Open, Refuted, Rejected}
use Rattle.mark_board.specs.declared.stored.BoardData.{BoardData}
use Rattle.mark_board.specs.Board.{BoardOf, board_tree, board_node, tree_on, node_on}
use Rattle.mark_board.specs.Boards.{IsBoardAt}
use Rattle.mark_board.specs.Marking.{marked, open_weight, is_refuted, refuted_by}
use Rattle.mark_board.specs.Findings.{mark_as}
use Rattle.mark_board.specs.BoardData.{stored_board}
use Rattle.mark_board.proofs.BoardRows.{stored_sound}
use Rattle.board_hall.specs.declared.view.CutCase.{CutCase}
use Rattle.board_hall.specs.declared.view.Post.{Post}
use Rattle.board_hall.specs.Posts.{board_count, place_of, tree_at, weight_of, mark_in, posts_of}
use Rattle.board_hall.specs.Posts.{times_posted}
use Rattle.board_hall.specs.Hall.{HallState, Reached, lock_word}
use Rattle.board_hall.specs.Laws.{IsRefutedBy, AreRising, IsWhole}
use Rattle.board_hall.proofs.HallLawful.{reached_lawful}
use Rattle.board_hall.proofs.LawsOpenLeaves.{open_leaves, rising, weighs, open_is, listed, IsOpen}
use Rattle.board_hall.proofs.PostsLists.{mark_among, marked_among}

-- the board stands at its place
module _ (k : CutCase) (b : ℕ) (board : BoardOf) (at : IsBoardAt k.case k.cut (place_of k b) board)
  where
    pub at_tree : tree_on board ≡ board_tree k.cut k.case.tree (place_of k b)
    at_tree = λ i. board_tree (at.cut_is i) (at.case_is i).tree (at.place_is i)

    pub at_node : (row : ℕ) → node_on board row ≡ board_node k.cut k.case.tree (place_of k b) row
    at_node row = λ i. board_node (at.cut_is i) (at.case_is i).tree (at.place_is i) row

-- What a mark says of the posts.
refuted_judged : (judged : Judged) → is_refuted (mark_as judged) ≡ true → judged ≡ judged_refuted
refuted_judged judged_refuted e = refl
refuted_judged (judged_rejected step reason) e = absurd (cc)

refuted_closed : (m : Mark) → is_refuted m ≡ true → m ≢ Open
refuted_closed Open e o = absurd (cc)
refuted_closed Refuted e o = cc
refuted_closed (Rejected step reason) e o = cc

-- where the mark of a row says refuted, its refutation was posted
pub posted_refuted : (posts : List Post) (b row : ℕ) → is_refuted (mark_in posts b row) ≡ true →
    IsRefutedBy posts b row
posted_refuted posts b row e =
    let a = marked_among posts b row (refuted_closed (mark_in posts b row) e) in
    (a.0, a.1, a.2, a.3, refuted_judged a.0.judged (sym (ap is_refuted a.4) ∙ e))

refuted_posted : (posts : List Post) → ((c row : ℕ) → times_posted posts c row ≤ 1) → (b row : ℕ) →
    IsRefutedBy posts b row → is_refuted (mark_in posts b row) ≡ true
refuted_posted posts once b row p =
    let x : Post = p.0 in
    ap is_refuted
    ((λ i. mark_in posts (sym p.2 i) (sym p.3 i)) ∙ (mark_among posts once x p.1 ∙ ap mark_as p.4))

-- What is marked, at a leaf and at an inner node.
leaf_marked : (refuted : ℕ → Bool) (row : ℕ) (t : SplitTree) → IsLeaf t →
    marked refuted row t ≡ refuted row
leaf_marked refuted row missing leaf = refl
leaf_marked refuted row (cube k) leaf = refl
leaf_marked refuted row (split v p n) leaf = absurd leaf

branches_marked : (refuted : ℕ → Bool) (tree : SplitTree) (row first second : ℕ) →
    (br : AreBranches tree row first second)
    →
    marked refuted row (subtree_at tree row)
    ≡ (refuted row
    || (marked refuted first (subtree_at tree first)
    && marked refuted second (subtree_at tree second)))
branches_marked refuted tree row first second br =
    let a : first ≡ suc row = (let e = br.first_is in omega (arith, e)) in
    let b : second ≡ suc (row + size br.positive) = (let e = br.second_is in omega (arith, e)) in
    ap (marked refuted row) br.is
    ∙ (λ i. refuted row
    || (marked refuted (sym a i) (sym br.at_first i)
    && marked refuted (sym b i) (sym br.at_second i)))

-- where one or two others hold, the one holds, or both others do
pub either_of : (a b c : Bool) → (a || (b && c)) ≡ true → (a ≡ true) ⊎ ((b ≡ true) × (c ≡ true))
either_of true b c e = inl refl
either_of false true true e = inr (refl, refl)
either_of false true false e = absurd (cc)
either_of false false c e = absurd (cc)

first_of : (a b : Bool) → a ≡ true → (a || b) ≡ true
first_of true b e = refl
first_of false b e = absurd (cc)

second_of : (a b : Bool) → b ≡ true → (a || b) ≡ true
second_of true b e = refl
second_of false b e = e

-- no truth value is false and true
pub not_both : (a : Bool) → a ≡ false → a ≡ true → ⊥
not_both true e f = cc
not_both false e f = cc

-- a truth value that isn't true is false
pub false_of : (a : Bool) → (a ≡ true → ⊥) → a ≡ false
false_of true h = absurd (h refl)
false_of false h = refl

-- a board whose lock is free is at home, with exactly its posts and their open weight
pub whole : (k : CutCase) (passes : ℕ) (s : HallState) → Reached k passes s → (b : ℕ) →
    b < board_count k → get_or s.words (lock_word b) 0 ≡ 0 → IsWhole k b s
whole k passes s g b within free =
    let l = reached_lawful k passes s g in let h = l.home b within free in
    let y : BoardData = h.0 in let board : BoardOf = stored_board k.case y in
    let at : IsBoardAt k.case k.cut (place_of k b) board = h.2.is_board.is_at in
    let posts : List Post = posts_of s.views in let tree : SplitTree = tree_at k b in
    let refuted : ℕ → Bool = refuted_by board.marks in
    let same : (row : ℕ) → refuted row ≡ is_refuted (mark_in posts b row) =
    λ row. ap is_refuted (h.2.is_board.marks row) in record {
      stored = y;
      at_home = h.1;
      is_board = h.2;
      sound =
          λ row inside m.
          subst (λ node. IsRefuted k.case.formula (path_at k.case.tree node))
          (at_node k b board at row)
          (stored_sound k.case y row h.2.is_data
          (subst (λ (t : SplitTree). row < size t) (sym (at_tree k b board at)) inside)
          (subst (λ (t : SplitTree). marked (refuted_by board.marks) row (subtree_at t row) ≡ true)
          (sym (at_tree k b board at)) m));
      leaves = λ row inside leaf. let e =
          leaf_marked refuted row (subtree_at tree row) leaf ∙ same row in (
            (λ m. posted_refuted posts b row (sym e ∙ m)),
            (λ p. e ∙ refuted_posted posts l.once b row p),
          );
      inner = λ row first second br.
          let e = branches_marked refuted tree row first second br in
          let m1 : Bool = marked refuted first (subtree_at tree first) in
          let m2 : Bool = marked refuted second (subtree_at tree second) in (
            (λ m. ⊎_elim (λ own. inl (posted_refuted posts b row (sym (same row) ∙ own)))
                (λ both. inr both) (either_of (refuted row) m1 m2 (sym e ∙ m))),
            (λ c. e
                ∙ ⊎_elim (λ p.
                first_of (refuted row) (m1 && m2) (same row ∙ refuted_posted posts l.once b row p))
                (λ both. second_of (refuted row) (m1 && m2) (and_from m1 m2 both.0 both.1)) c),
          );
      open_is = record {
        rows = open_leaves refuted 0 tree;
        once =
            subst (AreRising 0 (open_leaves refuted 0 tree)) (zero-add (size tree))
            (rising refuted 0 tree);
        all = λ row. (
          (λ c. let o = open_is refuted 0 row tree c in let r : ℕ = o.0 in
              let e : r ≡ row = (let f = o.1 in omega (arith, f)) in
              let is : IsOpen refuted 0 tree row = subst (IsOpen refuted 0 tree) e o.2 in record {
                within = is.0;
                leaf = is.1;
                under_none =
                    λ above under m.
                    not_both (marked refuted above (subtree_at tree above))
                    (rw (zero-add above) at (is.2 above under)) m;
              }),
          (λ o. subst (Contains (open_leaves refuted 0 tree)) (zero-add row)
              (listed refuted 0 row tree (
                o.within,
                o.leaf,
                λ above under.
                    rw (zero-add above)
                    (false_of (marked refuted above (subtree_at tree above))
                    (o.under_none above under)),
              ))),
        );
        sum_is =
            l.opens b within
            ∙ ((λ i. open_weight (weight_of k b)
            (λ row. is_refuted (sym (h.2.is_board.marks row) i)) 0 tree)
            ∙ weighs (weight_of k b) refuted 0 tree);
      };
    }
