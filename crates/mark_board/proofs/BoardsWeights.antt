-- The open weight below a node, by the boards.
use Rattle.std.proofs.Common.{◌≡◌, ℕ, suc, ◌+◌, ◌<◌, ◌≤◌, ◌^◌, List, get_or, Bool, false, refl, sym}
use Rattle.std.proofs.Common.{ap, subst, ◌∙◌, arith}
use Rattle.split_tree.specs.SplitTree.{SplitTree, missing, cube, split, size, total, subtree_at}
use Rattle.split_tree.specs.SplitTree.{IsSplit, IsLeaf}
use Rattle.split_tree.specs.Parts.{top}
use Rattle.split_tree.specs.Navigation.{AreBranches}
use Rattle.split_tree.proofs.TablesTotals.{total_at}
use Rattle.mark_board.specs.declared.mark.Mark.{Mark}
use Rattle.mark_board.specs.declared.mark.Mark.TheVariants.{Open, Refuted, Rejected}
use Rattle.mark_board.specs.declared.place.Place.TheVariants.{Part, Top}
use Rattle.mark_board.specs.Marking.{open_weight, is_refuted, mark_at, refuted_by}
use Rattle.mark_board.specs.TopPlaces.{top_node, worth_of}
use Rattle.mark_board.specs.Board.{BoardOf, IsRow, IsRowOn, IsTargetRow, tree_on, worth_on}
use Rattle.mark_board.specs.Boards.{boards_of, BoardsOf, AreBoards, IsPlaceFor}
use Rattle.mark_board.proofs.MarkingLaws.{open_sum, open_whole, marked_open, root_covered}
use Rattle.mark_board.proofs.TopPlacesNodes.{split_at_top}
use Rattle.mark_board.proofs.MarkingWalk.{worth_whole}
use Rattle.mark_board.proofs.BoardsGathered.{board_is, part_is_there, part_row_on, open_part_below}

-- ---- an inner node above the cut

pub record IsInner (tree : SplitTree) (node : ℕ) : Type 0 where
  pub within : node < size tree
  pub inner : IsSplit (subtree_at tree node)

inner_of : (t : SplitTree) (v : ℕ) (p n : SplitTree) → t ≡ split v p n → IsSplit t
inner_of t v p n e = rw e tt

own_inner : (cut : ℕ) (tree : SplitTree) (node row : ℕ) → IsRow cut tree Top node row →
    (t : SplitTree) → subtree_at (top cut tree) row ≡ t → IsSplit t → IsInner tree node
own_inner cut tree node row at missing e s = absurd s
own_inner cut tree node row at (cube k) e s = absurd s
own_inner cut tree node row at (split v a b) e s =
    let w = split_at_top tree cut row v a b at.within e in
    let here : top_node cut tree row ≡ node = at.here in
    record {
      within = rw here at w.within;
      inner =
          inner_of (subtree_at tree node) v w.positive w.negative
          (ap (subtree_at tree) (sym here) ∙ w.is);
    }

-- a node of the top board's own is an inner node
pub own_is_inner : (cut : ℕ) (tree : SplitTree) (node : ℕ) → IsPlaceFor cut tree node Top →
    IsInner tree node
own_is_inner cut tree node p =
    own_inner cut tree node p.row p.is_row (subtree_at (top cut tree) p.row) refl p.has_targets

-- no inner node is a leaf
pub not_both : (t : SplitTree) → IsSplit t → IsLeaf t → ⊥
not_both missing s l = s
not_both (cube k) s l = s
not_both (split v p n) s l = l

-- the open weight under a node, by what all boards together say
abbrev pub open_at : BoardsOf → ℕ → ℕ
open_at boards node =
    open_weight (worth_of boards.case.tree) (refuted_by boards.marks) node
    (subtree_at boards.case.tree node)

module _ (above : BoardOf) (parts : List BoardOf) (h : AreBoards above parts) where
  -- a node of the top board's own has its row there
  pub own_row : (node : ℕ) (p : IsPlaceFor above.cut above.case.tree node Top) →
      IsTargetRow above node p.row
  own_row node p =
      record {
        is_row = rw h.at_top.place_is p.is_row;
        has_targets = rw h.at_top.place_is p.has_targets;
      }

  -- in a part
  pub open_there : (k node weight : ℕ) (board : BoardOf) →
      IsPlaceFor above.cut above.case.tree node (Part k) → board ≡ get_or parts k board →
      ((row : ℕ) → IsRowOn board node row →
      weight ≡ open_weight (worth_on board) (refuted_by board.marks) row
      (subtree_at (tree_on board) row)) →
      weight ≡ open_weight (worth_of above.case.tree) (refuted_by (boards_of above parts).marks)
      node (subtree_at above.case.tree node)
  open_there k node weight board p e is =
      let b = h.at_part k p.is_place in
      let same : board ≡ get_or parts k above = part_is_there above parts h k board p.is_place e in
      let whole =
      same ∙ board_is (get_or parts k above) _ _ _ _ b.case_is b.cut_is b.place_is refl in
      let found = is p.row (part_row_on above parts h k node p.row board p.is_place e p.is_row) in
      subst (λ (x : BoardOf). weight
      ≡ open_weight (worth_on x) (refuted_by x.marks) p.row (subtree_at (tree_on x) p.row)) whole
      found ∙ open_part_below above parts h k node p.row p.is_place p.is_row

  -- above the cut
  pub none_below : (node : ℕ) (mark : Mark) → IsPlaceFor above.cut above.case.tree node Top →
      mark ≡ mark_at (boards_of above parts).marks node → mark ≡ Refuted →
      0 ≡ open_weight (worth_of above.case.tree) (refuted_by (boards_of above parts).marks) node
      (subtree_at above.case.tree node)
  none_below node mark p e is =
      sym (marked_open (worth_of above.case.tree) (refuted_by (boards_of above parts).marks) node
      (subtree_at above.case.tree node)
      (root_covered (refuted_by (boards_of above parts).marks) node
      (subtree_at above.case.tree node) (ap is_refuted (sym e ∙ is))))

  not_refuted_mark : (mark : Mark) → (mark ≡ Refuted → ⊥) → is_refuted mark ≡ false
  not_refuted_mark Open ne = refl
  not_refuted_mark Refuted ne = absurd (ne refl)
  not_refuted_mark (Rejected step reason) ne = refl

  pub both_below : (node first second : ℕ) (mark : Mark) →
      AreBranches above.case.tree node first second →
      mark ≡ mark_at (boards_of above parts).marks node → (mark ≡ Refuted → ⊥) →
      open_weight (worth_of above.case.tree) (refuted_by (boards_of above parts).marks) first
      (subtree_at above.case.tree first)
      + open_weight (worth_of above.case.tree) (refuted_by (boards_of above parts).marks) second
      (subtree_at above.case.tree second)
      ≡ open_weight (worth_of above.case.tree) (refuted_by (boards_of above parts).marks) node
      (subtree_at above.case.tree node)
  both_below node first second mark b e ne =
      let own : refuted_by (boards_of above parts).marks node ≡ false =
      ap is_refuted (sym e) ∙ not_refuted_mark mark ne in
      let sum =
      open_sum (worth_of above.case.tree) (refuted_by (boards_of above parts).marks) node b.variable
      b.positive b.negative own in
      let f : first ≡ suc node = omega (arith, b.first_is) in
      let g : second ≡ suc (node + size b.positive) = omega (arith, b.second_is) in
      rw (b.is, b.at_first, b.at_second, f, g) (sym sum)

  -- above the cut, the open weight below an unmarked node is that below its branches
  pub both_open : (boards : BoardsOf) → boards_of above parts ≡ boards →
      (node first second a b : ℕ) (mark : Mark) → AreBranches above.case.tree node first second →
      mark ≡ mark_at (boards_of above parts).marks node → (mark ≡ Refuted → ⊥) →
      a ≡ open_at boards first → b ≡ open_at boards second → a + b ≡ open_at boards node
  both_open boards v node first second a b mark branches e ne =
      subst (λ (x : BoardsOf). a ≡ open_at x first → b ≡ open_at x second → a + b ≡ open_at x node)
      v
      (λ f g. ap (λ (i : ℕ). i + b) f
      ∙ (ap (λ (i : ℕ). open_at (boards_of above parts) first + i) g
      ∙ both_below node first second mark branches e ne))

-- an open weight is at most the total, and so fits
pub open_fits : (tree : SplitTree) (refuted : ℕ → Bool) (node : ℕ) → node < size tree →
    total 0 tree ≤ 2 ^ 60 + 2 ^ 24 →
    open_weight (worth_of tree) refuted node (subtree_at tree node) < 2 ^ 64
open_fits tree refuted node l t =
    let a = open_whole (worth_of tree) refuted node (subtree_at tree node) in
    let b = worth_whole tree node l in
    let c : worth_of tree node ≤ total 0 tree = total_at tree node l in
    omega (arith, a, b)
