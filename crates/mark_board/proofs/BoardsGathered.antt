-- The top board and the parts' boards as one list of marks, and what a post on one of them changes.
use Rattle.std.proofs.Common.{◌≡◌, ℕ, zero, suc, ◌+◌, ◌-◌, ◌<◌, ◌≤◌, List, [], ◌∷◌, length}
use Rattle.std.proofs.Common.{length-set, map, get_or, set, replicate, Bool, true, false, refl, sym}
use Rattle.std.proofs.Common.{ap, subst, ◌∙◌, arith, inl, inr, add-zero, zero-add, get_or-set_other}
use Rattle.std.proofs.Common.{get_or-set_same}
use Rattle.std.proofs.lemmas.Bool.{cases_eq}
use Rattle.std.proofs.lemmas.List.{get_or-map, length-map, length-replicate, map-set}
use Rattle.split_tree.specs.SplitTree.{SplitTree, missing, cube, split, size, subtrees, subtree_at}
use Rattle.split_tree.specs.SplitTree.{path_at, branch, IsSplit}
use Rattle.split_tree.specs.Leaves.{missing_nodes, IsTargetAt}
use Rattle.split_tree.specs.declared.node.Target.{Target}
use Rattle.split_tree.specs.declared.node.Target.TheVariants.{Leaf as Named, Node as Inner}
use Rattle.split_tree.specs.declared.node.Leaf.TheVariants.{Cube as CubeLeaf}
use Rattle.split_tree.specs.declared.node.Leaf.TheVariants.{Missing as MissingLeaf}
use Rattle.split_tree.specs.Parts.{part_nodes, top}
use Rattle.split_tree.proofs.SplitTreeLabels.{label-root}
use Rattle.mark_board.proofs.TopPlacesParts.{parts_on_top}
use Rattle.split_tree.proofs.NodesCoding.{subtree-root, some_node, length-subtrees}
use Rattle.split_tree.proofs.LeavesNodes.{missing_found, missing_is}
use Rattle.case_core.specs.Case.{CaseOf}
use Rattle.mark_board.specs.declared.mark.Mark.{Mark}
use Rattle.mark_board.specs.declared.mark.Mark.TheVariants.{Open, Refuted}
use Rattle.mark_board.specs.declared.place.Place.{Place}
use Rattle.mark_board.specs.declared.place.Place.TheVariants.{Part, Top}
use Rattle.mark_board.specs.Marking.{marked, open_weight, is_refuted, mark_at, refuted_by}
use Rattle.mark_board.specs.TopPlaces.{top_node, part_count, part_place, part_root, worth_of}
use Rattle.mark_board.specs.TopPlaces.{IsPlaceOf}
use Rattle.mark_board.specs.Board.{BoardOf, IsRowOn, tree_on, IsRow}
use Rattle.mark_board.specs.Boards.{part_tree, part_marks, part_mark, marks_of, boards_of}
use Rattle.mark_board.specs.Boards.{AreBoards, IsBoardAt, IsPlaceFor}
use Rattle.mark_board.specs.Inner.Boards.{AreNewParts}
use Rattle.mark_board.proofs.TopPlacesNodes.{no_cube_above, top_first}
use Rattle.mark_board.proofs.BoardsMarks.{LeafIsPart, marks_in_part, marks_on_top, marks_of_part}
use Rattle.mark_board.proofs.BoardsMarks.{posted_on_top, posted_in_part, posted_of_part, posted_at}
use Rattle.mark_board.proofs.BoardsMarks.{agreed_below, marked_in_part, open_in_part, new_marks}
use Rattle.mark_board.proofs.BoardsMarks.{new_posted, AreMarks}
use Rattle.mark_board.proofs.BoardsTogether.{AreLong, joined_is, marks_are_joined}

-- a board by its parts
pub board_is : (a : BoardOf) (case : CaseOf) (cut : ℕ) (place : Place) (marks : List Mark) →
    a.case ≡ case → a.cut ≡ cut → a.place ≡ place → a.marks ≡ marks →
    a ≡ record { case = case; cut = cut; place = place; marks = marks }
board_is a case cut place marks e f g h = rw (← e, ← f, ← g, ← h) refl

-- this board with other marks
abbrev pub with_marks : BoardOf → List Mark → BoardOf
with_marks board marks =
    record { case = board.case; cut = board.cut; place = board.place; marks = marks }

-- an item that is there doesn't depend on what stands for one that isn't
no_default : (xs : List BoardOf) (i : ℕ) (a b : BoardOf) → i < length xs →
    get_or xs i a ≡ get_or xs i b
no_default [] i a b l = absurd (omega arith)
no_default (x ∷ xs) zero a b l = refl
no_default (x ∷ xs) (suc i) a b l = no_default xs i a b (omega arith)

-- a leaf of the top board is a part
part_at_leaf : (cut : ℕ) (tree : SplitTree) (i : ℕ) → i < size (top cut tree) →
    subtree_at (top cut tree) i ≡ missing → LeafIsPart cut tree i
part_at_leaf cut tree i l e =
    let f = missing_found 0 (subtrees (top cut tree)) i (rw (length-subtrees (top cut tree)) l) e in
    record { part = f.0; within = f.1; here = f.2 ∙ zero-add i }

pub all_long_of : (above : BoardOf) (parts : List BoardOf) → AreBoards above parts →
    AreLong above.cut above.case.tree (map marks_of parts)
all_long_of above parts h k l =
    ap length (get_or-map marks_of parts k above [] (omega (arith, h.count))) ∙ (h.at_part k l).long

module _ (above : BoardOf) (parts : List BoardOf) (h : AreBoards above parts) where
  -- the marks listed for a part are those of the part's board
  pub listed : (k : ℕ) → k < part_count above.cut above.case.tree →
      part_marks (map marks_of parts) k ≡ (get_or parts k above).marks
  listed k l = get_or-map marks_of parts k above [] (omega (arith, h.count))

  pub all_long : AreLong above.cut above.case.tree (map marks_of parts)
  all_long = all_long_of above parts h

  -- the joined marks of the boards are the marks of the tree's nodes
  pub all_marks : AreMarks above.cut above.case.tree above.marks (map marks_of parts)
      (boards_of above parts).marks
  all_marks = joined_is above.cut above.case.tree above.marks (map marks_of parts) all_long

  pub listed_count : length (map marks_of parts) ≡ part_count above.cut above.case.tree
  listed_count = length-map parts marks_of ∙ h.count

  -- ---- what is read of a node

  -- the mark of a row of a part's board is that of its node in the whole tree
  pub read_in_part : (k node row : ℕ) → k < part_count above.cut above.case.tree →
      IsRow above.cut above.case.tree (Part k) node row →
      mark_at (get_or parts k above).marks row ≡ mark_at (boards_of above parts).marks node
  read_in_part k node row l at =
      ap (λ (xs : List Mark). mark_at xs row) (sym (listed k l))
      ∙ (all_marks.in_part k row l at.within ∙ ap (mark_at (boards_of above parts).marks) at.here)

  -- the mark of an inner node's row of the top board is that of its node in the whole tree
  pub read_on_top : (node row : ℕ) → IsRow above.cut above.case.tree Top node row →
      IsSplit (subtree_at (top above.cut above.case.tree) row) →
      mark_at above.marks row ≡ mark_at (boards_of above parts).marks node
  read_on_top node row at s =
      all_marks.own row at.within s ∙ ap (mark_at (boards_of above parts).marks) at.here

  -- the open weight at a row of a part's board is that of its node by the marks of all boards
  pub open_part_below : (k node row : ℕ) → k < part_count above.cut above.case.tree →
      IsRow above.cut above.case.tree (Part k) node row →
      open_weight (λ q. worth_of above.case.tree (part_root above.cut above.case.tree k + q))
      (refuted_by (get_or parts k above).marks) row
      (subtree_at (part_tree above.cut above.case.tree k) row)
      ≡ open_weight (worth_of above.case.tree) (refuted_by (boards_of above parts).marks) node
      (subtree_at above.case.tree node)
  open_part_below k node row l at =
      ap (λ (xs : List Mark).
      open_weight (λ q. worth_of above.case.tree (part_root above.cut above.case.tree k + q))
      (refuted_by xs) row (subtree_at (part_tree above.cut above.case.tree k) row))
      (sym (listed k l))
      ∙ (open_in_part above.cut above.case.tree above.marks (map marks_of parts)
      (boards_of above parts).marks (worth_of above.case.tree) all_marks k row l at.within
      ∙ ap (λ (i : ℕ).
      open_weight (worth_of above.case.tree) (refuted_by (boards_of above parts).marks) i
      (subtree_at above.case.tree i)) at.here)

  -- ---- the top board and the root

  is_of_mark : (b : Bool) → is_refuted (part_mark b) ≡ b
  is_of_mark true = refl
  is_of_mark false = refl

  top_says : (i : ℕ) → i < size (top above.cut above.case.tree) → (t : SplitTree) →
      subtree_at (top above.cut above.case.tree) i ≡ t →
      refuted_by above.marks i
      ≡ posted_at (refuted_by (boards_of above parts).marks) above.case.tree t
      (top_node above.cut above.case.tree i)
  top_says i l missing e =
      let p = part_at_leaf above.cut above.case.tree i l e in
      let m = p.within in
      let some : 0 < size (part_tree above.cut above.case.tree p.part) =
      omega (arith, some_node (part_tree above.cut above.case.tree p.part)) in
      let here : mark_at above.marks i
      ≡ part_mark (marked (refuted_by (part_marks (map marks_of parts) p.part)) 0
      (part_tree above.cut above.case.tree p.part)) =
      ap (mark_at above.marks) (sym p.here) ∙ h.posted p.part m in
      let below_it =
      marked_in_part above.cut above.case.tree above.marks (map marks_of parts)
      (boards_of above parts).marks all_marks p.part 0 m some in
      let root : part_root above.cut above.case.tree p.part + 0
      ≡ top_node above.cut above.case.tree i =
      add-zero (part_root above.cut above.case.tree p.part)
      ∙ ap (top_node above.cut above.case.tree) p.here in
      ap is_refuted here
      ∙ (is_of_mark
      (marked (refuted_by (part_marks (map marks_of parts) p.part)) 0
      (part_tree above.cut above.case.tree p.part))
      ∙ (ap (marked (refuted_by (part_marks (map marks_of parts) p.part)) 0)
      (sym (subtree-root (part_tree above.cut above.case.tree p.part)))
      ∙ (below_it
      ∙ ap (λ (x : ℕ).
      marked (refuted_by (boards_of above parts).marks) x (subtree_at above.case.tree x)) root)))
  top_says i l (cube k) e = absurd (no_cube_above above.case.tree above.cut i k l e)
  top_says i l (split v p n) e = ap is_refuted (all_marks.own i l (rw e tt))

  pub root_agrees : marked (refuted_by above.marks) 0 (top above.cut above.case.tree)
      ≡ marked (refuted_by (boards_of above parts).marks) 0 above.case.tree
  root_agrees =
      agreed_below above.case.tree (refuted_by (boards_of above parts).marks)
      (refuted_by above.marks) 0 above.cut 0 above.case.tree
      (omega (arith, some_node above.case.tree)) (subtree-root above.case.tree)
      (λ i l. ap (refuted_by above.marks) (zero-add i)
      ∙ top_says i l (subtree_at (top above.cut above.case.tree) i) refl)

  -- ---- after a post

  set_list : (k : ℕ) (nb : BoardOf) →
      map marks_of (set parts k nb) ≡ set (map marks_of parts) k nb.marks
  set_list k nb = map-set marks_of parts k nb

  other_at : (k : ℕ) (nb : BoardOf) → k < part_count above.cut above.case.tree →
      IsBoardAt above.case above.cut (Part k) nb → (j : ℕ) →
      j < part_count above.cut above.case.tree →
      IsBoardAt above.case above.cut (Part j) (get_or (set parts k nb) j above)
  other_at k nb l new j m = elim (cases_eq j k) [
    | inl e ↦ rw (e, get_or-set_same parts k nb above (omega (arith, h.count))) new
    | inr ne ↦ rw (get_or-set_other parts k j nb above ne) (h.at_part j m)
  ]

  -- on a part, whose root wasn't marked by it
  pub part_boards : (k : ℕ) (nb : BoardOf) → k < part_count above.cut above.case.tree →
      IsBoardAt above.case above.cut (Part k) nb →
      marked (refuted_by nb.marks) 0 (part_tree above.cut above.case.tree k)
      ≡ marked (refuted_by (get_or parts k above).marks) 0 (part_tree above.cut above.case.tree k) →
      AreBoards above (set parts k nb)
  part_boards k nb l new same = record {
    low = h.low;
    at_top = h.at_top;
    count = length-set parts k nb ∙ h.count;
    at_part = other_at k nb l new;
    posted =
        rw (set_list k nb)
        (posted_in_part above.cut above.case.tree above.marks (map marks_of parts) k nb.marks
        h.posted listed_count l
        (same
        ∙ ap (λ (xs : List Mark). marked (refuted_by xs) 0 (part_tree above.cut above.case.tree k))
        (sym (listed k l))));
  }

  -- on a part, whose root was marked by it, so that the part was posted on the top board
  pub root_boards : (k : ℕ) (nb : BoardOf) → k < part_count above.cut above.case.tree →
      IsBoardAt above.case above.cut (Part k) nb →
      marked (refuted_by nb.marks) 0 (part_tree above.cut above.case.tree k) ≡ true →
      AreBoards (with_marks above
      (set above.marks (part_place above.cut above.case.tree k) Refuted)) (set parts k nb)
  root_boards k nb l new is = record {
    low = h.low;
    at_top =
        record {
          case_is = refl;
          cut_is = refl;
          place_is = h.at_top.place_is;
          long =
              length-set above.marks (part_place above.cut above.case.tree k) Refuted
              ∙ h.at_top.long;
        };
    count = length-set parts k nb ∙ h.count;
    at_part = λ j m. subst (IsBoardAt above.case above.cut (Part j))
        (no_default (set parts k nb) j above
        (with_marks above (set above.marks (part_place above.cut above.case.tree k) Refuted))
        (omega (arith, length-set parts k nb, h.count))) (other_at k nb l new j m);
    posted =
        rw (set_list k nb)
        (posted_of_part above.cut above.case.tree above.marks (map marks_of parts) k nb.marks
        h.posted listed_count h.at_top.long l is);
  }

  -- on the top board, of an inner node above the cut
  pub top_boards : (row : ℕ) (mark : Mark) →
      IsSplit (subtree_at (top above.cut above.case.tree) row) →
      AreBoards (with_marks above (set above.marks row mark)) parts
  top_boards row mark s = record {
    low = h.low;
    at_top =
        record {
          case_is = refl;
          cut_is = refl;
          place_is = h.at_top.place_is;
          long = length-set above.marks row mark ∙ h.at_top.long;
        };
    count = h.count;
    at_part = λ j m. subst (IsBoardAt above.case above.cut (Part j))
        (no_default parts j above (with_marks above (set above.marks row mark))
        (omega (arith, h.count))) (h.at_part j m);
    posted =
        posted_on_top above.cut above.case.tree above.marks (map marks_of parts) row mark h.posted
        s;
  }

  -- ---- all marks after a post

  -- a mark set on a part's board is set at the row's node of the whole tree
  pub part_marks_after : (k node row : ℕ) (mark : Mark) (nb : BoardOf) →
      k < part_count above.cut above.case.tree → IsRow above.cut above.case.tree (Part k) node row →
      nb.marks ≡ set (get_or parts k above).marks row mark → AreBoards above (set parts k nb) →
      (boards_of above (set parts k nb)).marks ≡ set (boards_of above parts).marks node mark
  part_marks_after k node row mark nb l at e new =
      marks_are_joined above.cut above.case.tree above.marks (map marks_of (set parts k nb))
      (set (boards_of above parts).marks node mark)
      (all_long_of above (set parts k nb) new)
      (rw (set_list k nb, e, ← listed k l, ← at.here)
      (marks_in_part above.cut above.case.tree above.marks (map marks_of parts)
      (boards_of above parts).marks k row mark
      all_marks listed_count (all_long k l) l at.within))

  -- and so it is where the part is marked on the top board at once
  pub root_marks_after : (k node row : ℕ) (mark : Mark) (nb : BoardOf) →
      k < part_count above.cut above.case.tree → IsRow above.cut above.case.tree (Part k) node row →
      nb.marks ≡ set (get_or parts k above).marks row mark →
      AreBoards (with_marks above
      (set above.marks (part_place above.cut above.case.tree k) Refuted)) (set parts k nb) →
      (boards_of (with_marks above
      (set above.marks (part_place above.cut above.case.tree k) Refuted)) (set parts k nb)).marks
      ≡ set (boards_of above parts).marks node mark
  root_marks_after k node row mark nb l at e new =
      marks_are_joined above.cut above.case.tree
      (set above.marks (part_place above.cut above.case.tree k) Refuted)
      (map marks_of (set parts k nb)) (set (boards_of above parts).marks node mark)
      (all_long_of
      (with_marks above (set above.marks (part_place above.cut above.case.tree k) Refuted))
      (set parts k nb) new)
      (marks_of_part above.cut above.case.tree above.marks (map marks_of (set parts k nb))
      (set (boards_of above parts).marks node mark) k Refuted
      (rw (set_list k nb, e, ← listed k l, ← at.here)
      (marks_in_part above.cut above.case.tree above.marks (map marks_of parts)
      (boards_of above parts).marks k row mark
      all_marks listed_count (all_long k l) l at.within)) l)

  -- a mark set at an inner node of the top board is set at its node of the whole tree
  pub top_marks_after : (node row : ℕ) (mark : Mark) →
      IsRow above.cut above.case.tree Top node row →
      IsSplit (subtree_at (top above.cut above.case.tree) row) →
      (boards_of (with_marks above (set above.marks row mark)) parts).marks
      ≡ set (boards_of above parts).marks node mark
  top_marks_after node row mark at s =
      marks_are_joined above.cut above.case.tree (set above.marks row mark) (map marks_of parts)
      (set (boards_of above parts).marks node mark) all_long
      (rw (← at.here)
      (marks_on_top above.cut above.case.tree above.marks (map marks_of parts)
      (boards_of above parts).marks row mark all_marks h.at_top.long at.within s))

-- ---- with nothing marked

pub new_boards : (above : BoardOf) (parts : List BoardOf) → above.cut ≤ 6 → above.place ≡ Top →
    above.marks ≡ replicate (size (top above.cut above.case.tree)) Open →
    length parts ≡ part_count above.cut above.case.tree →
    ((k : ℕ) → k < part_count above.cut above.case.tree →
    ((get_or parts k above).case ≡ above.case) × ((get_or parts k above).cut ≡ above.cut)
    × ((get_or parts k above).place ≡ Part k)
    × ((get_or parts k above).marks
    ≡ replicate (size (part_tree above.cut above.case.tree k)) Open)) →
    AreBoards above parts × ((boards_of above parts).marks ≡ replicate (size above.case.tree) Open)
new_boards above parts low place marks count each =
    let open_parts : (k : ℕ) → k < part_count above.cut above.case.tree →
    part_marks (map marks_of parts) k
    ≡ replicate (size (part_tree above.cut above.case.tree k)) Open =
    (λ k l. get_or-map marks_of parts k above [] (omega (arith, count)) ∙ (each k l).3) in
    let b : AreBoards above parts = record {
      low = low;
      at_top =
          record {
            case_is = refl;
            cut_is = refl;
            place_is = place;
            long = rw marks (length-replicate (size (top above.cut above.case.tree)) Open);
          };
      count = count;
      at_part = λ k l. record {
        case_is = (each k l).0;
        cut_is = (each k l).1;
        place_is = (each k l).2;
        long =
            ap length (each k l).3
            ∙ length-replicate (size (part_tree above.cut above.case.tree k)) Open;
      };
      posted =
          new_posted above.cut above.case.tree above.marks (map marks_of parts) marks open_parts;
    } in (
      b,
      marks_are_joined above.cut above.case.tree above.marks (map marks_of parts)
          (replicate (size above.case.tree) Open) (all_long_of above parts b)
          (new_marks above.cut above.case.tree above.marks (map marks_of parts) marks open_parts),
    )

-- ---- the board of a node

-- a node with a part's place has its row on the part's board
pub place_in_part : (cut : ℕ) (tree : SplitTree) (node place part : ℕ) →
    IsPlaceOf cut tree node place → part < part_count cut tree →
    part_place cut tree part ≡ place → IsPlaceFor cut tree node (Part part)
place_in_part cut tree node place part p l e =
    let root : part_root cut tree part ≡ top_node cut tree place = ap (top_node cut tree) e in
    let reached : top_node cut tree place ≤ node = p.below.reached in
    let ends : node < top_node cut tree place + size (subtree_at tree (top_node cut tree place)) =
    p.below.before_end in
    record {
      row = node - top_node cut tree place;
      is_place = l;
      is_row = record { within = rw root (omega arith); here = omega (arith, root) };
      has_targets = tt;
    }

-- ---- what the calls of one board say of all

-- a part that is listed is one of the cut's
pub parts_listed : (cut : ℕ) (tree : SplitTree) (nodes : List ℕ) → nodes ≡ part_nodes cut 0 tree →
    length nodes ≡ part_count cut tree
parts_listed cut tree nodes e =
    ap length (e ∙ parts_on_top cut tree)
    ∙ length-map (missing_nodes (top cut tree)) (top_node cut tree)

-- as many parts are listed as there are
pub part_listed : (cut : ℕ) (tree : SplitTree) (nodes : List ℕ) → nodes ≡ part_nodes cut 0 tree →
    (k : ℕ) → k < length nodes → k < part_count cut tree
part_listed cut tree nodes e k l =
    let c : length nodes ≡ part_count cut tree =
    ap length (e ∙ parts_on_top cut tree)
    ∙ length-map (missing_nodes (top cut tree)) (top_node cut tree) in
    omega (arith, c)

module _ (above : BoardOf) (parts : List BoardOf) (h : AreBoards above parts) where
  -- the mark that the top board has of an own node is that of all boards
  pub mark_on_top : (node : ℕ) (mark : Mark) → IsPlaceFor above.cut above.case.tree node Top →
      ((row : ℕ) → IsRowOn above node row → mark ≡ mark_at above.marks row) →
      mark ≡ mark_at (boards_of above parts).marks node
  mark_on_top node mark p is =
      is p.row (rw h.at_top.place_is p.is_row)
      ∙ read_on_top above parts h node p.row p.is_row p.has_targets

  -- the item at a part's number is the part's board, whatever stands for one that isn't there
  pub part_is_there : (k : ℕ) (board : BoardOf) → k < part_count above.cut above.case.tree →
      board ≡ get_or parts k board → board ≡ get_or parts k above
  part_is_there k board l e = e ∙ no_default parts k board above (omega (arith, h.count))

  -- a row of a part by the top board's case and cut is one of the part's own board
  pub part_row_on : (k node row : ℕ) (board : BoardOf) → k < part_count above.cut above.case.tree →
      board ≡ get_or parts k board →
      IsRow above.cut above.case.tree (Part k) node row → IsRowOn board node row
  part_row_on k node row board l e at =
      let b = h.at_part k l in
      rw (part_is_there k board l e, b.case_is, b.cut_is, b.place_is) at

  -- the mark that a part's board has is that of all boards
  pub mark_in_part : (k node : ℕ) (board : BoardOf) (mark : Mark) →
      IsPlaceFor above.cut above.case.tree node (Part k) → board ≡ get_or parts k board →
      ((row : ℕ) → IsRowOn board node row → mark ≡ mark_at board.marks row) →
      mark ≡ mark_at (boards_of above parts).marks node
  mark_in_part k node board mark p e is =
      let same : board ≡ get_or parts k above = part_is_there k board p.is_place e in
      is p.row (part_row_on k node p.row board p.is_place e p.is_row)
      ∙ (ap (λ (x : BoardOf). mark_at x.marks p.row) same
      ∙ read_in_part above parts h k node p.row p.is_place p.is_row)

  -- the top board's root is marked exactly where the tree's root is
  pub root_on_top : (node : ℕ) (is_marked : Bool) → node ≡ 0 →
      ((row : ℕ) → IsRowOn above node row →
      is_marked ≡ marked (refuted_by above.marks) row (subtree_at (tree_on above) row)) →
      is_marked ≡ marked (refuted_by (boards_of above parts).marks) 0 above.case.tree
  root_on_top node is_marked e is =
      let at : IsRow above.cut above.case.tree Top node 0 =
      record {
        within = omega (arith, some_node (top above.cut above.case.tree));
        here = top_first above.cut 0 above.case.tree ∙ sym e;
      } in
      let t : tree_on above ≡ top above.cut above.case.tree = rw h.at_top.place_is refl in
      is 0 (rw h.at_top.place_is at)
      ∙ (ap (marked (refuted_by above.marks) 0) (subtree-root (tree_on above) ∙ t)
      ∙ root_agrees above parts h)

-- the path of the root is empty
pub root_path : (tree : SplitTree) → path_at tree 0 ≡ []
root_path tree = label-root branch [] [] tree

-- ---- making the parts' boards

-- new boards of all places are boards together
pub boards_new : (above : BoardOf) (parts : List BoardOf) (case : CaseOf) (cut : ℕ) → cut ≤ 6 →
    above.case ≡ case → above.cut ≡ cut → above.place ≡ Top →
    above.marks ≡ replicate (size (top cut case.tree)) Open →
    AreNewParts case cut parts (part_count cut case.tree) →
    AreBoards above parts × ((boards_of above parts).marks ≡ replicate (size case.tree) Open)
boards_new above parts case cut low c d place marks h =
    let r = (new_boards above parts (rw d low) place (rw (c, d) marks) (rw (c, d) h.long)
    (λ k l. let n = h.each above k (rw (c, d) at l) in (
      n.case_is ∙ sym c,
      n.cut_is ∙ sym d,
      n.place_is,
      n.none
          ∙ (ap (λ (x : CaseOf). replicate (size (part_tree cut x.tree k)) Open) (sym c)
          ∙ ap (λ (x : ℕ). replicate (size (part_tree x above.case.tree k)) Open) (sym d)),
    ))) in (r.0, r.1 ∙ ap (λ (x : CaseOf). replicate (size x.tree) Open) c)

-- a target stands at a node of the tree
pub target_inside : (tree : SplitTree) (node : ℕ) (target : Target) → IsTargetAt tree node target →
    node < size tree
target_inside tree node (Named (CubeLeaf k)) at = at.0
target_inside tree node (Named (MissingLeaf j)) at =
    let m = missing_is 0 (subtrees tree) (j - 1) (omega (arith, at.0, at.1)) in
    rw (← length-subtrees tree) (omega (arith, at.2, m.1, m.2))
target_inside tree node (Inner inner) at = at.1
