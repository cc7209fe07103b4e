-- The rows of a board, and what they say of their nodes.
use Rattle.std.proofs.Common.{◌≡◌, ℕ, ◌+◌, ◌-◌, ◌<◌, ◌≤◌, List, [], get_or, Bool, true, sym, ap}
use Rattle.std.proofs.Common.{◌∙◌, arith, zero-add, add-zero}
use Rattle.case_core.specs.Literal.{Literal}
use Rattle.case_core.specs.Formula.{IsRefuted}
use Rattle.case_core.specs.Case.{CaseOf}
use Rattle.split_tree.specs.SplitTree.{SplitTree, size, subtrees, subtree_at, labels, branch}
use Rattle.split_tree.specs.SplitTree.{path_at, IsSplit}
use Rattle.split_tree.specs.Navigation.{HasBelow}
use Rattle.split_tree.specs.declared.top.Top as split
use Rattle.split_tree.specs.Parts.{top}
use Rattle.split_tree.proofs.NodesCoding.{some_node, subtree-root}
use Rattle.split_tree.proofs.LeavesNodes.{missing_is}
use Rattle.split_tree.proofs.SplitTreeLabels.{inside, label_below}
use Rattle.mark_board.specs.declared.mark.Mark.{Mark}
use Rattle.mark_board.specs.declared.mark.Mark.TheVariants.{Refuted}
use Rattle.mark_board.specs.declared.rows.Answer.{Answer}
use Rattle.mark_board.specs.declared.rows.Rows.{Rows}
use Rattle.mark_board.specs.declared.place.Place.{Place}
use Rattle.mark_board.specs.declared.place.Place.TheVariants.{Part, Top}
use Rattle.mark_board.specs.declared.stored.Region.{Region}
use Rattle.mark_board.specs.declared.stored.Region.TheVariants as region
use Rattle.mark_board.specs.declared.stored.BoardData.{BoardData}
use Rattle.mark_board.specs.Marking.{marked, AreRefuted, refuted_by}
use Rattle.mark_board.specs.TopPlaces.{part_root, part_count, part_place, top_node, IsPlaceOf}
use Rattle.mark_board.specs.Inner.Top.{IsOwnPlace}
use Rattle.mark_board.specs.Rows.{AreRowsKept}
use Rattle.mark_board.specs.Posting.{marks_after}
use Rattle.mark_board.specs.Board.{BoardOf, IsPlace, IsRow, IsRowOn, TakesNode, tree_on, node_on}
use Rattle.mark_board.specs.Board.{board_tree, board_node, worth_on}
use Rattle.mark_board.specs.BoardData.{place_of_region, IsRegion, IsRoot, IsAbove, stored_board}
use Rattle.mark_board.specs.BoardData.{AreSound}
use Rattle.mark_board.specs.BoardData.{IsDataOf}
use Rattle.mark_board.proofs.MarkingLaws.{marked_refuted}
use Rattle.mark_board.proofs.MarkingSound.{refuted_is, after_post}
use Rattle.mark_board.proofs.TopPlacesNodes.{path_of_top, node_within}
use Rattle.mark_board.proofs.TopPlacesParts.{part_within}
use Rattle.mark_board.proofs.TopPlacesApart.{place_once}

-- ---- what is stored of a board, told of the board

-- the board is that of a part with this root
pub record IsPartOn (board : BoardOf) (part root : ℕ) : Type 0 where
  pub place_is : board.place ≡ Part part
  pub is_root : IsRoot board.cut board.case.tree part root

-- the board is a top board with these nodes
pub record IsTopOn (board : BoardOf) (above : split.Top) : Type 0 where
  pub place_is : board.place ≡ Top
  pub is_above : IsAbove board.cut board.case.tree above

region_place : (cut : ℕ) (tree : SplitTree) (r : Region) → IsRegion cut tree r →
    IsPlace cut tree (place_of_region r)
region_place cut tree (region.Part part root) is = is.within
region_place cut tree (region.Top above) is = tt

module _ (board : BoardOf) (case : CaseOf) (stored : BoardData)
    (e : stored_board case stored ≡ board) (holds : IsDataOf case stored) where
  pub on_part : (part root : ℕ) → stored.region ≡ region.Part part root →
      IsPartOn board part root
  on_part part root is = rw (← e)
      (record { place_is = ap place_of_region is; is_root = rw is at holds.is_region })

  pub on_top : (above : split.Top) → stored.region ≡ region.Top above → IsTopOn board above
  on_top above is = rw (← e)
      (record { place_is = ap place_of_region is; is_above = rw is at holds.is_region })

  pub is_place : IsPlace board.cut board.case.tree board.place
  is_place = rw (← e) (region_place stored.cut case.tree stored.region holds.is_region)

  pub kept_on : AreRowsKept (tree_on board) (worth_on board) board.marks stored.rows.weights.items
  kept_on = rw (← e) holds.kept

  pub sound_on : AreSound board
  sound_on = rw (← e) holds.sound

-- ---- the board of a part

-- its tree
pub part_tree : (board : BoardOf) (part root : ℕ) → IsPartOn board part root →
    subtree_at board.case.tree root ≡ tree_on board
part_tree board part root on =
    rw on.place_is (ap (subtree_at board.case.tree) on.is_root.placed)

-- the part's root is a node of the tree
pub part_inside : (board : BoardOf) (part root : ℕ) → IsPartOn board part root →
    root < size board.case.tree
part_inside board part root on =
    rw on.is_root.placed (part_within board.cut board.case.tree part on.is_root.within)

-- a node of a part's board stands under the part's root
pub part_below : (board : BoardOf) (part root node row : ℕ) → IsPartOn board part root →
    IsRowOn board node row → HasBelow board.case.tree root node
part_below board part root node row on at =
    let there = rw on.place_is at at in
    let within : row < size (subtree_at board.case.tree root) =
    rw on.is_root.placed there.within in
    record {
      reached = omega (arith, there.here, on.is_root.placed);
      before_end = omega (arith, there.here, on.is_root.placed, within);
    }

-- a part's board takes each node from the part's root on
pub part_takes : (board : BoardOf) (part root node : ℕ) → IsPartOn board part root →
    HasBelow board.case.tree root node → TakesNode board node
part_takes board part root node on below =
    let reached = below.reached in
    let within : node - root < size (subtree_at board.case.tree root) =
    omega (arith, reached, below.before_end) in
    let here : root + (node - root) ≡ node = omega (arith, reached) in
    rw on.place_is (
      node - root,
      record {
        is_row = record {
          within = rw (← on.is_root.placed) within;
          here = rw (← on.is_root.placed) here;
        };
        has_targets = tt;
      },
    )

-- ---- the top board

-- its tree
pub top_tree : (board : BoardOf) (above : split.Top) → IsTopOn board above →
    subtree_at above.tree 0 ≡ tree_on board
top_tree board above on = rw on.place_is (subtree-root above.tree ∙ on.is_above.is_top)

-- a node lies where it stands
pub lies_there : (cut : ℕ) (tree : SplitTree) (node place : ℕ) → place < size (top cut tree) →
    top_node cut tree place ≡ node → IsPlaceOf cut tree node place
lies_there cut tree node place l h =
    let s : 1 ≤ size (subtree_at tree (top_node cut tree place)) =
    some_node (subtree_at tree (top_node cut tree place)) in record {
      within = l;
      below = record { reached = omega arith; before_end = omega arith };
      own = λ is. h;
    }

-- an inner node above the cut has its own place
pub own_place : (cut : ℕ) (tree : SplitTree) (node place : ℕ) → IsOwnPlace cut tree node place →
    IsPlaceOf cut tree node place
own_place cut tree node place o = lies_there cut tree node place o.within o.here

-- an inner node above the cut isn't a part
pub part_not_own : (cut : ℕ) (tree : SplitTree) (part place : ℕ) → part < part_count cut tree →
    part_place cut tree part ≡ place →
    IsSplit (subtree_at (top cut tree) place) → ⊥
part_not_own cut tree part place l e s =
    let r = missing_is 0 (subtrees (top cut tree)) part l in
    let q : place ≡ r.0 = sym e ∙ (r.2 ∙ zero-add r.0) in
    let k : IsSplit (subtree_at (top cut tree) r.0) = rw q at s in
    rw r.3 at k

-- the place that was found for a node is its row
pub top_row : (board : BoardOf) (above : split.Top) (node row place : ℕ) → IsTopOn board above →
    IsRowOn board node row → IsPlaceOf board.cut board.case.tree node place → place ≡ row
top_row board above node row place on at is =
    let there = rw on.place_is at at in
    place_once board.cut board.case.tree node place row is
    (lies_there board.cut board.case.tree node row there.within there.here)

-- ---- on either board

-- a node has one row
pub row_once : (cut : ℕ) (tree : SplitTree) (place : Place) (node row other : ℕ) →
    IsRow cut tree place node row → IsRow cut tree place node other → row ≡ other
row_once cut tree (Part part) node row other at also = omega (arith, at.here, also.here)
row_once cut tree Top node row other at also =
    place_once cut tree node row other (lies_there cut tree node row at.within at.here)
    (lies_there cut tree node other also.within also.here)

-- a row's node is one of the tree
pub row_inside : (cut : ℕ) (tree : SplitTree) (place : Place) (node row : ℕ) →
    IsPlace cut tree place → IsRow cut tree place node row → node < size tree
row_inside cut tree (Part part) node row is at =
    let within = inside tree (part_root cut tree part) (part_within cut tree part is) in
    omega (arith, at.within, at.here, within)
row_inside cut tree Top node row is at = rw at.here at (node_within tree cut row at.within)

-- ---- what is marked has no model

-- the path of a board's root
abbrev board_path : ℕ → SplitTree → Place → List Literal
board_path cut tree (Part part) = path_at tree (part_root cut tree part)
board_path cut tree Top = []

-- the path of a row's node
row_path : (cut : ℕ) (tree : SplitTree) (place : Place) (row : ℕ) → IsPlace cut tree place →
    row < size (board_tree cut tree place) →
    get_or (labels branch (board_path cut tree place) (board_tree cut tree place)) row []
    ≡ path_at tree (board_node cut tree place row)
row_path cut tree (Part part) row is within =
    sym (label_below branch [] [] tree (part_root cut tree part) row
    (part_within cut tree part is) within)
row_path cut tree Top row is within = path_of_top tree cut row within

sound_below : (formula : List (List Literal)) (refuted : ℕ → Bool) (path : List Literal)
    (t : SplitTree) (row : ℕ) → AreRefuted formula refuted path 0 t →
    row < size t →
    AreRefuted formula refuted (get_or (labels branch path t) row []) row (subtree_at t row)
sound_below formula refuted path t row s h r l k =
    let i : row + size (subtree_at t row) ≤ size t = inside t row h in
    rw (label_below branch [] path t row r h l) at
    (s (row + r) (omega arith) (rw (zero-add (row + r)) k))

-- a marked row's node has no model with its path
pub marked_sound : (board : BoardOf) (row : ℕ) → IsPlace board.cut board.case.tree board.place →
    AreSound board → row < size (tree_on board) →
    marked (refuted_by board.marks) row (subtree_at (tree_on board) row) ≡ true →
    IsRefuted board.case.formula (path_at board.case.tree (node_on board row))
marked_sound board row is sound within m =
    let tree = board.case.tree in
    let path = board_path board.cut tree board.place in
    let whole : AreRefuted board.case.formula (refuted_by board.marks) path 0 (tree_on board) =
    λ r l k. rw (row_path board.cut tree board.place r is l)
    (sound r l (refuted_is _ (rw (zero-add r) at k))) in
    rw (row_path board.cut tree board.place row is within) at
    (marked_refuted board.case.formula (refuted_by board.marks)
    (get_or (labels branch path (tree_on board)) row []) row (subtree_at (tree_on board) row)
    (sound_below board.case.formula (refuted_by board.marks) path (tree_on board) row whole within)
    m)

-- what a stored board marks has no model together with the formula
pub stored_sound : (case : CaseOf) (stored : BoardData) (row : ℕ) → IsDataOf case stored →
    row < size (tree_on (stored_board case stored)) →
    marked (refuted_by (stored_board case stored).marks) row
    (subtree_at (tree_on (stored_board case stored)) row) ≡ true →
    IsRefuted case.formula (path_at case.tree (node_on (stored_board case stored) row))
stored_sound case stored row holds within m =
    marked_sound (stored_board case stored) row
    (region_place stored.cut case.tree stored.region holds.is_region) holds.sound within m

module _ (board : BoardOf) (case : CaseOf) (stored : BoardData)
    (e : stored_board case stored ≡ board) (holds : IsDataOf case stored) where
  -- a part whose root is marked has no model
  pub part_refuted : (part root : ℕ) → stored.region ≡ region.Part part root →
      marked (refuted_by board.marks) 0 (tree_on board) ≡ true →
      IsRefuted case.formula (path_at case.tree (part_root stored.cut case.tree part))
  part_refuted part root is m =
      let tree = tree_on (stored_board case stored) in
      let at_root : IsRefuted case.formula
      (path_at case.tree (board_node stored.cut case.tree (place_of_region stored.region) 0)) =
      stored_sound case stored 0 holds (omega (arith, some_node tree))
      (rw (subtree-root tree) (rw (← e) at m)) in
      let in_part : IsRefuted case.formula
      (path_at case.tree (part_root stored.cut case.tree part + 0)) = rw is at at_root in
      rw (add-zero (part_root stored.cut case.tree part)) at in_part

  -- what is stored after a post that is sound
  pub data_after : (region : Region) (rows : Rows) (row : ℕ) (mark : Mark) (answer : Answer)
      (tree : SplitTree) → stored.region ≡ region → tree ≡ tree_on board →
      rows.marks.items ≡ marks_after answer stored.rows.marks.items row mark →
      ((worth : ℕ → ℕ) → AreRowsKept tree worth stored.rows.marks.items stored.rows.weights.items →
      AreRowsKept tree worth rows.marks.items rows.weights.items) →
      (mark ≡ Refuted → IsRefuted board.case.formula
      (path_at board.case.tree (node_on board row))) →
      IsDataOf case (record { cut = stored.cut; region = region; rows = rows })
  data_after region rows row mark answer tree is same marks kept means =
      let before = stored_board case stored in
      let keeps : (worth : ℕ → ℕ) →
      AreRowsKept (tree_on before) worth stored.rows.marks.items stored.rows.weights.items →
      AreRowsKept (tree_on before) worth rows.marks.items rows.weights.items =
      rw (same, ← e) at kept in
      rw (← is) (record {
        is_region = holds.is_region;
        kept = keeps _ holds.kept;
        sound = rw marks (after_post (λ r. IsRefuted case.formula
            (path_at case.tree (node_on before r))) (size (tree_on before))
            stored.rows.marks.items row mark answer (rw (← e) at means) holds.sound);
      })
