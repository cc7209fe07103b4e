-- On which board the findings of a node are posted.
use Rattle.std.proofs.Common.{◌≡◌, ◌+◌, ◌-◌, ◌<◌, ◌≤◌, ℕ, sym, ap, ◌∙◌, subst, arith, eq-eqb}
use Rattle.std.proofs.Common.{ne_eqb}
use mathlib.Core.Logic.{dite}
use native.Mathlib.Decide.{ℕ_discrete}
use Rattle.split_tree.specs.SplitTree.{size, subtree_at}
use Rattle.mark_board.specs.declared.place.Place.{Place}
use Rattle.mark_board.specs.declared.place.Place.TheVariants.{Part, Top}
use Rattle.mark_board.specs.Board.{IsPlace, IsRow, HasTargets}
use Rattle.mark_board.specs.Boards.{part_tree}
use Rattle.mark_board.specs.TopPlaces.{part_root}
use Rattle.mark_board.proofs.BoardsTogether.{WhereIs, is_own, is_in, where_is}
use Rattle.board_hall.specs.declared.view.CutCase.{CutCase}
use Rattle.board_hall.specs.Posts.{parts_in, board_count, place_if, place_of}
use Rattle.board_hall.specs.Clauses.{IsHome, board_number}

-- the node doesn't lie in the part
abbrev pub NotIn : CutCase → ℕ → ℕ → Type 0
NotIn k node part =
    part_root k.cut k.case.tree part ≤ node →
    node < part_root k.cut k.case.tree part + size (part_tree k.cut k.case.tree part) → ⊥

-- the boards below the number of parts stand at the parts
pub place_in_part : (k : CutCase) (part : ℕ) → part < parts_in k → place_of k part ≡ Part part
place_in_part k part inside =
    ap (λ c. place_if c part) (ne_eqb part (parts_in k) (λ e. omega (arith, e, inside)))

-- and the board with that number stands on top
pub place_on_top : (k : CutCase) (b : ℕ) → b ≡ parts_in k → place_of k b ≡ Top
place_on_top k b e = ap (λ c. place_if c b) (eq-eqb b (parts_in k) e)

home_at : (k : CutCase) (b : ℕ) (place : Place) → b < board_count k → place_of k b ≡ place →
    (node row : ℕ) → IsRow k.cut k.case.tree place node row →
    HasTargets k.cut k.case.tree place row → IsHome k node b row
home_at k b place inside e node row at targets = record {
  inside = inside;
  is_row = subst (λ p. IsRow k.cut k.case.tree p node row) (sym e) at;
  has_targets = subst (λ p. HasTargets k.cut k.case.tree p row) (sym e) targets;
}

-- a node under a part's root has its row on the part's board
pub home_in_part : (k : CutCase) (part node root end : ℕ) → part < parts_in k →
    root ≡ part_root k.cut k.case.tree part → end ≡ root + size (subtree_at k.case.tree root) →
    root ≤ node → node < end → (row : ℕ) × IsHome k node part row
home_in_part k part node root end inside is ends from before =
    let w : node - root < size (part_tree k.cut k.case.tree part) =
    subst (λ (r : ℕ). node - root < size (subtree_at k.case.tree r)) is
    (omega (arith, ends, from, before)) in
    let h : part_root k.cut k.case.tree part + (node - root) ≡ node = omega (arith, is, from) in (
      node - root,
      home_at k part (Part part) (omega (arith, inside)) (place_in_part k part inside) node
          (node - root) record { within = w; here = h } tt,
    )

on_top_by : (k : CutCase) (b node : ℕ) → b ≡ parts_in k →
    ((part : ℕ) → part < parts_in k → NotIn k node part) → WhereIs k.cut k.case.tree node →
    (row : ℕ) × IsHome k node b row
on_top_by k b node top none_ (is_own row l s e) = (
  row,
  home_at k b Top (omega (arith, top)) (place_on_top k b top) node row record
      { within = l; here = e } s,
)
on_top_by k b node top none_ (is_in part row l m e) =
    absurd (none_ part l (omega (arith, e)) (omega (arith, e, m)))

-- a node in no part has its row on the top board
pub home_on_top : (k : CutCase) (b node : ℕ) → b ≡ parts_in k → node < size k.case.tree →
    ((part : ℕ) → part < parts_in k → NotIn k node part) → (row : ℕ) × IsHome k node b row
home_on_top k b node top inside none_ =
    on_top_by k b node top none_ (where_is k.cut k.case.tree node inside)

-- one more part in which it doesn't lie
pub not_in_more : (k : CutCase) (node part root end : ℕ) → ((i : ℕ) → i < part → NotIn k node i) →
    root ≡ part_root k.cut k.case.tree part →
    (root ≤ node → end ≡ root + size (subtree_at k.case.tree root)) → (root ≤ node → node < end → ⊥)
    → (i : ℕ) → i < part + 1 → NotIn k node i
not_in_more k node part root end before is ends out i inside from to = dite (ℕ_discrete i part)
    (λ here.
    let r : root ≡ part_root k.cut k.case.tree i =
    is ∙ (λ z. part_root k.cut k.case.tree (sym here z)) in
    let from' : root ≤ node = omega (arith, r, from) in
    let same : end ≡ part_root k.cut k.case.tree i + size (part_tree k.cut k.case.tree i) =
    ends from' ∙ (λ z. r z + size (subtree_at k.case.tree (r z))) in
    out from' (omega (arith, same, to)))
    (λ apart. before i (omega (arith, inside, apart)) from to)

-- the board at a place has its number
pub number_inside : (k : CutCase) (place : Place) (b : ℕ) → b ≡ board_number k place →
    IsPlace k.cut k.case.tree place → b < board_count k
number_inside k (Part part) b e inside = omega (arith, e, inside)
number_inside k Top b e inside = omega (arith, e)
