-- What the leaves under the nodes of a board weigh together.
use Rattle.std.proofs.Common.{◌≡◌, ℕ, suc, ◌+◌, ◌<◌, ◌≤◌, List, length, get_or, take, drop}
use Rattle.std.proofs.Common.{replicate, false, Bool, refl, ◌∙◌, arith, length-drop, length-take}
use Rattle.std.proofs.lemmas.List.{get_or-take, get_or-drop}
use Rattle.split_tree.specs.SplitTree.{SplitTree, missing, cube, split, size, total, subtree_at}
use Rattle.split_tree.specs.SplitTree.{depth_at}
use Rattle.split_tree.specs.Navigation.{AreTotals}
use Rattle.split_tree.proofs.NodesCoding.{branches_at, some_node}
use Rattle.split_tree.proofs.SplitTreeLabels.{handed_down, below, inside}
use Rattle.split_tree.proofs.TablesTotals.{weight_some}
use Rattle.mark_board.specs.declared.mark.Mark.{Mark}
use Rattle.mark_board.specs.declared.mark.Mark.TheVariants.{Open}
use Rattle.mark_board.specs.Marking.{whole_weight}
use Rattle.mark_board.specs.Rows.{IsWeighed, AreRowsKept}
use Rattle.mark_board.proofs.RowsPosts.{new_kept}
use Rattle.mark_board.specs.TopPlaces.{worth_of}
use Rattle.mark_board.proofs.MarkingLaws.{open_sum}

-- an inner node's leaves weigh what those of its branches do
abbrev pub AddsUp : (ℕ → ℕ) → SplitTree → Type 0
AddsUp worth tree =
    (i v : ℕ) (p n : SplitTree) → i < size tree → subtree_at tree i ≡ split v p n →
    worth i ≡ worth (suc i) + worth (suc (i + size p))

-- where inner nodes weigh what their branches do, each weighs what all its leaves do
pub whole_at : (worth : ℕ → ℕ) (tree : SplitTree) → AddsUp worth tree → (i : ℕ) (t : SplitTree) →
    i < size tree → subtree_at tree i ≡ t →
    worth i ≡ whole_weight worth i t
whole_at worth tree h i missing l e = refl
whole_at worth tree h i (cube k) l e = refl
whole_at worth tree h i (split v p n) l e =
    let b = branches_at tree i v p n l e in
    let w : i + suc (size p + size n) ≤ size tree = b.within in
    let first =
    whole_at worth tree h (suc i) p (omega (arith, some_node p, some_node n)) b.positive in
    let second =
    whole_at worth tree h (suc (i + size p)) n (omega (arith, some_node n)) b.negative in
    let sum = h i v p n l e in
    let none = open_sum worth (λ q. false) i v p n refl in
    omega (arith, first, second, sum, none)

-- and a tree is weighed so, where each node weighs something
pub weighed_by : (worth : ℕ → ℕ) (tree : SplitTree) → ((i : ℕ) → i < size tree → 1 ≤ worth i) →
    AddsUp worth tree → IsWeighed tree worth
weighed_by worth tree some h = record {
  some = some;
  sums = λ i l. whole_at worth tree h i (subtree_at tree i) l refl;
}

-- ---- in the whole tree

-- the leaves of a tree weigh something, at whatever depth it lies
pub total_some : (depth : ℕ) (t : SplitTree) → 1 ≤ total depth t
total_some depth missing = weight_some depth
total_some depth (cube k) = weight_some depth
total_some depth (split v p n) = let a = total_some (suc depth) p in omega (arith, a)

-- in the case's tree an inner node weighs what its branches do
pub whole_adds_up : (tree : SplitTree) → AddsUp (worth_of tree) tree
whole_adds_up tree i v p n l e =
    let b = branches_at tree i v p n l e in
    let d = handed_down (λ (d : ℕ) (v : ℕ) (sign : Bool). suc d) 0 0 tree i v p n l e in
    rw (e, b.positive, b.negative, d.positive, d.negative) refl

-- ---- in a part

pub part_weighed : (tree : SplitTree) (root : ℕ) → root < size tree →
    IsWeighed (subtree_at tree root) (λ place. worth_of tree (root + place))
part_weighed tree root h = weighed_by (λ place. worth_of tree (root + place)) (subtree_at tree root)
    (λ i l. total_some (depth_at tree (root + i)) (subtree_at tree (root + i)))
    (λ i v p n l e.
    let w : root + size (subtree_at tree root) ≤ size tree = inside tree root h in
    let s : subtree_at tree (root + i) ≡ split v p n = below tree root i h l ∙ e in
    let a : root + suc i ≡ suc (root + i) = omega arith in
    let b : root + suc (i + size p) ≡ suc (root + i + size p) = omega arith in
    rw (a, b) (whole_adds_up tree (root + i) v p n (omega arith) s))

-- the rows of a part, cut out of those of the whole tree
pub slice_read : (xs : List ℕ) (root n i : ℕ) → i < n →
    get_or (take n (drop root xs)) i 0 ≡ get_or xs (root + i) 0
slice_read xs root n i l = get_or-take n (drop root xs) i 0 l ∙ get_or-drop root xs i 0

pub part_worths : (tree : SplitTree) (weights : List ℕ) (root n : ℕ) → AreTotals tree weights →
    root < size tree → n ≡ size (subtree_at tree root) →
    (i : ℕ) → i < size (subtree_at tree root) →
    get_or (take n (drop root weights)) i 0 ≡ worth_of tree (root + i)
part_worths tree weights root n t h e i l =
    let w : root + size (subtree_at tree root) ≤ size tree = inside tree root h in
    slice_read weights root n i (omega arith) ∙ t.each (root + i) (omega arith)

pub part_rows : (tree : SplitTree) (weights : List ℕ) (root n : ℕ) → AreTotals tree weights →
    root < size tree → n ≡ size (subtree_at tree root) →
    length (take n (drop root weights)) ≡ size (subtree_at tree root)
part_rows tree weights root n t h e =
    let w : root + size (subtree_at tree root) ≤ size tree = inside tree root h in
    let d = length-drop root weights in
    let k = length-take n (drop root weights) in
    omega (arith, t.long, d, k)

-- a new part's rows
pub part_kept : (tree : SplitTree) (weights rows : List ℕ) (marks : List Mark) (root n : ℕ) →
    AreTotals tree weights → root < size tree →
    n ≡ size (subtree_at tree root) → rows ≡ take n (drop root weights) →
    marks ≡ replicate (length (take n (drop root weights))) Open →
    AreRowsKept (subtree_at tree root) (λ place. worth_of tree (root + place)) marks rows
part_kept tree weights rows marks root n t h e r m =
    rw (r, m) (new_kept (subtree_at tree root) (λ place. worth_of tree (root + place))
    (take n (drop root weights)) (part_weighed tree root h)
    (part_rows tree weights root n t h e) (part_worths tree weights root n t h e))
