-- Cells that are drawn later.
use Rattle.std.proofs.Common.{◌≡◌, ℕ, zero, suc, ◌+◌, ◌^◌, ◌<◌, ◌≤◌, List, [], ◌∷◌, ◌++◌, Bool}
use Rattle.std.proofs.Common.{false, ◌||◌, refl, sym, ap, ◌∙◌, arith, append-nil, append_assoc}
use Rattle.split_tree.specs.SplitTree.{SplitTree, missing, cube, split, size, subtree_at}
use Rattle.split_tree.proofs.NodesCoding.{branches_at, some_node, subtree-root}
use Rattle.case_core.specs.Case.{CaseOf}
use Rattle.mark_board.specs.declared.mark.Mark.{Mark}
use Rattle.mark_board.specs.Marking.{marked, refuted_by}
use Rattle.tree_map.specs.declared.cell.Cell.{Cell}
use Rattle.tree_map.specs.Picture.{cell, cells}
use Rattle.tree_map.specs.Inner.Picture.{IsPending, cell_of, below, next_cells}

-- the text of a cell and of those below it
abbrev pub cells_of : CaseOf → List Mark → Cell → List ℕ
cells_of case marks place =
    cells case marks place.level place.left place.node place.covered
    (subtree_at case.tree place.node)

-- the last of them is drawn first
abbrev pub later : CaseOf → List Mark → List Cell → List ℕ
later case marks [] = []
later case marks (place ∷ places) = later case marks places ++ cells_of case marks place

-- how many nodes lie under them
abbrev pub weigh : SplitTree → List Cell → ℕ
weigh tree [] = 0
weigh tree (place ∷ places) = size (subtree_at tree place.node) + weigh tree places

-- all of them are cells of the picture
abbrev pub AllPending : SplitTree → List Cell → Type 0
AllPending tree [] = Unit {0}
AllPending tree (place ∷ places) = IsPending tree place × AllPending tree places

-- ---- lists of them

pub later_more : (case : CaseOf) (marks : List Mark) (xs ys : List Cell) →
    later case marks (xs ++ ys) ≡ later case marks ys ++ later case marks xs
later_more case marks [] ys = sym (append-nil (later case marks ys))
later_more case marks (x ∷ xs) ys =
    ap (λ (text : List ℕ). text ++ cells_of case marks x) (later_more case marks xs ys)
    ∙ append_assoc (later case marks ys) (later case marks xs) (cells_of case marks x)

pub weigh_more : (tree : SplitTree) (xs ys : List Cell) →
    weigh tree (xs ++ ys) ≡ weigh tree xs + weigh tree ys
weigh_more tree [] ys = omega arith
weigh_more tree (x ∷ xs) ys = let r = weigh_more tree xs ys in omega (arith, r)

pub all_more : (tree : SplitTree) (xs ys : List Cell) → AllPending tree xs → AllPending tree ys →
    AllPending tree (xs ++ ys)
all_more tree [] ys h k = k
all_more tree (x ∷ xs) ys h k = (h.0, all_more tree xs ys h.1 k)

pub all_but_last : (tree : SplitTree) (xs : List Cell) (x : Cell) → AllPending tree (xs ++ x ∷ []) →
    AllPending tree xs × IsPending tree x
all_but_last tree [] x h = (tt, h.0)
all_but_last tree (y ∷ xs) x h = let r = all_but_last tree xs x h.1 in ((h.0, r.0), r.1)

-- ---- the cells of the branches

-- the text of a cell, and then that of the cells of its branches
pub cells_are : (case : CaseOf) (marks : List Mark) (level left node : ℕ) (covered : Bool)
    (t : SplitTree) → node < size case.tree → subtree_at case.tree node ≡ t →
    cells case marks level left node covered t
    ≡ cell case marks level left node covered t
    ++ later case marks (below level left node (covered || marked (refuted_by marks) node t) t)
cells_are case marks zero left node covered t l is =
    sym (append-nil (cell case marks zero left node covered t))
cells_are case marks (suc level) left node covered missing l is =
    sym (append-nil (cell case marks (suc level) left node covered missing))
cells_are case marks (suc level) left node covered (cube k) l is =
    sym (append-nil (cell case marks (suc level) left node covered (cube k)))
cells_are case marks (suc level) left node covered (split v p n) l is =
    let b = branches_at case.tree node v p n l is in
    let under : Bool = covered || marked (refuted_by marks) node (split v p n) in
    rw (b.positive, b.negative)
    (append_assoc (cell case marks (suc level) left node covered (split v p n))
    (cells case marks level left (suc node) under p)
    (cells case marks level (left + 2 ^ level) (suc (node + size p)) under n))

-- fewer nodes lie under the branches
pub weigh_below : (tree : SplitTree) (level left node : ℕ) (covered : Bool) (t : SplitTree) →
    node < size tree → subtree_at tree node ≡ t →
    weigh tree (below level left node covered t) < size t
weigh_below tree zero left node covered t l is = some_node t
weigh_below tree (suc level) left node covered missing l is = omega arith
weigh_below tree (suc level) left node covered (cube k) l is = omega arith
weigh_below tree (suc level) left node covered (split v p n) l is =
    let b = branches_at tree node v p n l is in rw (b.positive, b.negative) (omega arith)

-- they are cells of the picture
pub below_pending : (tree : SplitTree) (level left node : ℕ) (covered : Bool) (t : SplitTree) →
    node < size tree → subtree_at tree node ≡ t → level ≤ 11 → left + 2 ^ level ≤ 2048 →
    AllPending tree (below level left node covered t)
below_pending tree zero left node covered t l is low inside = tt
below_pending tree (suc level) left node covered missing l is low inside = tt
below_pending tree (suc level) left node covered (cube k) l is low inside = tt
below_pending tree (suc level) left node covered (split v p n) l is low inside =
    let b = branches_at tree node v p n l is in
    let double : 2 ^ suc level ≡ 2 ^ level + 2 ^ level = omega arith in
    let few : level ≤ 11 = omega arith in (
      record {
        within = omega (arith, b.within, some_node n);
        low = few;
        inside = omega (arith, double);
      },
      (
        record {
          within = omega (arith, b.within, some_node p);
          low = few;
          inside = omega (arith, double);
        },
        tt,
      ),
    )

-- ---- the root

-- the root's cell alone
pub at_root : (case : CaseOf) (marks : List Mark) (first : List ℕ) (new : List Cell) (node : ℕ) →
    node ≡ 0 → new ≡ record { level = 11; left = 0; node = node; covered = false } ∷ [] →
    AllPending case.tree new
    × (first ++ later case marks new ≡ first ++ cells case marks 11 0 0 false case.tree)
at_root case marks first new node z e = rw (e, z) (
  (record { within = some_node case.tree; low = omega arith; inside = omega arith }, tt),
  ap (λ (t : SplitTree). first ++ cells case marks 11 0 0 false t) (subtree-root case.tree),
)

-- ---- one turn

-- once a cell is drawn, those of its branches are the next ones
pub drawn : (case : CaseOf) (marks : List Mark) (first text next whole : List ℕ)
    (old left new : List Cell) (place : Cell) → IsPending case.tree place →
    old ≡ left ++ place ∷ [] → text ++ later case marks old ≡ first ++ whole →
    next ≡ text ++ cell_of case marks place → new ≡ left ++ next_cells case marks place →
    next ++ later case marks new ≡ first ++ whole
drawn case marks first text next whole old left new place p e so_far f g =
    let t : SplitTree = subtree_at case.tree place.node in
    let more : cells_of case marks place
    ≡ cell_of case marks place ++ later case marks (next_cells case marks place) =
    cells_are case marks place.level place.left place.node place.covered t p.within refl in
    let before : later case marks old ≡ cells_of case marks place ++ later case marks left =
    ap (later case marks) e ∙ later_more case marks left (place ∷ []) in
    let after : later case marks new
    ≡ later case marks (next_cells case marks place) ++ later case marks left =
    ap (later case marks) g ∙ later_more case marks left (next_cells case marks place) in
    rw (f, after)
    (append_assoc text (cell_of case marks place)
    (later case marks (next_cells case marks place) ++ later case marks left)
    ∙ (ap (λ (xs : List ℕ). text ++ xs)
    (sym (append_assoc (cell_of case marks place) (later case marks (next_cells case marks place))
    (later case marks left))
    ∙ (ap (λ (xs : List ℕ). xs ++ later case marks left) (sym more) ∙ sym before)) ∙ so_far))

-- fewer nodes lie under them
pub lighter : (case : CaseOf) (marks : List Mark) (old left new : List Cell) (place : Cell) →
    IsPending case.tree place → old ≡ left ++ place ∷ [] →
    new ≡ left ++ next_cells case marks place →
    weigh case.tree new < weigh case.tree old
lighter case marks old left new place p e g =
    let t : SplitTree = subtree_at case.tree place.node in
    let less =
    weigh_below case.tree place.level place.left place.node
    (place.covered || marked (refuted_by marks) place.node t) t p.within refl in
    let before = weigh_more case.tree left (place ∷ []) in
    let after = weigh_more case.tree left (next_cells case marks place) in
    rw (e, g) (omega (arith, less, before, after))

-- all of them are still cells of the picture
pub still_pending : (case : CaseOf) (marks : List Mark) (left new : List Cell) (place : Cell) →
    IsPending case.tree place → AllPending case.tree left →
    new ≡ left ++ next_cells case marks place →
    AllPending case.tree new
still_pending case marks left new place p all g =
    let t : SplitTree = subtree_at case.tree place.node in
    rw g (all_more case.tree left (next_cells case marks place) all
    (below_pending case.tree place.level place.left place.node
    (place.covered || marked (refuted_by marks) place.node t) t p.within refl p.low p.inside))
