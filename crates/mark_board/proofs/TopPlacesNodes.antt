-- The places of the top board, and the nodes of the whole tree that stand there.
use Rattle.std.proofs.Common.{◌≡◌, ℕ, zero, suc, ◌+◌, ◌-◌, ◌<◌, ◌≤◌, List, [], ◌∷◌, length, map}
use Rattle.std.proofs.Common.{replicate, get_or, refl, sym, ap, ◌∙◌, arith, inl, inr, true, false}
use Rattle.std.proofs.Common.{add-zero, zero-add}
use Rattle.std.proofs.lemmas.Bool.{cases_lt}
use Rattle.std.proofs.lemmas.List.{get_or_append_left, get_or-append_right, get_or_read}
use Rattle.case_core.specs.Literal.{Literal}
use Rattle.split_tree.specs.SplitTree.{SplitTree, missing, cube, split, size, subtree_at, depth_at}
use Rattle.split_tree.specs.SplitTree.{labels, branch, path_at}
use Rattle.split_tree.specs.Parts.{top, top_nodes}
use Rattle.split_tree.specs.Navigation.{HasBelow, AreBranches}
use Rattle.split_tree.proofs.PartsTop.{no_cubes}
use Rattle.split_tree.proofs.NodesCoding.{branches_at, subtree-root, some_node, in_positive}
use Rattle.split_tree.proofs.NodesCoding.{in_negative}
use Rattle.split_tree.proofs.SplitTreeLabels.{label_positive, label_negative, label-root}
use Rattle.split_tree.proofs.SplitTreeLabels.{handed_down}
use Rattle.mark_board.specs.declared.mark.Mark.{Mark}
use Rattle.mark_board.specs.declared.mark.Mark.TheVariants.{Open}
use Rattle.mark_board.specs.Rows.{IsWeighed, AreRowsKept}
use Rattle.mark_board.specs.TopPlaces.{worth_of, top_node, IsPlaceOf}
use Rattle.mark_board.proofs.BoardNumbers.{length-top_nodes, IsAtTop, at_root, at_first, at_second}
use Rattle.mark_board.proofs.RowsPosts.{new_kept}
use Rattle.mark_board.proofs.RowsWorths.{weighed_by, whole_adds_up, total_some}

-- the first node of the top board is the root
pub top_first : (cut node : ℕ) (t : SplitTree) → get_or (top_nodes cut node t) 0 0 ≡ node
top_first zero node t = refl
top_first (suc cut) node missing = refl
top_first (suc cut) node (cube k) = refl
top_first (suc cut) node (split v p n) = refl

-- an inner node of the top board is one of the whole tree, and so are its branches
pub record TopSplit (whole : SplitTree) (own : ℕ → ℕ) (place v : ℕ) (above : SplitTree) : Type 0
  where
    pub positive : SplitTree
    pub negative : SplitTree
    pub within : own place < size whole
    pub is : subtree_at whole (own place) ≡ split v positive negative
    pub first : own (suc place) ≡ suc (own place)
    pub second : own (suc (place + size above)) ≡ suc (own place + size positive)

pub top_split : (whole : SplitTree) (own : ℕ → ℕ) (base cut node : ℕ) (t : SplitTree) →
    node < size whole → subtree_at whole node ≡ t →
    IsAtTop own (λ k. k) base cut node t → (i v : ℕ) (a b : SplitTree) → i < size (top cut t) →
    subtree_at (top cut t) i ≡ split v a b →
    TopSplit whole own (base + i) v a
top_split whole own base zero node t h s at zero v a b l e = cc
top_split whole own base zero node t h s at (suc i) v a b l e = absurd (omega arith)
top_split whole own base (suc cut) node missing h s at zero v a b l e = cc
top_split whole own base (suc cut) node missing h s at (suc i) v a b l e = absurd (omega arith)
top_split whole own base (suc cut) node (cube k) h s at zero v a b l e = cc
top_split whole own base (suc cut) node (cube k) h s at (suc i) v a b l e = absurd (omega arith)
top_split whole own base (suc cut) node (split u p n) h s at zero v a b l e =
    let f : u ≡ v = cc in
    let g : top cut p ≡ a = cc in
    let z : base + 0 ≡ base = add-zero base in
    let here : own base ≡ node = at_root own (λ k. k) base (suc cut) node (split u p n) at in
    let first : own (suc base) ≡ suc node =
    at_root own (λ k. k) (suc base) cut (suc node) p (at_first own (λ k. k) base cut node u p n at)
    ∙ top_first cut (suc node) p in
    let second : own (suc (base + size (top cut p))) ≡ suc (node + size p) =
    at_root own (λ k. k) (suc (base + size (top cut p))) cut (suc (node + size p)) n
    (at_second own (λ k. k) base cut node u p n at)
    ∙ top_first cut (suc (node + size p)) n in
    rw (z, ← f, ← g) (record {
      positive = p;
      negative = n;
      within = rw here h;
      is = rw here s;
      first = rw here first;
      second = rw here second;
    })
top_split whole own base (suc cut) node (split u p n) h s at (suc i) v a b l e =
    let w = branches_at whole node u p n h s in
    let k : node + suc (size p + size n) ≤ size whole = w.within in
    elim (cases_lt i (size (top cut p))) [
      | inl less ↦
          let q : base + suc i ≡ suc base + i = omega arith in
          rw q (top_split whole own (suc base) cut (suc node) p (omega (arith, some_node p))
          w.positive (at_first own (λ k. k) base cut node u p n at)
          i v a b less (sym (in_positive u (top cut p) (top cut n) i less) ∙ e))
      | inr more ↦
          let m : i ≡ size (top cut p) + (i - size (top cut p)) = omega arith in
          let q : base + suc i ≡ suc (base + size (top cut p)) + (i - size (top cut p)) =
          omega arith in
          rw q (top_split whole own (suc (base + size (top cut p))) cut (suc (node + size p)) n
          (omega (arith, some_node n)) w.negative
          (at_second own (λ k. k) base cut node u p n at) (i - size (top cut p)) v a b (omega arith)
          (sym (in_negative u (top cut p) (top cut n) i (i - size (top cut p)) m) ∙ e))
    ]

-- of the whole tree's top
pub split_at_top : (tree : SplitTree) (cut i v : ℕ) (a b : SplitTree) → i < size (top cut tree) →
    subtree_at (top cut tree) i ≡ split v a b →
    TopSplit tree (top_node cut tree) i v a
split_at_top tree cut i v a b l e =
    rw (zero-add i) at
    (top_split tree (top_node cut tree) 0 cut 0 tree (omega (arith, some_node tree))
    (subtree-root tree) (λ j k. rw (zero-add j) refl) i v a b l e)

-- the nodes of the top board come before the end of the tree
pub top_within : (n cut node : ℕ) (t : SplitTree) → node + size t ≤ n → (i : ℕ) →
    i < size (top cut t) → get_or (top_nodes cut node t) i 0 < n
top_within m zero node t h zero l = omega (arith, some_node t)
top_within m zero node t h (suc i) l = absurd (omega arith)
top_within m (suc cut) node missing h zero l = omega arith
top_within m (suc cut) node missing h (suc i) l = absurd (omega arith)
top_within m (suc cut) node (cube k) h zero l = omega arith
top_within m (suc cut) node (cube k) h (suc i) l = absurd (omega arith)
top_within m (suc cut) node (split v p n) h zero l = omega arith
top_within m (suc cut) node (split v p n) h (suc i) l = elim (cases_lt i (size (top cut p))) [
  | inl less ↦
      let k : i < length (top_nodes cut (suc node) p) =
      rw (length-top_nodes cut (suc node) p) less in
      rw (get_or_append_left (top_nodes cut (suc node) p) (top_nodes cut (suc (node + size p)) n) 0
      i k)
      (top_within m cut (suc node) p (omega arith) i less)
  | inr more ↦
      rw (get_or-append_right (top_nodes cut (suc node) p) (top_nodes cut (suc (node + size p)) n)
      (size (top cut p)) i 0
      (length-top_nodes cut (suc node) p) more)
      (top_within m cut (suc (node + size p)) n (omega arith) (i - size (top cut p)) (omega arith))
]

-- at each place of the top board there is a node of the tree
pub node_within : (tree : SplitTree) (cut i : ℕ) → i < size (top cut tree) →
    top_node cut tree i < size tree
node_within tree cut i l = top_within (size tree) cut 0 tree (omega arith) i l

-- ---- what the parts under the nodes of the top board weigh

pub top_weighed : (tree : SplitTree) (cut : ℕ) →
    IsWeighed (top cut tree) (λ place. worth_of tree (top_node cut tree place))
top_weighed tree cut = weighed_by (λ place. worth_of tree (top_node cut tree place)) (top cut tree)
    (λ i l. total_some (depth_at tree (top_node cut tree i))
    (subtree_at tree (top_node cut tree i)))
    (λ i v a b l e.
    let s = split_at_top tree cut i v a b l e in
    rw (s.first, s.second)
    (whole_adds_up tree (top_node cut tree i) v s.positive s.negative s.within s.is))

-- ---- the path of a place of the top board is that of its node in the whole tree

top_path : (whole : SplitTree) (path : List Literal) (cut node : ℕ) (t : SplitTree) →
    node < size whole → subtree_at whole node ≡ t →
    path_at whole node ≡ path → (i : ℕ) → i < size (top cut t) →
    get_or (labels branch path (top cut t)) i [] ≡ path_at whole (get_or (top_nodes cut node t) i 0)
top_path whole path zero node t h s e zero l = sym e
top_path whole path zero node t h s e (suc i) l = absurd (omega arith)
top_path whole path (suc cut) node missing h s e zero l = sym e
top_path whole path (suc cut) node missing h s e (suc i) l = absurd (omega arith)
top_path whole path (suc cut) node (cube k) h s e zero l = sym e
top_path whole path (suc cut) node (cube k) h s e (suc i) l = absurd (omega arith)
top_path whole path (suc cut) node (split v p n) h s e zero l = sym e
top_path whole path (suc cut) node (split v p n) h s e (suc i) l =
    let b = branches_at whole node v p n h s in
    let d = handed_down branch [] [] whole node v p n h s in
    let w : node + suc (size p + size n) ≤ size whole = b.within in
    elim (cases_lt i (size (top cut p))) [
      | inl less ↦
          let k : i < length (top_nodes cut (suc node) p) =
          rw (length-top_nodes cut (suc node) p) less in
          let r =
          top_path whole (branch path v true) cut (suc node) p (omega (arith, some_node p))
          b.positive
          (d.positive ∙ ap (λ (x : List Literal). branch x v true) e) i less in
          label_positive branch [] path v (top cut p) (top cut n) i less ∙ (r
          ∙ ap (λ (j : ℕ). path_at whole j)
          (sym (get_or_append_left (top_nodes cut (suc node) p)
          (top_nodes cut (suc (node + size p)) n) 0 i k)))
      | inr more ↦
          let m : i ≡ size (top cut p) + (i - size (top cut p)) = omega arith in
          let r =
          top_path whole (branch path v false) cut (suc (node + size p)) n
          (omega (arith, some_node n)) b.negative
          (d.negative ∙ ap (λ (x : List Literal). branch x v false) e) (i - size (top cut p))
          (omega arith) in
          label_negative branch [] path v (top cut p) (top cut n) i (i - size (top cut p)) m ∙ (r
          ∙ ap (λ (j : ℕ). path_at whole j)
          (sym (get_or-append_right (top_nodes cut (suc node) p)
          (top_nodes cut (suc (node + size p)) n) (size (top cut p)) i 0
          (length-top_nodes cut (suc node) p) more)))
    ]

-- the path to a place in the top board's tree is that to its node in the whole tree
pub path_of_top : (tree : SplitTree) (cut i : ℕ) → i < size (top cut tree) →
    get_or (labels branch [] (top cut tree)) i [] ≡ path_at tree (get_or (top_nodes cut 0 tree) i 0)
path_of_top tree cut i l =
    top_path tree [] cut 0 tree (omega (arith, some_node tree)) (subtree-root tree)
    (label-root branch [] [] tree) i l

-- an item of a mapped list is the function of the list's item
pub get_or-map : (f : ℕ → ℕ) (xs : List ℕ) (i : ℕ) → i < length xs →
    get_or (map f xs) i 0 ≡ f (get_or xs i 0)
get_or-map f [] i l = absurd (omega arith)
get_or-map f (x ∷ xs) zero l = refl
get_or-map f (x ∷ xs) (suc i) l = get_or-map f xs i (omega arith)

-- a mapped list is as long as the list
pub length-mapped : (f : ℕ → ℕ) (xs : List ℕ) → length (map f xs) ≡ length xs
length-mapped f [] = refl
length-mapped f (x ∷ xs) = ap suc (length-mapped f xs)

-- the rows of a new top board
pub top_kept : (tree : SplitTree) (cut : ℕ) (nodes rows : List ℕ) (marks : List Mark) →
    nodes ≡ top_nodes cut 0 tree →
    rows ≡ map (worth_of tree) nodes → marks ≡ replicate (length rows) Open →
    AreRowsKept (top cut tree) (λ place. worth_of tree (top_node cut tree place)) marks rows
top_kept tree cut nodes rows marks e r m =
    let k : length rows ≡ size (top cut tree) =
    rw (r, e, length-mapped (worth_of tree) (top_nodes cut 0 tree)) (length-top_nodes cut 0 tree) in
    rw m (new_kept (top cut tree) (λ place. worth_of tree (top_node cut tree place)) rows
    (top_weighed tree cut) k
    (λ i l. rw (r, e)
    (get_or-map (worth_of tree) (top_nodes cut 0 tree) i (rw (length-top_nodes cut 0 tree) l))))

-- ---- the way down the top board to the place of a node

-- each node of the tree lies below the root's place
pub place_root : (tree : SplitTree) (cut x : ℕ) → x < size tree →
    (0 < size (top cut tree)) × HasBelow tree (top_node cut tree 0) x
place_root tree cut x l =
    let z : top_node cut tree 0 ≡ 0 = top_first cut 0 tree in
    let s : subtree_at tree 0 ≡ tree = subtree-root tree in (
      omega (arith, some_node (top cut tree)),
      record { reached = rw z (omega arith); before_end = rw (z, s) (omega arith) },
    )

-- a node before the second branch lies below the first
pub place_first : (tree : SplitTree) (cut place first second x : ℕ) → place < size (top cut tree) →
    AreBranches (top cut tree) place first second →
    HasBelow tree (top_node cut tree place) x → (top_node cut tree place ≡ x → ⊥) →
    x < top_node cut tree second →
    (first < size (top cut tree)) × HasBelow tree (top_node cut tree first) x
place_first tree cut place first second x l b h ne less =
    let s = split_at_top tree cut place b.variable b.positive b.negative l b.is in
    let w =
    branches_at tree (top_node cut tree place) b.variable s.positive s.negative s.within s.is in
    let f : first ≡ suc place = omega (arith, b.first_is) in
    let g : second ≡ suc (place + size b.positive) = omega (arith, b.second_is) in
    let one : top_node cut tree first ≡ suc (top_node cut tree place) = rw f s.first in
    let two : top_node cut tree second ≡ suc (top_node cut tree place + size s.positive) =
    rw g s.second in
    let r : top_node cut tree place ≤ x = h.reached in
    let i : second < size (top cut tree) = b.within in (
      omega (arith, b.first_is, b.second_is),
      record {
        reached = rw one (omega (arith, ne));
        before_end = rw (one, w.positive) (omega (arith, two));
      },
    )

-- a node from the second branch on lies below the second
pub place_second : (tree : SplitTree) (cut place first second x : ℕ) → place < size (top cut tree) →
    AreBranches (top cut tree) place first second →
    HasBelow tree (top_node cut tree place) x → top_node cut tree second ≤ x →
    (second < size (top cut tree)) × HasBelow tree (top_node cut tree second) x
place_second tree cut place first second x l b h more =
    let s = split_at_top tree cut place b.variable b.positive b.negative l b.is in
    let w =
    branches_at tree (top_node cut tree place) b.variable s.positive s.negative s.within s.is in
    let g : second ≡ suc (place + size b.positive) = omega (arith, b.second_is) in
    let two : top_node cut tree second ≡ suc (top_node cut tree place + size s.positive) =
    rw g s.second in
    let e : x < top_node cut tree place + size (subtree_at tree (top_node cut tree place)) =
    h.before_end in
    let e2 : x < top_node cut tree place + suc (size s.positive + size s.negative) = rw s.is at e in
    (b.within, record { reached = more; before_end = rw (two, w.negative) (omega arith) })

-- where a place's node is the one that is sought, it is its place
pub place_own : (tree : SplitTree) (cut place x : ℕ) → place < size (top cut tree) →
    HasBelow tree (top_node cut tree place) x →
    top_node cut tree place ≡ x → IsPlaceOf cut tree x place
place_own tree cut place x l h e = record { within = l; below = h; own = λ s. e }

-- no part stands for a cube
pub no_cube_above : (tree : SplitTree) (cut place k : ℕ) → place < size (top cut tree) →
    subtree_at (top cut tree) place ≡ cube k → ⊥
no_cube_above tree cut place k l e =
    let b = (no_cubes cut tree).numbered place k l e in
    let some : 1 ≤ k = b.0 in
    let none : k ≤ 0 = b.1 in
    omega arith

-- ---- the table of the nodes at the places

-- as many numbers are listed as the tree above the cut has nodes
pub nodes_long : (tree : SplitTree) (cut : ℕ) (nodes : List ℕ) → nodes ≡ top_nodes cut 0 tree →
    length nodes ≡ size (top cut tree)
nodes_long tree cut nodes e = rw e (length-top_nodes cut 0 tree)

-- the number that is read at a place is that of the place's node
pub nodes_read : (tree : SplitTree) (cut : ℕ) (nodes : List ℕ) (place x : ℕ) →
    nodes ≡ top_nodes cut 0 tree → place < size (top cut tree) →
    x ≡ get_or nodes place x → x ≡ top_node cut tree place
nodes_read tree cut nodes place x e l h =
    let k : length nodes ≡ size (top cut tree) = nodes_long tree cut nodes e in
    let r : x ≡ get_or nodes place 0 = get_or_read nodes place x (omega arith) h 0 in
    r ∙ ap (λ (xs : List ℕ). get_or xs place 0) e
