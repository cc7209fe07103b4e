-- The paths of nodes, seen from a node above them.
use Rattle.std.proofs.Common.{◌≡◌, ◌≢◌, ℕ, zero, suc, ◌+◌, ◌-◌, ◌<◌, ◌≤◌, List, [], ◌∷◌, ◌++◌}
use Rattle.std.proofs.Common.{length, get_or, take, drop, Bool, true, false, refl, sym, ap, ◌∙◌}
use Rattle.std.proofs.Common.{inl, inr, arith, append_assoc, append-nil}
use Rattle.std.proofs.lemmas.Bool.{cases_lt}
use Rattle.std.proofs.lemmas.List.{append_cancel_left, drop_more, take-append-drop, take_more}
use Rattle.std.proofs.lemmas.List.{take_all}
use Rattle.cnf_text.specs.Literal.{Literal}
use Rattle.split_tree.specs.SplitTree.{SplitTree, missing, cube, split, branch, labels, path_at}
use Rattle.split_tree.specs.SplitTree.{size, subtree_at, split_variable, IsLeaf, IsSplit}
use Rattle.split_tree.specs.Navigation.{HasBelow, AreBranches}
use Rattle.split_tree.proofs.SplitTreeLabels.{label_positive, label_negative, label_below}
use Rattle.split_tree.proofs.SplitTreeLabels.{label-root, handed_down}
use Rattle.split_tree.proofs.NodesCoding.{subtree-root, some_node}

pub path_from : (path : List Literal) (t : SplitTree) (i : ℕ) → i < size t →
    get_or (labels branch path t) i [] ≡ path ++ path_at t i
path_from path missing zero h = sym (append-nil path)
path_from path missing (suc i) h = absurd (omega arith)
path_from path (cube k) zero h = sym (append-nil path)
path_from path (cube k) (suc i) h = absurd (omega arith)
path_from path (split v p n) zero h = sym (append-nil path)
path_from path (split v p n) (suc i) h = elim (cases_lt i (size p)) [
  | inl less ↦
      rw (
        label_positive branch [] path v p n i less,
        label_positive branch [] [] v p n i less,
        path_from (branch path v true) p i less,
        path_from (branch [] v true) p i less,
      )
      (append_assoc path (record { variable = v; positive = true } ∷ []) (path_at p i))
  | inr more ↦
      let e : i ≡ size p + (i - size p) = omega arith in
      let l : i - size p < size n = omega arith in
      rw (
        label_negative branch [] path v p n i (i - size p) e,
        label_negative branch [] [] v p n i (i - size p) e,
        path_from (branch path v false) n (i - size p) l,
        path_from (branch [] v false) n (i - size p) l,
      )
      (append_assoc path (record { variable = v; positive = false } ∷ []) (path_at n (i - size p)))
]

pub path_positive : (v : ℕ) (p n : SplitTree) (i : ℕ) → i < size p →
    path_at (split v p n) (suc i) ≡ record { variable = v; positive = true } ∷ path_at p i
path_positive v p n i h = label_positive branch [] [] v p n i h ∙ path_from (branch [] v true) p i h

pub path_negative : (v : ℕ) (p n : SplitTree) (i j : ℕ) → i ≡ size p + j → j < size n →
    path_at (split v p n) (suc i) ≡ record { variable = v; positive = false } ∷ path_at n j
path_negative v p n i j e h =
    label_negative branch [] [] v p n i j e ∙ path_from (branch [] v false) n j h

-- the path of a node below another one
pub path_below : (tree : SplitTree) (i r : ℕ) → i < size tree → r < size (subtree_at tree i) →
    path_at tree (i + r) ≡ path_at tree i ++ path_at (subtree_at tree i) r
path_below tree i r h k =
    label_below branch [] [] tree i r h k ∙ path_from (path_at tree i) (subtree_at tree i) r k

-- ---- two nodes have two paths

abbrev first_sign : List Literal → Bool
first_sign [] = true
first_sign (l ∷ rest) = l.positive

apart : (v : ℕ) (xs ys : List Literal) →
    record { variable = v; positive = true } ∷ xs ≡ record { variable = v; positive = false } ∷ ys →
    ⊥
apart v xs ys e = let f : true ≡ false = ap first_sign e in cc

tails : (l : Literal) (xs ys : List Literal) → l ∷ xs ≡ l ∷ ys → xs ≡ ys
tails l xs ys e = cc

longer : (v : ℕ) (p n : SplitTree) (i : ℕ) → suc i < size (split v p n) →
    [] ≡ path_at (split v p n) (suc i) → ⊥
longer v p n i h e = elim (cases_lt i (size p)) [
  | inl less ↦ let f = e ∙ path_positive v p n i less in cc
  | inr more ↦
      let q : i ≡ size p + (i - size p) = omega arith in
      let f = e ∙ path_negative v p n i (i - size p) q (omega arith) in cc
]

-- nodes with one path are one node
pub one_node : (t : SplitTree) (i j : ℕ) → i < size t → j < size t → path_at t i ≡ path_at t j →
    i ≡ j
one_node missing i j h k e = omega arith
one_node (cube c) i j h k e = omega arith
one_node (split v p n) zero zero h k e = refl
one_node (split v p n) zero (suc j) h k e = absurd (longer v p n j k e)
one_node (split v p n) (suc i) zero h k e = absurd (longer v p n i h (sym e))
one_node (split v p n) (suc i) (suc j) h k e = elim (cases_lt i (size p)) [
  | inl less ↦ elim (cases_lt j (size p)) [
    | inl other_less ↦
        let f = sym (path_positive v p n i less) ∙ (e ∙ path_positive v p n j other_less) in
        ap suc (one_node p i j less other_less
        (tails (record { variable = v; positive = true }) (path_at p i) (path_at p j) f))
    | inr other_more ↦
        let q : j ≡ size p + (j - size p) = omega arith in
        let f =
        sym (path_positive v p n i less)
        ∙ (e ∙ path_negative v p n j (j - size p) q (omega arith)) in
        absurd (apart v (path_at p i) (path_at n (j - size p)) f)
  ]
  | inr more ↦
      let r : i ≡ size p + (i - size p) = omega arith in
      elim (cases_lt j (size p)) [
        | inl other_less ↦
            let f =
            sym (path_positive v p n j other_less)
            ∙ (sym e ∙ path_negative v p n i (i - size p) r (omega arith)) in
            absurd (apart v (path_at p j) (path_at n (i - size p)) f)
        | inr other_more ↦
            let q : j ≡ size p + (j - size p) = omega arith in
            let f =
            sym (path_negative v p n i (i - size p) r (omega arith))
            ∙ (e ∙ path_negative v p n j (j - size p) q (omega arith)) in
            let s : i - size p ≡ j - size p =
            one_node n (i - size p) (j - size p) (omega arith) (omega arith)
            (tails (record { variable = v; positive = false }) (path_at n (i - size p))
            (path_at n (j - size p)) f) in
            omega arith
      ]
]

-- ---- walking down by the literals of a path

-- the paths of both branches
pub branch_paths : (tree : SplitTree) (here first second : ℕ) → here < size tree →
    (b : AreBranches tree here first second) →
    (path_at tree first ≡ branch (path_at tree here) b.variable true)
    × (path_at tree second ≡ branch (path_at tree here) b.variable false)
branch_paths tree here first second h b =
    let d = handed_down branch [] [] tree here b.variable b.positive b.negative h b.is in
    let e : first ≡ suc here = omega (arith, b.first_is) in
    let f : second ≡ suc (here + size b.positive) = omega (arith, b.second_is) in
    (rw e d.positive, rw f d.negative)

-- below a split, a path's first literal tells the way
ways : (v : ℕ) (p n : SplitTree) (r : ℕ) (l : Literal) (rest : List Literal) →
    r < size (split v p n) → path_at (split v p n) r ≡ l ∷ rest →
    (l.variable ≡ v) × (l.positive ≡ true → (0 < r) × (r ≤ size p))
    × (l.positive ≡ false → size p < r)
ways v p n zero l rest h e = cc
ways v p n (suc r) l rest h e = elim (cases_lt r (size p)) [
  | inl less ↦
      let f : record { variable = v; positive = true } ∷ path_at p r ≡ l ∷ rest =
      sym (path_positive v p n r less) ∙ e in
      let g : record { variable = v; positive = true } ≡ l = cc in (
        ap (λ (m : Literal). m.variable) (sym g),
        λ yes. (omega arith, omega arith),
        λ no. let k : true ≡ false = ap (λ (m : Literal). m.positive) g ∙ no in cc,
      )
  | inr more ↦
      let q : r ≡ size p + (r - size p) = omega arith in
      let f : record { variable = v; positive = false } ∷ path_at n (r - size p) ≡ l ∷ rest =
      sym (path_negative v p n r (r - size p) q (omega arith)) ∙ e in
      let g : record { variable = v; positive = false } ≡ l = cc in (
        ap (λ (m : Literal). m.variable) (sym g),
        λ yes. let k : false
            ≡ true = ap (λ (m : Literal). m.positive) g ∙ yes in cc,
        λ no. omega arith,
      )
]

-- what of a path lies ahead at a node above its own
path_ahead : (tree : SplitTree) (here i n : ℕ) (path : List Literal) → here < size tree →
    path_at tree here ≡ take n path →
    HasBelow tree here i → path_at tree i ≡ path →
    path_at (subtree_at tree here) (i - here) ≡ drop n path
path_ahead tree here i n path h e b f =
    let reached : here ≤ i = b.reached in
    let end : i < here + size (subtree_at tree here) = b.before_end in
    let q : here + (i - here) ≡ i = omega arith in
    let k : path_at tree i ≡ path_at tree here ++ path_at (subtree_at tree here) (i - here) =
    ap (λ (m : ℕ). path_at tree m) (sym q) ∙ path_below tree here (i - here) h (omega arith) in
    append_cancel_left (take n path) (path_at (subtree_at tree here) (i - here)) (drop n path)
    (rw e at (sym k) ∙ (f ∙ sym (take-append-drop n path)))

-- the way from the root has gone so far along a path, and each node of that path lies below
pub record Sought (tree : SplitTree) (path : List Literal) (here n : ℕ) : Type 0 where
  pub within : here < size tree
  pub path_is : path_at tree here ≡ take n path
  pub below : (i : ℕ) → i < size tree → path_at tree i ≡ path → HasBelow tree here i

-- at the root no literal of the path was taken
pub sought_root : (tree : SplitTree) (path : List Literal) → Sought tree path 0 0
sought_root tree path =
    let root : subtree_at tree 0 ≡ tree = subtree-root tree in
    record {
      within = some_node tree;
      path_is = label-root branch [] [] tree;
      below = λ i h e. record { reached = omega arith; before_end = rw root (omega arith) };
    }

-- a path that goes on below a leaf, or on another variable, is no node's
ahead : (tree : SplitTree) (path : List Literal) (here n i : ℕ) (l : Literal) →
    Sought tree path here n → n < length path → l ≡ get_or path n l →
    i < size tree → path_at tree i ≡ path →
    path_at (subtree_at tree here) (i - here) ≡ l ∷ drop (n + 1) path
ahead tree path here n i l s h e w f =
    path_ahead tree here i n path s.within s.path_is (s.below i w f) f
    ∙ (drop_more path n l h ∙ ap (λ (m : Literal). m ∷ drop (n + 1) path) (sym e))

leaf_ends : (t : SplitTree) (r : ℕ) (l : Literal) (rest : List Literal) → IsLeaf t → r < size t →
    path_at t r ≡ l ∷ rest → ⊥
leaf_ends missing zero l rest a h e = cc
leaf_ends missing (suc r) l rest a h e = omega arith
leaf_ends (cube k) zero l rest a h e = cc
leaf_ends (cube k) (suc r) l rest a h e = omega arith
leaf_ends (split v p n) r l rest a h e = a

-- at a leaf that ends before the path does, no node has the path
pub sought_leaf : (tree : SplitTree) (path : List Literal) (here n : ℕ) (l : Literal) →
    Sought tree path here n → n < length path → l ≡ get_or path n l →
    IsLeaf (subtree_at tree here) → (i : ℕ) → i < size tree → path_at tree i ≡ path → ⊥
sought_leaf tree path here n l s h e leaf i w f =
    let b = s.below i w f in
    let reached : here ≤ i = b.reached in
    let end : i < here + size (subtree_at tree here) = b.before_end in
    leaf_ends (subtree_at tree here) (i - here) l (drop (n + 1) path) leaf (omega arith)
    (ahead tree path here n i l s h e w f)

-- where the path goes on with another variable, no node has it
pub sought_other : (tree : SplitTree) (path : List Literal) (here n first second : ℕ)
    (l : Literal) → Sought tree path here n → n < length path →
    l ≡ get_or path n l → AreBranches tree here first second →
    l.variable ≢ split_variable (subtree_at tree here) →
    (i : ℕ) → i < size tree → path_at tree i ≡ path → ⊥
sought_other tree path here n first second l s h e branches other i w f =
    let b = s.below i w f in
    let reached : here ≤ i = b.reached in
    let end : i < here + size (subtree_at tree here) = b.before_end in
    let inside : i < here + size (split branches.variable branches.positive branches.negative) =
    rw branches.is at end in
    let way =
    ways branches.variable branches.positive branches.negative (i - here) l (drop (n + 1) path)
    (omega arith)
    (rw branches.is at (ahead tree path here n i l s h e w f)) in
    other (way.0 ∙ sym (ap split_variable branches.is))

literal_is : (l : Literal) (v : ℕ) (sign : Bool) → l.variable ≡ v → l.positive ≡ sign →
    record { variable = v; positive = sign } ≡ l
literal_is l v sign e f = rw (← e, ← f) refl

leaf_not_split : (t : SplitTree) → IsLeaf t → IsSplit t → ⊥
leaf_not_split missing a b = b
leaf_not_split (cube k) a b = b
leaf_not_split (split v p n) a b = a

-- one literal further down
pub sought_more : (tree : SplitTree) (path : List Literal) (here n first second : ℕ) (l : Literal) →
    Sought tree path here n → n < length path →
    l ≡ get_or path n l → AreBranches tree here first second →
    l.variable ≡ split_variable (subtree_at tree here) →
    (l.positive ≡ true → Sought tree path first (n + 1))
    × (l.positive ≡ false → Sought tree path second (n + 1))
sought_more tree path here n first second l s h e branches same =
    let paths = branch_paths tree here first second s.within branches in
    let variable : l.variable ≡ branches.variable = same ∙ ap split_variable branches.is in
    let w : second < size tree = branches.within in
    let first_is : first ≡ here + 1 = branches.first_is in
    let second_is : second ≡ here + 1 + size branches.positive = branches.second_is in
    let longer : take (n + 1) path ≡ take n path ++ l ∷ [] =
    take_more path n l h ∙ ap (λ (m : Literal). take n path ++ m ∷ []) (sym e) in
    let way = λ (i : ℕ) (k : i < size tree) (f : path_at tree i ≡ path).
    let b = s.below i k f in
    let reached : here ≤ i = b.reached in
    let end : i < here + size (split branches.variable branches.positive branches.negative) =
    rw branches.is at b.before_end in
    ways branches.variable branches.positive branches.negative (i - here) l (drop (n + 1) path)
    (omega arith)
    (rw branches.is at (ahead tree path here n i l s h e k f)) in (
      λ yes. record {
        within = omega arith;
        path_is =
            paths.0
            ∙ rw (s.path_is, longer)
            (ap (λ (m : Literal). take n path ++ m ∷ [])
            (literal_is l branches.variable true variable yes));
        below = λ i k f.
            let b = s.below i k f in
            let reached : here ≤ i = b.reached in
            let r = (way i k f).1 yes in
            record {
              reached = omega (arith, r.0);
              before_end = rw branches.at_first (omega (arith, r.1));
            };
      },
      λ no. record {
        within = w;
        path_is =
            paths.1
            ∙ rw (s.path_is, longer)
            (ap (λ (m : Literal). take n path ++ m ∷ [])
            (literal_is l branches.variable false variable no));
        below = λ i k f.
            let b = s.below i k f in
            let reached : here ≤ i = b.reached in
            let end : i < here
            + size (split branches.variable branches.positive branches.negative) =
            rw branches.is at b.before_end in
            let r = (way i k f).2 no in
            record { reached = omega (arith, r); before_end = rw branches.at_second (omega arith) };
      },
    )

pub sought_end : (tree : SplitTree) (path : List Literal) (here n : ℕ) → Sought tree path here n →
    length path ≤ n → path_at tree here ≡ path
sought_end tree path here n s h = s.path_is ∙ take_all n path h

-- where a leaf has the path, no inner node has it
pub sought_last : (tree : SplitTree) (path : List Literal) (here n : ℕ) → Sought tree path here n →
    length path ≤ n → IsLeaf (subtree_at tree here) →
    (i : ℕ) → i < size tree → IsSplit (subtree_at tree i) → path_at tree i ≡ path → ⊥
sought_last tree path here n s h leaf i w inner f =
    let same : i ≡ here =
    one_node tree i here w s.within (f ∙ sym (sought_end tree path here n s h)) in
    leaf_not_split (subtree_at tree here) leaf (rw same at inner)
