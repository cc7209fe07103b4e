-- The open branches are exactly the wholly open nodes that are the root or whose parents aren't.
use Rattle.std.proofs.Common.{◌≡◌, ℕ, zero, suc, ◌+◌, ◌<◌, ◌≤◌, List, [], ◌∷◌, ◌++◌, length, arith}
use Rattle.std.proofs.Common.{Bool, true, false, not, ◌&&◌, refl, sym, ap, ◌∙◌, subst, inl, inr}
use Rattle.std.specs.Prelude.{slice_index_or}
use Rattle.std.specs.List.{Contains}
use Rattle.std.proofs.lemmas.Bool.{cases_lt, cases_eq, cases_Bool, and_parts, and_from}
use Rattle.std.proofs.lemmas.List.Elements.{Contains-append_left, Contains-append_right}
use Rattle.std.proofs.lemmas.List.Elements.{Contains-append_cases}
use Rattle.split_tree.specs.SplitTree.{SplitTree, missing, cube, split, size, subtree_at}
use Rattle.split_tree.specs.Navigation.{HasBelow, IsParent}
use Rattle.split_tree.proofs.NodesCoding.{branches_at, subtree-root, some_node}
use Rattle.split_tree.proofs.SplitTreeLabels.{nested}
use Rattle.split_tree.proofs.TablesParents.{parent_of, parent_before}
use Rattle.mark_board.specs.Marking.{NodeWithTree, marked, wholly_open, open_branches}
use Rattle.mark_board.specs.Laws.{IsWhollyOpen, IsOpenBranch, OpenBranchesAreAll}
use Rattle.mark_board.proofs.MarkingWalk.{IsClear, clear_start, clear_past, clear_into}
use Rattle.mark_board.proofs.MarkingWalk.{marked_none, whole_one, opened}

-- ---- truth values

not_true : (b : Bool) → not b ≡ true → b ≡ false
not_true true h = let k : false ≡ true = h in absurd (cc)
not_true false h = refl

not_both : (b : Bool) → b ≡ true → b ≡ false → ⊥
not_both true h k = let e : true ≡ false = k in cc
not_both false h k = let e : false ≡ true = h in cc

false_is : (b : Bool) → (b ≡ true → ⊥) → b ≡ false
false_is true h = absurd (h refl)
false_is false h = refl

-- ---- a list of one place, and of none

none : (place : NodeWithTree) → Contains {X = NodeWithTree} [] place → ⊥
none place h = absurd (omega (arith, h.1))

at_one : (one place : NodeWithTree) (k : ℕ) → k < length (one ∷ []) →
    slice_index_or (one ∷ []) k place ≡ place →
    place ≡ one
at_one one place zero l e = sym e
at_one one place (suc k) l e = absurd (omega arith)

only_one : (one place : NodeWithTree) → Contains (one ∷ []) place → place ≡ one
only_one one place h = at_one one place h.0 h.1 h.2

is_in_one : (one place : NodeWithTree) → one ≡ place → Contains (one ∷ []) place
is_in_one one place e = (0, omega arith, e)

same_place : (a b : NodeWithTree) → a.node ≡ b.node → a.tree ≡ b.tree → a ≡ b
same_place a b e f = λ i. record { node = e i; tree = f i }

-- ---- parents

parent_below : (tree : SplitTree) (p c : ℕ) → IsParent tree p c → HasBelow tree p c
parent_below tree p c r =
    let first : r.first ≡ p + 1 = r.branches.first_is in
    let second : r.second ≡ p + 1 + size r.branches.positive = r.branches.second_is in
    let a : 1 ≤ size r.branches.positive = some_node r.branches.positive in
    let b : 1 ≤ size r.branches.negative = some_node r.branches.negative in
    let ends : c < p + suc (size r.branches.positive + size r.branches.negative) =
    elim r.one_of [ inl e ↦ omega (arith, e, first, a) | inr e ↦ omega (arith, e, second, b) ] in
    let before : p < c = parent_before tree p c r in
    record { reached = omega arith; before_end = rw r.branches.is ends }

-- no node lies between a node and its parent
parent_lowest : (tree : SplitTree) (p c j : ℕ) → IsParent tree p c → j < c → HasBelow tree j c →
    j ≤ p
parent_lowest tree p c j r l has = elim (cases_lt p j) [
  | inr least ↦ least
  | inl later ↦
      let first : r.first ≡ p + 1 = r.branches.first_is in
      let second : r.second ≡ p + 1 + size r.branches.positive = r.branches.second_is in
      let within : r.second < size tree = r.branches.within in
      let ends : c < j + size (subtree_at tree j) = has.before_end in
      elim r.one_of [
        | inl e ↦ absurd (omega (arith, e, first, later, l))
        | inr e ↦
            let inside : j < r.first + size (subtree_at tree r.first) =
            rw r.branches.at_first (omega (arith, e, first, second, l)) in
            let whole : j + size (subtree_at tree j) ≤ r.first + size (subtree_at tree r.first) =
            nested tree r.first j (omega (arith, first, later)) inside
            (omega (arith, first, second, within)) in
            let short : j + size (subtree_at tree j) ≤ r.first + size r.branches.positive =
            rw r.branches.at_first at whole in
            absurd (omega (arith, e, first, second, short, ends))
      ]
]

module _ (refuted : ℕ → Bool) (whole : SplitTree) where
  -- ---- a node is wholly open from itself on exactly where nothing from it on is marked

  -- both branches are
  abbrev both : ℕ → SplitTree → SplitTree → Bool
  both node p n = wholly_open refuted (suc node) p && wholly_open refuted (suc (node + size p)) n

  whole_free : (node : ℕ) (t : SplitTree) → wholly_open refuted node t ≡ true →
      marked refuted node t ≡ false
  whole_free node missing w = not_true (refuted node) w
  whole_free node (cube k) w = not_true (refuted node) w
  whole_free node (split v p n) w =
      not_true (marked refuted node (split v p n))
      (and_parts (not (marked refuted node (split v p n))) (both node p n) w).0

  free_here : (node : ℕ) (t : SplitTree) (j : ℕ) → subtree_at whole node ≡ t →
      wholly_open refuted node t ≡ true →
      j ≡ node → marked refuted j (subtree_at whole j) ≡ false
  free_here node t j s w e =
      let at : subtree_at whole j ≡ t = ap (λ (q : ℕ). subtree_at whole q) e ∙ s in
      let free : marked refuted node t ≡ false = whole_free node t w in
      rw (at, e) free

  under_free : (node : ℕ) (t : SplitTree) → node < size whole → subtree_at whole node ≡ t →
      wholly_open refuted node t ≡ true → (j : ℕ) → node ≤ j → j < node + size t →
      marked refuted j (subtree_at whole j) ≡ false
  under_free node missing l s w j a b = free_here node missing j s w (omega arith)
  under_free node (cube k) l s w j a b = free_here node (cube k) j s w (omega arith)
  under_free node (split v p n) l s w j a b = elim (cases_eq j node) [
    | inl e ↦ free_here node (split v p n) j s w e
    | inr ne ↦
        let c = branches_at whole node v p n l s in
        let within : node + suc (size p + size n) ≤ size whole = c.within in
        let parts =
        and_parts (wholly_open refuted (suc node) p) (wholly_open refuted (suc (node + size p)) n)
        (and_parts (not (marked refuted node (split v p n))) (both node p n) w).1 in
        let second_inside : suc (node + size p) < size whole = omega (arith, some_node n) in
        let later : suc node ≤ j = omega (arith, ne) in
        elim (cases_lt j (suc (node + size p))) [
          | inl first ↦ under_free (suc node) p (omega arith) c.positive parts.0 j later
              (omega arith)
          | inr second ↦ under_free (suc (node + size p)) n second_inside c.negative parts.1 j
              second (omega arith)
        ]
  ]

  free_under : (node : ℕ) (t : SplitTree) → node < size whole → subtree_at whole node ≡ t →
      ((j : ℕ) → node ≤ j → j < node + size t → marked refuted j (subtree_at whole j) ≡ false) →
      wholly_open refuted node t ≡ true
  free_under node missing l s free =
      let here : refuted node ≡ false = rw s at (free node (omega arith) (omega arith)) in
      rw here refl
  free_under node (cube k) l s free =
      let here : refuted node ≡ false = rw s at (free node (omega arith) (omega arith)) in
      rw here refl
  free_under node (split v p n) l s free =
      let c = branches_at whole node v p n l s in
      let within : node + suc (size p + size n) ≤ size whole = c.within in
      let here : marked refuted node (split v p n) ≡ false =
      rw s at (free node (omega arith) (omega arith)) in
      let second_inside : suc (node + size p) < size whole = omega (arith, some_node n) in
      and_from (not (marked refuted node (split v p n))) (both node p n) (rw here refl)
      (and_from (wholly_open refuted (suc node) p) (wholly_open refuted (suc (node + size p)) n)
      (free_under (suc node) p (omega arith) c.positive
      (λ j a b. free j (omega arith) (omega arith)))
      (free_under (suc (node + size p)) n second_inside c.negative
      (λ j a b. free j (omega arith) (omega arith))))

  -- ---- what is listed, as the walk over the tree comes to it

  -- the place is among those that the walk lists from this node on
  abbrev Lists : ℕ → SplitTree → NodeWithTree → Type 0
  Lists node t place = Contains (open_branches refuted node t) place

  to_list : (node : ℕ) (t : SplitTree) (list : List NodeWithTree) (place : NodeWithTree) →
      open_branches refuted node t ≡ list →
      Contains list place → Lists node t place
  to_list node t list place e h = subst (λ (xs : List NodeWithTree). Contains xs place) (sym e) h

  of_list : (node : ℕ) (t : SplitTree) (list : List NodeWithTree) (place : NodeWithTree) →
      open_branches refuted node t ≡ list →
      Lists node t place → Contains list place
  of_list node t list place e h = subst (λ (xs : List NodeWithTree). Contains xs place) e h

  record IsListed (place : NodeWithTree) : Type 0 where
    pub within : place.node < size whole
    pub below : place.tree ≡ subtree_at whole place.node
    pub clear : IsClear refuted whole place.node
    pub free : marked refuted place.node (subtree_at whole place.node) ≡ false
    pub entire : wholly_open refuted place.node (subtree_at whole place.node) ≡ true

  listed_here : (node : ℕ) (t : SplitTree) (place : NodeWithTree) → node < size whole →
      subtree_at whole node ≡ t →
      IsClear refuted whole node → marked refuted node t ≡ false →
      wholly_open refuted node t ≡ true →
      Lists node t place → IsListed place
  listed_here node t place l s c f w h =
      let here : NodeWithTree = record { node = node; tree = t } in
      let same : place ≡ here =
      only_one here place (of_list node t (here ∷ []) place (whole_one refuted node t f w) h) in
      subst (λ (q : NodeWithTree). IsListed q) (sym same)
      (record { within = l; below = sym s; clear = c; free = rw s f; entire = rw s w })

  listed_none : (node : ℕ) (t : SplitTree) (place : NodeWithTree) → marked refuted node t ≡ true →
      Lists node t place → ⊥
  listed_none node t place m h =
      none place (of_list node t [] place (marked_none refuted node t m) h)

  listed_is : (node : ℕ) (t : SplitTree) → node < size whole → subtree_at whole node ≡ t →
      IsClear refuted whole node → (place : NodeWithTree) → Lists node t place → IsListed place
  listed_is node missing l s c place h = elim (cases_Bool (refuted node)) [
    | inl m ↦ absurd (listed_none node missing place m h)
    | inr f ↦ listed_here node missing place l s c f (rw f refl) h
  ]
  listed_is node (cube k) l s c place h = elim (cases_Bool (refuted node)) [
    | inl m ↦ absurd (listed_none node (cube k) place m h)
    | inr f ↦ listed_here node (cube k) place l s c f (rw f refl) h
  ]
  listed_is node (split v p n) l s c place h =
      elim (cases_Bool (marked refuted node (split v p n))) [
        | inl m ↦ absurd (listed_none node (split v p n) place m h)
        | inr f ↦ elim (cases_Bool (wholly_open refuted node (split v p n))) [
          | inl w ↦ listed_here node (split v p n) place l s c f w h
          | inr part ↦
              let b = branches_at whole node v p n l s in
              let within : node + suc (size p + size n) ≤ size whole = b.within in
              let first_inside : suc node < size whole = omega (arith, some_node p, some_node n) in
              let at : suc node + size p ≡ suc (node + size p) = omega arith in
              let first_clear = clear_into refuted whole node c (rw s f) (rw s part) in
              let second_clear : IsClear refuted whole (suc (node + size p)) =
              rw (b.positive, at) at
              (clear_past refuted whole (suc node) first_inside first_clear) in
              let second_inside : suc (node + size p) < size whole = omega (arith, some_node n) in
              let firsts : List NodeWithTree = open_branches refuted (suc node) p in
              let seconds : List NodeWithTree = open_branches refuted (suc (node + size p)) n in
              let lists = of_list node (split v p n) (firsts ++ seconds) place
              (opened refuted node v p n (split v p n) refl f part) h in
              elim (Contains-append_cases firsts seconds place lists) [
                | inl first ↦ listed_is (suc node) p first_inside b.positive first_clear place first
                | inr second ↦ listed_is (suc (node + size p)) n second_inside b.negative
                    second_clear
                    place second
              ]
        ]
      ]

  has_here : (node : ℕ) (t : SplitTree) (place : NodeWithTree) → subtree_at whole node ≡ t →
      IsListed place →
      place.node ≡ node → Lists node t place
  has_here node t place s is e =
      let at : subtree_at whole place.node ≡ t = ap (λ (q : ℕ). subtree_at whole q) e ∙ s in
      let free : marked refuted node t ≡ false = rw (at, e) at is.free in
      let entire : wholly_open refuted node t ≡ true = rw (at, e) at is.entire in
      let here : NodeWithTree = record { node = node; tree = t } in
      let same : here ≡ place = same_place here place (sym e) (sym at ∙ sym is.below) in
      to_list node t (here ∷ []) place (whole_one refuted node t free entire)
      (is_in_one here place same)

  listed_has : (node : ℕ) (t : SplitTree) → node < size whole → subtree_at whole node ≡ t →
      (place : NodeWithTree) →
      IsListed place → node ≤ place.node → place.node < node + size t → Lists node t place
  listed_has node missing l s place is a b = has_here node missing place s is (omega arith)
  listed_has node (cube k) l s place is a b = has_here node (cube k) place s is (omega arith)
  listed_has node (split v p n) l s place is a b = elim (cases_eq place.node node) [
    | inl e ↦ has_here node (split v p n) place s is e
    | inr ne ↦
        let c = branches_at whole node v p n l s in
        let within : node + suc (size p + size n) ≤ size whole = c.within in
        let has : HasBelow whole node place.node = record { reached = a; before_end = rw s b } in
        let off = rw s at (is.clear node (omega (arith, ne)) has) in
        let second_inside : suc (node + size p) < size whole = omega (arith, some_node n) in
        let firsts : List NodeWithTree = open_branches refuted (suc node) p in
        let seconds : List NodeWithTree = open_branches refuted (suc (node + size p)) n in
        to_list node (split v p n) (firsts ++ seconds) place
        (opened refuted node v p n (split v p n) refl off.0 off.1)
        (elim (cases_lt place.node (suc (node + size p))) [
          | inl first ↦
              Contains-append_left firsts seconds place
              (listed_has (suc node) p (omega arith) c.positive place is (omega (arith, ne))
              (omega arith))
          | inr second ↦
              Contains-append_right firsts seconds place
              (listed_has (suc (node + size p)) n second_inside c.negative place is second
              (omega arith))
        ])
  ]

  -- ---- both are one

  branch_of : (place : NodeWithTree) → IsListed place → IsOpenBranch refuted whole place
  branch_of place is = record {
    within = is.within;
    below = is.below;
    whole = λ other lies. elim lies [
      | inl above ↦ elim (cases_eq other place.node) [
        | inl e ↦ rw e is.free
        | inr ne ↦ (is.clear other (let r : other ≤ place.node = above.reached in omega (arith, ne))
            above).0
      ]
      | inr under ↦
          under_free place.node (subtree_at whole place.node) is.within refl is.entire other
          under.reached under.before_end
    ];
    highest = λ parent child entire.
        let before : parent < place.node = parent_before whole parent place.node child in
        let inside : place.node < size whole = is.within in
        let w = free_under parent (subtree_at whole parent) (omega arith) refl
        (λ j a b. entire j (inr (record { reached = a; before_end = b }))) in
        not_both (wholly_open refuted parent (subtree_at whole parent)) w
        (is.clear parent before (parent_below whole parent place.node child)).1;
  }

  -- where a node above a wholly open one is wholly open from itself on, the parent is wholly open
  parent_open : (node parent j : ℕ) → node < size whole → IsWhollyOpen refuted whole node →
      IsParent whole parent node → j < node → HasBelow whole j node →
      wholly_open refuted j (subtree_at whole j) ≡ true → IsWhollyOpen refuted whole parent
  parent_open node parent j l entire child less has w other lies =
      let before : parent < node = parent_before whole parent node child in
      let least : j ≤ parent = parent_lowest whole parent node j child less has in
      let ends : node < j + size (subtree_at whole j) = has.before_end in
      let family : node < parent + size (subtree_at whole parent) =
      (parent_below whole parent node child).before_end in
      elim lies [
        | inl above ↦
            let reached : other ≤ parent = above.reached in
            let more : parent + size (subtree_at whole parent)
            ≤ other + size (subtree_at whole other) =
            nested whole other parent above.reached above.before_end (omega arith) in
            entire other (inl (record { reached = omega arith; before_end = omega arith }))
        | inr under ↦
            let reached : parent ≤ other = under.reached in
            let stays : other < parent + size (subtree_at whole parent) = under.before_end in
            let more : parent + size (subtree_at whole parent) ≤ j + size (subtree_at whole j) =
            nested whole j parent least (omega arith) (omega arith) in
            under_free j (subtree_at whole j) (omega arith) refl w other (omega arith) (omega arith)
      ]

  listed_of : (place : NodeWithTree) → IsOpenBranch refuted whole place → IsListed place
  listed_of place is =
      let inside : place.node < size whole = is.within in
      record {
        within = is.within;
        below = is.below;
        clear = λ j less has. (
          is.whole j (inl has),
          false_is (wholly_open refuted j (subtree_at whole j)) (λ w.
              let p = parent_of whole place.node (omega arith) is.within in
              is.highest p.0 p.1 (parent_open place.node p.0 j is.within is.whole p.1 less has w)),
        );
        free = is.whole place.node (inl (record {
          reached = omega arith;
          before_end = omega (arith, some_node (subtree_at whole place.node));
        }));
        entire = free_under place.node (subtree_at whole place.node) is.within refl
            (λ j a b. is.whole j (inr (record { reached = a; before_end = b })));
      }

  all_listed : (place : NodeWithTree) → Lists 0 whole place → IsOpenBranch refuted whole place
  all_listed place h =
      let some : 0 < size whole = some_node whole in
      branch_of place
      (listed_is 0 whole some (subtree-root whole) (clear_start refuted whole) place h)

  all_stand : (place : NodeWithTree) → IsOpenBranch refuted whole place → Lists 0 whole place
  all_stand place is =
      let some : 0 < size whole = some_node whole in
      let inside : place.node < size whole = is.within in
      listed_has 0 whole some (subtree-root whole) place (listed_of place is) (omega arith)
      (omega arith)

-- the open branches are all wholly open nodes whose parents aren't
pub are_all : OpenBranchesAreAll
are_all refuted tree place = (all_listed refuted tree place, all_stand refuted tree place)
