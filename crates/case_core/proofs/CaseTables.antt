-- The table of the sections' places, one section after the other.
use Rattle.std.proofs.Common.{◌≡◌, ◌≢◌, ℕ, zero, suc, ◌+◌, ◌-◌, ◌<◌, ◌≤◌, List, [], ◌∷◌, ◌++◌, true}
use Rattle.std.proofs.Common.{false, length, get_or, map, refl, sym, ◌∙◌, ap, subst, arith, Option}
use Rattle.std.proofs.Common.{Some, None, inl, inr}
use Rattle.std.specs.Prelude.{count_by, replicate, slice_set as set, if◌then◌else◌}
use Rattle.std.proofs.lemmas.Bool.{cases_Bool, cases_eq, eq-eqb, eqb-true, ne_eqb}
use Rattle.std.proofs.lemmas.List.{length-set, length-append, length-replicate, get_or-set_same}
use Rattle.std.proofs.lemmas.List.{get_or-set_other, get_or_append_left, get_or_at, length-map}
use Rattle.std.proofs.lemmas.List.{map-append}
use Rattle.std.proofs.lemmas.List.Sums.{sum_by-set, count_by-le-length}
use Rattle.split_tree.specs.SplitTree.{SplitTree, missing, cube, split, size, subtrees, subtree_at}
use Rattle.split_tree.specs.SplitTree.{IsSplit}
use Rattle.split_tree.specs.Leaves.{IsTargetAt, HasTarget, missing_from, missing_nodes}
use Rattle.split_tree.proofs.LeavesNodes.{missing_is, missing_at}
use Rattle.split_tree.specs.declared.node.Leaf.TheVariants.{Cube, Missing}
use Rattle.split_tree.specs.declared.node.Target.{Target}
use Rattle.split_tree.specs.declared.node.Target.TheVariants.{Leaf, Node}
use Rattle.case_core.specs.Case.{SectionOf, section_in, same_target, proof_for, section_at}
use Rattle.case_core.specs.Case.{targets_of, AreSections}
use Rattle.case_core.specs.Inner.Case.{section_by, AreTabled}
use Rattle.case_core.specs.declared.case.Section.{Section}
use Rattle.case_core.specs.Inner.Sections.{is_place, AreKept}

-- each target is the same as itself
pub same_target-self : (t : Target) → same_target t t ≡ true
same_target-self (Leaf (Cube k)) = eq-eqb k k refl
same_target-self (Leaf (Missing k)) = eq-eqb k k refl
same_target-self (Node k) = eq-eqb k k refl

-- targets that are found the same are equal
pub same_target-true : (a b : Target) → same_target a b ≡ true → a ≡ b
same_target-true (Leaf (Cube k)) (Leaf (Cube j)) h = ap (λ n. Leaf (Cube n)) (eqb-true k j h)
same_target-true (Leaf (Missing k)) (Leaf (Missing j)) h =
    ap (λ n. Leaf (Missing n)) (eqb-true k j h)
same_target-true (Node k) (Node j) h = ap Node (eqb-true k j h)
same_target-true (Leaf (Cube k)) (Leaf (Missing j)) h = absurd (cc)
same_target-true (Leaf (Missing k)) (Leaf (Cube j)) h = absurd (cc)
same_target-true (Leaf leaf) (Node j) h = absurd (cc)
same_target-true (Node k) (Leaf leaf) h = absurd (cc)

-- missing leaves' nodes rise
missing_past : (n : ℕ) (trees : List SplitTree) (k : ℕ) → k < length (missing_from n trees) →
    n ≤ get_or (missing_from n trees) k 0
missing_past n trees k h =
    let r = missing_is n trees k h in let e : get_or (missing_from n trees) k 0 ≡ n + r.0 = r.2 in
    omega arith

missing_rises : (n : ℕ) (trees : List SplitTree) (i j : ℕ) → i < j →
    j < length (missing_from n trees) →
    get_or (missing_from n trees) i 0 < get_or (missing_from n trees) j 0
missing_rises n [] i j l h = absurd (omega arith)
missing_rises n (missing ∷ trees) i zero l h = absurd (omega arith)
missing_rises n (missing ∷ trees) zero (suc j) l h =
    let a : suc n ≤ get_or (missing_from (suc n) trees) j 0 =
    missing_past (suc n) trees j (omega arith) in omega arith
missing_rises n (missing ∷ trees) (suc i) (suc j) l h =
    missing_rises (suc n) trees i j (omega arith) (omega arith)
missing_rises n (cube k ∷ trees) i j l h = missing_rises (suc n) trees i j l h
missing_rises n (split v p q ∷ trees) i j l h = missing_rises (suc n) trees i j l h

one_missing : (nodes : List ℕ) (i j : ℕ) →
    ((a b : ℕ) → a < b → b < length nodes → get_or nodes a 0 < get_or nodes b 0) → 1 ≤ i →
    i ≤ length nodes → 1 ≤ j → j ≤ length nodes
    → get_or nodes (i - 1) 0 ≡ get_or nodes (j - 1) 0 → (i ≡ j → ⊥) → i < j → ⊥
one_missing nodes i j rise a b c d e other less =
    let r : get_or nodes (i - 1) 0 < get_or nodes (j - 1) 0 =
    rise (i - 1) (j - 1) (omega arith) (omega arith) in omega arith

same_missing : (nodes : List ℕ) (i j : ℕ) →
    ((a b : ℕ) → a < b → b < length nodes → get_or nodes a 0 < get_or nodes b 0) → 1 ≤ i →
    i ≤ length nodes → 1 ≤ j → j ≤ length nodes
    → get_or nodes (i - 1) 0 ≡ get_or nodes (j - 1) 0 → i ≡ j
same_missing nodes i j rise a b c d e = elim (cases_eq i j) [
  | inl h ↦ h
  | inr other ↦
      let up : i < j → ⊥ = one_missing nodes i j rise a b c d e other in
      let down : j < i → ⊥ = one_missing nodes j i rise c d a b (sym e) (λ h. other (sym h)) in
      omega (arith, up, down)
]

same_cube : (t : SplitTree) (k j : ℕ) → t ≡ cube k → t ≡ cube j → k ≡ j
same_cube t k j a b = let e : cube k ≡ cube j = sym a ∙ b in cc

no_cube_missing : (t : SplitTree) (k : ℕ) → t ≡ cube k → t ≡ missing → ⊥
no_cube_missing t k a b = let e : cube k ≡ missing = sym a ∙ b in cc

missing_here : (tree : SplitTree) (node j : ℕ) → IsTargetAt tree node (Leaf (Missing j)) →
    subtree_at tree node ≡ missing
missing_here tree node j h = ap (subtree_at tree) h.2 ∙ (missing_at tree j h.0 h.1).1

-- one target stands at a node
pub one_target : (tree : SplitTree) (node : ℕ) (a b : Target) → IsTargetAt tree node a →
    IsTargetAt tree node b → a ≡ b
one_target tree node (Leaf (Cube k)) (Leaf (Cube j)) x y =
    ap (λ n. Leaf (Cube n)) (same_cube (subtree_at tree node) k j x.1 y.1)
one_target tree node (Leaf (Cube k)) (Leaf (Missing j)) x y =
    absurd (no_cube_missing (subtree_at tree node) k x.1 (missing_here tree node j y))
one_target tree node (Leaf (Cube k)) (Node j) x y = absurd (subst IsSplit x.1 y.2)
one_target tree node (Leaf (Missing k)) (Leaf (Cube j)) x y =
    absurd (no_cube_missing (subtree_at tree node) j y.1 (missing_here tree node k x))
one_target tree node (Leaf (Missing k)) (Leaf (Missing j)) x y =
    ap (λ n. Leaf (Missing n))
    (same_missing (missing_nodes tree) k j (λ a b l h. missing_rises 0 (subtrees tree) a b l h) x.0
    x.1 y.0 y.1 (sym x.2 ∙ y.2))
one_target tree node (Leaf (Missing k)) (Node j) x y =
    absurd (subst IsSplit (missing_here tree node k x) y.2)
one_target tree node (Node k) (Leaf (Cube j)) x y = absurd (subst IsSplit y.1 x.2)
one_target tree node (Node k) (Leaf (Missing j)) x y =
    absurd (subst IsSplit (missing_here tree node j y) x.2)
one_target tree node (Node k) (Node j) x y = ap Node (sym x.0 ∙ y.0)

-- ---- the first section of a target

pub proof_here : (s : SectionOf) (sections : List SectionOf) (target : Target) →
    same_target s.target target ≡ true → proof_for (s ∷ sections) target ≡ Some s.proof
proof_here s sections target h = rw h refl

pub proof_past : (s : SectionOf) (sections : List SectionOf) (target : Target) →
    same_target s.target target ≡ false →
    proof_for (s ∷ sections) target ≡ proof_for sections target
proof_past s sections target h = rw h refl

some_is_none : (p : List ℕ) (o : Option (List ℕ)) → o ≡ Some p → o ≡ None → ⊥
some_is_none p o a b = let e : Some p ≡ None = sym a ∙ b in cc

pub none_before : (sections : List SectionOf) (target : Target) → proof_for sections target ≡ None →
    (j : ℕ) → j < length sections → same_target (section_at sections j).target target ≡ false
none_before [] target none j l = absurd (omega arith)
none_before (s ∷ sections) target none zero l = elim (cases_Bool (same_target s.target target)) [
  | inl h ↦ absurd (some_is_none s.proof _ (proof_here s sections target h) none)
  | inr h ↦ h
]
none_before (s ∷ sections) target none (suc j) l = elim (cases_Bool (same_target s.target target)) [
  | inl h ↦ absurd (some_is_none s.proof _ (proof_here s sections target h) none)
  | inr h ↦ none_before sections target (sym (proof_past s sections target h) ∙ none) j
      (omega arith)
]

-- a target for which no section stands has no proof
pub none_from : (sections : List SectionOf) (target : Target) →
    ((j : ℕ) → j < length sections → same_target (section_at sections j).target target ≡ false) →
    proof_for sections target ≡ None
none_from [] target apart = refl
none_from (s ∷ sections) target apart =
    proof_past s sections target (apart 0 (omega arith))
    ∙ none_from sections target (λ j l. apart (suc j) (omega arith))

-- a section added for a target without a proof gives that target its proof
pub proof_added : (sections : List SectionOf) (s : SectionOf) → proof_for sections s.target ≡ None →
    proof_for (sections ++ s ∷ []) s.target ≡ Some s.proof
proof_added [] s none = proof_here s [] s.target (same_target-self s.target)
proof_added (t ∷ sections) s none = elim (cases_Bool (same_target t.target s.target)) [
  | inl h ↦ absurd (some_is_none t.proof _ (proof_here t sections s.target h) none)
  | inr h ↦ proof_past t (sections ++ s ∷ []) s.target h
      ∙ proof_added sections s (sym (proof_past t sections s.target h) ∙ none)
]

-- a section added for one target leaves the proof of each other as it was
pub proof_kept : (sections : List SectionOf) (s : SectionOf) (target : Target) →
    same_target s.target target ≡ false →
    proof_for (sections ++ s ∷ []) target ≡ proof_for sections target
proof_kept [] s target other = proof_past s [] target other
proof_kept (t ∷ sections) s target other = elim (cases_Bool (same_target t.target target)) [
  | inl h ↦ proof_here t (sections ++ s ∷ []) target h ∙ sym (proof_here t sections target h)
  | inr h ↦ proof_past t (sections ++ s ∷ []) target h ∙ proof_kept sections s target other
      ∙ sym (proof_past t sections target h)
]

-- ---- the sections with one more

at_left : (sections : List SectionOf) (s : SectionOf) (i : ℕ) → i < length sections →
    section_at (sections ++ s ∷ []) i ≡ section_at sections i
at_left sections s i l = get_or_append_left sections (s ∷ []) _ i l

at_last : (sections : List SectionOf) (s : SectionOf) →
    section_at (sections ++ s ∷ []) (length sections) ≡ s
at_last sections s = get_or_at sections s [] _ (length sections) refl

apart_at : (sections : List SectionOf) (s : SectionOf) (j : ℕ) → j < length sections →
    (target : Target) → same_target (section_at sections j).target target ≡ false →
    same_target (section_at (sections ++ s ∷ []) j).target target ≡ false
apart_at sections s j l target h = rw (at_left sections s j l) h

-- one more section, for a target of the tree that had none
pub sections_more : (tree : SplitTree) (sections : List SectionOf) (s : SectionOf) →
    AreSections tree sections → HasTarget tree s.target → proof_for sections s.target ≡ None →
    AreSections tree (sections ++ s ∷ [])
sections_more tree sections s are has none i l =
    let long : length (sections ++ s ∷ []) ≡ length sections + 1 =
    length-append sections (s ∷ []) in
    elim (cases_eq i (length sections)) [
      | inl e ↦ subst
          (λ (n : ℕ). HasTarget tree (section_at (sections ++ s ∷ []) n).target
          × ((j : ℕ) → j < n →
          same_target (section_at (sections ++ s ∷ []) j).target
          (section_at (sections ++ s ∷ []) n).target ≡ false)) (sym e)
          (subst (λ (x : SectionOf). HasTarget tree x.target
          × ((j : ℕ) → j < length sections →
          same_target (section_at (sections ++ s ∷ []) j).target x.target ≡ false))
          (sym (at_last sections s))
          (has, λ j h. apart_at sections s j h s.target (none_before sections s.target none j h)))
      | inr other ↦
          let less : i < length sections = omega arith in
          subst (λ (x : SectionOf). HasTarget tree x.target
          × ((j : ℕ) → j < i →
          same_target (section_at (sections ++ s ∷ []) j).target x.target ≡ false))
          (sym (at_left sections s i less)) (
            (are i less).0,
            λ j h. apart_at sections s j (omega arith) (section_at sections i).target
                ((are i less).1 j h),
          )
    ]

pub by_place : (sections : List SectionOf) (p : ℕ) →
    section_by sections (suc p) ≡ Some (section_at sections p).proof
by_place sections p =
    let some : suc p ≡ 0 → ⊥ = λ z. absurd (omega arith) in
    let e : suc p - 1 ≡ p = omega arith in rw (ne_eqb (suc p) 0 some, e) refl

place_kept : (sections : List SectionOf) (s : SectionOf) (place : ℕ) → place ≤ length sections →
    section_by (sections ++ s ∷ []) place ≡ section_by sections place
place_kept sections s zero l = refl
place_kept sections s (suc p) l =
    by_place (sections ++ s ∷ []) p
    ∙ ap (λ (x : SectionOf). Some x.proof) (at_left sections s p (omega arith))
    ∙ sym (by_place sections p)

place_added : (sections : List SectionOf) (s : SectionOf) →
    section_by (sections ++ s ∷ []) (suc (length sections)) ≡ Some s.proof
place_added sections s =
    by_place (sections ++ s ∷ []) (length sections)
    ∙ ap (λ (x : SectionOf). Some x.proof) (at_last sections s)

pub other_target : (tree : SplitTree) (node : ℕ) (s target : Target) (at : ℕ) →
    ((i : ℕ) → IsTargetAt tree i s → i ≡ node) → IsTargetAt tree at target → at ≢ node →
    same_target s target ≡ false
other_target tree node s target at only here other = elim (cases_Bool (same_target s target)) [
  | inl h ↦ absurd
      (other (only at
      (subst (λ (t : Target). IsTargetAt tree at t) (sym (same_target-true s target h)) here)))
  | inr h ↦ h
]

found_more : (tree : SplitTree) (sections : List SectionOf) (places : List ℕ) (s : SectionOf)
    (node : ℕ) → AreTabled tree sections places → proof_for sections s.target ≡ None
    → node < length places → IsTargetAt tree node s.target →
    ((i : ℕ) → IsTargetAt tree i s.target → i ≡ node)
    → (target : Target) (at : ℕ) → IsTargetAt tree at target →
    proof_for (sections ++ s ∷ []) target
    ≡ section_by (sections ++ s ∷ []) (get_or (set places node (suc (length sections))) at 0)
found_more tree sections places s node t none within here only target at is =
    elim (cases_eq at node) [
      | inl e ↦
          let same : target ≡ s.target =
          one_target tree node target s.target (subst (λ (n : ℕ). IsTargetAt tree n target) e is)
          here in
          rw (same, e, get_or-set_same places node (suc (length sections)) 0 within)
          (proof_added sections s none ∙ sym (place_added sections s))
      | inr other ↦
          rw (get_or-set_other places node at (suc (length sections)) 0 other)
          (proof_kept sections s target (other_target tree node s.target target at only is other)
          ∙ t.found target at is ∙ sym (place_kept sections s (get_or places at 0) (t.within at)))
    ]

-- a place in the table before the last section's is that of a section with the target
placed_before : (sections : List SectionOf) (s : SectionOf) (target : Target) (place : ℕ) →
    place ≤ length sections → place ≢ 0 → (section_at sections (place - 1)).target ≡ target →
    (section_at (sections ++ s ∷ []) (place - 1)).target ≡ target
placed_before sections s target place l some is =
    let less : place - 1 < length sections = omega arith in
    ap (λ (x : SectionOf). x.target) (at_left sections s (place - 1) less) ∙ is

placed_last : (sections : List SectionOf) (s : SectionOf) (place : ℕ) →
    place ≡ suc (length sections) →
    (section_at (sections ++ s ∷ []) (place - 1)).target ≡ s.target
placed_last sections s place e =
    let at : place - 1 ≡ length sections = omega arith in
    ap (λ (n : ℕ). (section_at (sections ++ s ∷ []) n).target) at
    ∙ ap (λ (x : SectionOf). x.target) (at_last sections s)

placed_more : (tree : SplitTree) (sections : List SectionOf) (places : List ℕ) (s : SectionOf)
    (node : ℕ) → AreTabled tree sections places → node < length places →
    IsTargetAt tree node s.target
    → (target : Target) (at : ℕ) → IsTargetAt tree at target →
    get_or (set places node (suc (length sections))) at 0 ≢ 0
    → (section_at (sections ++ s ∷ [])
    (get_or (set places node (suc (length sections))) at 0 - 1)).target ≡ target
placed_more tree sections places s node t within here target at is some =
    elim (cases_eq at node) [
      | inl e ↦
          let same : target ≡ s.target =
          one_target tree node target s.target (subst (λ (n : ℕ). IsTargetAt tree n target) e is)
          here in
          placed_last sections s (get_or (set places node (suc (length sections))) at 0)
          (ap (λ (n : ℕ). get_or (set places node (suc (length sections))) n 0) e
          ∙ get_or-set_same places node (suc (length sections)) 0 within)
          ∙ sym same
      | inr other ↦
          let same : get_or (set places node (suc (length sections))) at 0 ≡ get_or places at 0 =
          get_or-set_other places node at (suc (length sections)) 0 other in
          subst (λ (p : ℕ). (section_at (sections ++ s ∷ []) (p - 1)).target ≡ target) (sym same)
          (placed_before sections s target (get_or places at 0) (t.within at)
          (λ z. some (same ∙ z)) (t.placed target at is (λ z. some (same ∙ z))))
    ]

within_more : (places : List ℕ) (node n at : ℕ) → node < length places → get_or places at 0 ≤ n →
    get_or (set places node (suc n)) at 0 ≤ n + 1
within_more places node n at within l = elim (cases_eq at node) [
  | inl e ↦ rw (e, get_or-set_same places node (suc n) 0 within) (omega arith)
  | inr other ↦ rw (get_or-set_other places node at (suc n) 0 other) (omega arith)
]

free_counts : (place : ℕ) → place ≡ 0 → ◌≡◌ {A = ℕ} (if is_place place then 1 else 0) 0
free_counts place e = rw e refl

place_counts : (n : ℕ) → ◌≡◌ {A = ℕ} (if is_place (suc n) then 1 else 0) 1
place_counts n =
    let some : suc n ≡ 0 → ⊥ = λ z. absurd (omega arith) in rw (ne_eqb (suc n) 0 some) refl

count_more : (places : List ℕ) (node n : ℕ) → node < length places → get_or places node 0 ≡ 0 →
    count_by is_place (set places node (suc n)) ≡ count_by is_place places + 1
count_more places node n within none =
    let e : count_by is_place (set places node (suc n))
    + (if is_place (get_or places node 0) then 1 else 0)
    ≡ count_by is_place places + (if is_place (suc n) then 1 else 0) =
    sum_by-set (λ (p : ℕ). if is_place p then 1 else 0) places node (suc n) 0 within in
    let z = free_counts (get_or places node 0) none in
    let o = place_counts n in omega arith

pub kept_more : (tree : SplitTree) (sections : List SectionOf) (places : List ℕ) (s : SectionOf)
    (node : ℕ) → AreKept tree sections places → get_or places node 0 ≡ 0
    → node < size tree → IsTargetAt tree node s.target →
    ((i : ℕ) → IsTargetAt tree i s.target → i ≡ node) →
    AreKept tree (sections ++ s ∷ []) (set places node (suc (length sections)))
kept_more tree sections places s node k free within here only =
    let none : proof_for sections s.target ≡ None =
    k.tabled.found s.target node here ∙ ap (section_by sections) free in
    let inside : node < length places = omega (arith, k.tabled.long) in
    let long : length (sections ++ s ∷ []) ≡ length sections + 1 =
    length-append sections (s ∷ []) in record {
      are_sections = sections_more tree sections s k.are_sections (node, here) none;
      tabled = record {
        long = length-set places node (suc (length sections)) ∙ k.tabled.long;
        within =
            λ at. rw long
            (within_more places node (length sections) at inside (k.tabled.within at));
        found = found_more tree sections places s node k.tabled none inside here only;
        placed = placed_more tree sections places s node k.tabled inside here;
      };
      counted =
          long ∙ ap (λ n. n + 1) k.counted
          ∙ sym (count_more places node (length sections) inside free);
    }

zeros : (n at : ℕ) → ◌≡◌ {A = ℕ} (get_or (replicate {A = ℕ} n 0) at 0) 0
zeros zero at = refl
zeros (suc n) zero = refl
zeros (suc n) (suc at) = zeros n at

no_places : (n : ℕ) → 0 ≡ count_by is_place (replicate n 0)
no_places zero = refl
no_places (suc n) = no_places n

-- of no sections no place is kept
pub nothing_kept : (tree : SplitTree) (n : ℕ) → n ≡ size tree → AreKept tree [] (replicate n 0)
nothing_kept tree n e = record {
  are_sections = λ i l. absurd (omega arith);
  tabled = record {
    long = length-replicate n 0 ∙ e;
    within = λ at. rw (zeros n at) (omega arith);
    found = λ target at is. rw (zeros n at) refl;
    placed = λ target at is some. absurd (some (zeros n at));
  };
  counted = no_places n;
}

pub few_sections : (tree : SplitTree) (sections : List SectionOf) (places : List ℕ) →
    AreKept tree sections places → length sections ≤ length places
few_sections tree sections places k = omega (arith, k.counted, count_by-le-length is_place places)

-- sections of a text have the targets that they were kept with
pub targets_in : (text : List ℕ) (sections : List Section)
    → map (λ section. section.target) sections ≡ targets_of (map (section_in text) sections)
targets_in text [] = refl
targets_in text (section ∷ sections) =
    ap (λ targets. section.target ∷ targets) (targets_in text sections)

-- one more section is kept at its node's place
pub kept_pushed : (tree : SplitTree) (text : List ℕ) (old new : List Section) (s : Section)
    (places : List ℕ) (node index len : ℕ) → AreKept tree (map (section_in text) old) places →
    new ≡ old ++ s ∷ []
    → len ≡ length new → index ≡ node → get_or places index 0 ≡ 0 → node < size tree →
    IsTargetAt tree node s.target → ((i : ℕ) → IsTargetAt tree i s.target → i ≡ node)
    → AreKept tree (map (section_in text) new) (set places index len)
kept_pushed tree text old new s places node index len k e counted is free within here only =
    let items : map (section_in text) new ≡ map (section_in text) old ++ section_in text s ∷ [] =
    ap (map (section_in text)) e ∙ map-append (section_in text) old (s ∷ []) in
    let long : length new ≡ length old + 1 = ap length e ∙ length-append old (s ∷ []) in
    let n : len ≡ suc (length (map (section_in text) old)) =
    omega (arith, length-map old (section_in text)) in
    let at : get_or places node 0 ≡ 0 = ap (λ i. get_or places i 0) (sym is) ∙ free in
    rw (items, n, is)
    (kept_more tree (map (section_in text) old) places (section_in text s) node k at within here
    only)

-- one more section is no more than the nodes
pub few_pushed : (tree : SplitTree) (text : List ℕ) (old new : List Section) (s : Section)
    (places : List ℕ) (node index len : ℕ) → AreKept tree (map (section_in text) old) places →
    new ≡ old ++ s ∷ []
    → len ≡ length new → index ≡ node → get_or places index 0 ≡ 0 → node < size tree →
    IsTargetAt tree node s.target → ((i : ℕ) → IsTargetAt tree i s.target → i ≡ node)
    → len ≤ size tree
few_pushed tree text old new s places node index len k e counted is free within here only =
    let few =
    few_sections tree _ _
    (kept_pushed tree text old new s places node index len k e counted is free within here only) in
    let long : length (set places index len) ≡ size tree = length-set places index len
    ∙ k.tabled.long in omega (arith, length-map new (section_in text))
