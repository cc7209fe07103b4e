-- How two cubes lie to each other where one of them has ended.
use Rattle.std.proofs.Common.{◌≡◌, ℕ, ◌<◌, ◌≤◌, ◌≢◌, inl, inr, List, [], ◌∷◌, length, drop, true}
use Rattle.std.proofs.Common.{refl, sym, arith, zero, suc, get_or, Vec, ◌+◌, take, ap, ◌∙◌, Some}
use Rattle.std.proofs.Common.{None}
use Rattle.std.proofs.lemmas.List.{drop_all, drop_more, length-take-le, get_or-take, take-map}
use Rattle.std.proofs.lemmas.List.{length-map}
use Rattle.std.proofs.lemmas.Bool.{cases_lt}
use Rattle.split_tree.specs.declared.clash.Relation.{Relation}
use Rattle.split_tree.specs.declared.clash.Relation.TheVariants.{Fit, Equal, Prefix, Unrelated}
use Rattle.cnf_text.specs.Literal.{Literal}
use Rattle.split_tree.specs.declared.clash.TreeFault.{TreeFault}
use Rattle.split_tree.specs.declared.clash.TreeFault.TheVariants.{Repeats, NotATree, Overlap}
use Rattle.split_tree.specs.declared.clash.TreeFault.TheVariants.{Memory}
use Rattle.split_tree.specs.Clash.{relation_of, cube_at, cube_lists, AllFit, IsClash, IsClashFault}
use Rattle.split_tree.specs.Inner.Clash.{IsFitting, ClashesAt, FaultAfter}

some_literal : Literal
some_literal = record { variable = 0; positive = true }

-- where the left cube has ended and the right one hasn't, one begins the other
pub overlap_right : (n : ℕ) (left right : List Literal) → length left ≤ n → n < length right →
    relation_of (drop n left) (drop n right) ≡ Prefix
overlap_right n left right h k = rw (drop_all n left h, drop_more right n some_literal k) refl

-- where the right cube has ended and the left one hasn't, one begins the other
pub overlap_left : (n : ℕ) (left right : List Literal) → length right ≤ n → n < length left →
    relation_of (drop n left) (drop n right) ≡ Prefix
overlap_left n left right h k = rw (drop_all n right h, drop_more left n some_literal k) refl

-- the cube that a vector of the list holds
pub cube_at-of : {Z : Type 0} (vs : List (Vec Literal Z)) (i : ℕ) (v : Vec Literal Z) →
    i < length vs → v ≡ get_or vs i v →
    cube_at (cube_lists vs) i ≡ v.items
cube_at-of [] i v h e = absurd (omega arith)
cube_at-of (u ∷ vs) zero v h e = rw (← e) refl
cube_at-of (u ∷ vs) (suc i) v h e = cube_at-of vs i v (omega arith) e

-- ---- the first clash of a list is the first of the least cube that clashes with one before it

module _ (cubes : List (List Literal)) (n : ℕ) (cube : List Literal) (h : n < length cubes)
    (e : cube_at cubes n ≡ cube)
    (fit : (i j : ℕ) → i < j → j < n → relation_of (cube_at cubes i) (cube_at cubes j) ≡ Fit) where
  long : length (take n cubes) ≡ n
  long = length-take-le n cubes (omega arith)

  clash_from : (i : ℕ) (kind : Relation) → kind ≢ Fit → ClashesAt (take n cubes) cube i kind →
      IsClash cubes i n kind
  clash_from i kind k c =
      let less : i < n = omega (arith, long, c.within) in
      record {
        ordered = less;
        within = h;
        is_kind = rw e (rw (get_or-take n cubes i [] less) at c.is_kind);
        clashes = k;
        least_second = fit;
        least_first =
            λ m l. rw e (let k : m < n = omega arith in
            rw (get_or-take n cubes m [] k) at (c.least m l));
      }

  fault_from : (fault : TreeFault) → FaultAfter (Some fault) (take n cubes) cube →
      IsClashFault cubes fault
  fault_from (Repeats second) f =
      (n, f.0, f.1 ∙ ap (λ m. m + 1) long, clash_from f.0 Equal (λ p. cc) f.2)
  fault_from (NotATree first second) f =
      (f.0, n, f.1, f.2 ∙ ap (λ m. m + 1) long, clash_from f.0 Unrelated (λ p. cc) f.3)
  fault_from (Overlap first second) f =
      (f.0, n, f.1, f.2 ∙ ap (λ m. m + 1) long, clash_from f.0 Prefix (λ p. cc) f.3)
  fault_from Memory f = f

  fit_more : FaultAfter None (take n cubes) cube →
      (i j : ℕ) → i < j → j < n + 1 → relation_of (cube_at cubes i) (cube_at cubes j) ≡ Fit
  fit_more f i j l m = elim (cases_lt j n) [
    | inl less ↦ fit i j l less
    | inr more ↦
        let same : j ≡ n = omega arith in
        let k : i < n = omega arith in
        let p : i < length (take n cubes) = omega (arith, long) in
        rw (same, e) (rw (get_or-take n cubes i [] k) at (f i p))
  ]

pub fit_below : (n : ℕ) (cubes : List (List Literal)) → n ≤ length cubes → AllFit (take n cubes) →
    (i j : ℕ) → i < j → j < n → relation_of (cube_at cubes i) (cube_at cubes j) ≡ Fit
fit_below n cubes h a i j l m =
    let long : length (take n cubes) ≡ n = length-take-le n cubes h in
    let k : i < n = omega arith in
    let r : relation_of (cube_at (take n cubes) i) (cube_at (take n cubes) j) ≡ Fit =
    a.fit i j l (omega arith) in
    rw (get_or-take n cubes i [] k, get_or-take n cubes j [] m) at r

below_fit : (n : ℕ) (cubes : List (List Literal)) → n ≤ length cubes →
    ((i j : ℕ) → i < j → j < n → relation_of (cube_at cubes i) (cube_at cubes j) ≡ Fit) →
    AllFit (take n cubes)
below_fit n cubes h f =
    let long : length (take n cubes) ≡ n = length-take-le n cubes h in
    record {
      fit = λ i j l m.
          let k : i < n = omega arith in
          let p : j < n = omega arith in
          rw (get_or-take n cubes i [] k, get_or-take n cubes j [] p) (f i j l p);
    }

-- the cube that makes the first clash clashes with one before it
pub fitting_clash : (cubes : List (List Literal)) (n : ℕ) (cube : List Literal) →
    IsFitting cubes n → cube_at cubes n ≡ cube →
    FaultAfter None (take n cubes) cube → ⊥
fitting_clash cubes n cube f e none =
    let h : n < length cubes = f.within in
    f.clash (below_fit (n + 1) cubes (omega arith)
    (fit_more cubes n cube h e (fit_below n cubes (omega arith) f.fit) none))

-- the clash of the cube behind the first that fit is the first clash of all
pub fitting_fault : (cubes : List (List Literal)) (n : ℕ) (cube : List Literal)
    (fault : TreeFault) → IsFitting cubes n → cube_at cubes n ≡ cube →
    FaultAfter (Some fault) (take n cubes) cube → IsClashFault cubes fault
fitting_fault cubes n cube fault f e some =
    let h : n < length cubes = f.within in
    fault_from cubes n cube h e (fit_below n cubes (omega arith) f.fit) fault some

-- the first of the cubes, as lists
pub cubes_of-take : {Z : Type 0} (n : ℕ) (vs : List (Vec Literal Z)) →
    cube_lists (take n vs) ≡ take n (cube_lists vs)
cubes_of-take {Z} n vs = sym (take-map (λ (v : Vec Literal Z). v.items) n vs)

-- as many lists as cubes
pub length-cubes_of : {Z : Type 0} (vs : List (Vec Literal Z)) → length (cube_lists vs) ≡ length vs
length-cubes_of {Z} vs = length-map vs (λ (v : Vec Literal Z). v.items)
