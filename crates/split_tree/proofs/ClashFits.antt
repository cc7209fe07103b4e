-- A list of cubes has a tree exactly where no two of them clash.
use Rattle.std.proofs.Common.{◌≡◌, ℕ, zero, suc, ◌+◌, ◌<◌, List, [], ◌∷◌, length, Bool, true, false}
use Rattle.std.proofs.Common.{refl, sym, ◌∙◌, inl, inr, arith}
use Rattle.std.specs.List.{AllByRecursion}
use Rattle.std.specs.Bool.{beq}
use Rattle.std.proofs.lemmas.Bool.{eq-eqb, cases_Bool}
use Rattle.split_tree.specs.declared.clash.Relation.TheVariants.{Fit}
use Rattle.cnf_text.specs.Literal.{Literal}
use Rattle.split_tree.specs.Clash.{relation_of, cube_at, AllFit}
use Rattle.split_tree.specs.SplitTree.{SplitTree, missing, cube, split, Numbered, numbered}
use Rattle.split_tree.specs.SplitTree.{SplitsOn, going_with, going, IsTreeOf}
use Rattle.split_tree.specs.Inner.Grow.{AreFit}

all_numbered : (P : List Literal → Type 0) (k : ℕ) (cubes : List (List Literal)) →
    ((j : ℕ) → j < length cubes → P (cube_at cubes j)) →
    AllByRecursion (λ d. P d.literals) (numbered k cubes)
all_numbered P k [] h = tt
all_numbered P k (c ∷ cubes) h =
    (h zero (omega arith), all_numbered P (k + 1) cubes (λ j l. h (suc j) (omega arith)))

numbered_all : (P : List Literal → Type 0) (k : ℕ) (cubes : List (List Literal)) →
    AllByRecursion (λ d. P d.literals) (numbered k cubes) → (j : ℕ) → j < length cubes →
    P (cube_at cubes j)
numbered_all P k [] h j l = absurd (omega arith)
numbered_all P k (c ∷ cubes) h zero l = h.0
numbered_all P k (c ∷ cubes) h (suc j) l = numbered_all P (k + 1) cubes h.1 j (omega arith)

fit_rest : (c : List Literal) (cubes : List (List Literal)) → AllFit (c ∷ cubes) → AllFit cubes
fit_rest c cubes a = record { fit = λ i j l m. a.fit (suc i) (suc j) (omega arith) (omega arith) }

-- cubes that fit each other fit as they are numbered
pub are_fit : (k : ℕ) (cubes : List (List Literal)) → AllFit cubes → AreFit (numbered k cubes)
are_fit k [] a = tt
are_fit k (c ∷ cubes) a = (
  all_numbered (λ d. relation_of c d ≡ Fit) (k + 1) cubes
      (λ j l. a.fit zero (suc j) (omega arith) (omega arith)),
  are_fit (k + 1) cubes (fit_rest c cubes a),
)

fit_pair : (k : ℕ) (cubes : List (List Literal)) → AreFit (numbered k cubes) → (i j : ℕ) → i < j →
    j < length cubes →
    relation_of (cube_at cubes i) (cube_at cubes j) ≡ Fit
fit_pair k [] a i j l m = absurd (omega arith)
fit_pair k (c ∷ cubes) a i zero l m = absurd (omega arith)
fit_pair k (c ∷ cubes) a zero (suc j) l m =
    numbered_all (λ d. relation_of c d ≡ Fit) (k + 1) cubes a.0 j (omega arith)
fit_pair k (c ∷ cubes) a (suc i) (suc j) l m =
    fit_pair (k + 1) cubes a.1 i j (omega arith) (omega arith)

-- where the numbered cubes fit, no two cubes of the list clash
pub all_fit : (k : ℕ) (cubes : List (List Literal)) → AreFit (numbered k cubes) → AllFit cubes
all_fit k cubes a = record { fit = fit_pair k cubes a }

-- ---- where there is a tree, all fit

goes_apart : (l m : Literal) (left right : List Literal) → m.variable ≡ l.variable →
    beq l.positive m.positive ≡ false →
    relation_of (l ∷ left) (m ∷ right) ≡ Fit
goes_apart l m left right e s = rw (eq-eqb l.variable m.variable (sym e), s) refl

goes_with : (l m : Literal) (left right : List Literal) → m.variable ≡ l.variable →
    beq l.positive m.positive ≡ true →
    relation_of left right ≡ Fit → relation_of (l ∷ left) (m ∷ right) ≡ Fit
goes_with l m left right e s h = rw (eq-eqb l.variable m.variable (sym e), s) h

beq_comm : (a b : Bool) → beq a b ≡ beq b a
beq_comm true true = refl
beq_comm true false = refl
beq_comm false true = refl
beq_comm false false = refl

cross_one : (l : Literal) (left : List Literal) (v number : ℕ) (literals : List Literal)
    (others : List Numbered) → l.variable ≡ v →
    SplitsOn v literals →
    AllByRecursion (λ d. relation_of left d.literals ≡ Fit)
    (going_with l.positive number literals others) →
    (relation_of (l ∷ left) literals ≡ Fit)
    × AllByRecursion (λ d. relation_of left d.literals ≡ Fit) others
cross_one l left v number [] others e s h = absurd s
cross_one l left v number (m ∷ right) others e s h = elim (cases_Bool (beq l.positive m.positive)) [
  | inl same ↦
      let k = rw (beq_comm m.positive l.positive, same) at h in
      (goes_with l m left right (s ∙ sym e) same k.0, k.1)
  | inr other ↦
      let k = rw (beq_comm m.positive l.positive, other) at h in
      (goes_apart l m left right (s ∙ sym e) other, k)
]

cross : (l : Literal) (left : List Literal) (v : ℕ) (cubes : List Numbered) → l.variable ≡ v →
    AllByRecursion (λ d. SplitsOn v d.literals) cubes →
    AllByRecursion (λ d. relation_of left d.literals ≡ Fit) (going l.positive cubes) →
    AllByRecursion (λ d. relation_of (l ∷ left) d.literals ≡ Fit) cubes
cross l left v [] e s h = tt
cross l left v (c ∷ cubes) e s h =
    let o = cross_one l left v c.number c.literals (going l.positive cubes) e s.0 h in
    (o.0, cross l left v cubes e s.1 o.1)

merge_sign : (v number : ℕ) (l : Literal) (sign : Bool) (left : List Literal)
    (cubes : List Numbered) → l.variable ≡ v →
    AllByRecursion (λ d. SplitsOn v d.literals) cubes → l.positive ≡ sign →
    AreFit (going_with true number (l ∷ left) (going true cubes)) →
    AreFit (going_with false number (l ∷ left) (going false cubes)) →
    AllByRecursion (λ d. relation_of (l ∷ left) d.literals ≡ Fit) cubes
    × (AreFit (going true cubes) × AreFit (going false cubes))
merge_sign v number l true left cubes s a e t f =
    let t' = rw e at t in let f' = rw e at f in
    (cross l left v cubes s a (rw e t'.0), (t'.1, f'))
merge_sign v number l false left cubes s a e t f =
    let t' = rw e at t in let f' = rw e at f in
    (cross l left v cubes s a (rw e f'.0), (t', f'.1))

merge_one : (v number : ℕ) (literals : List Literal) (cubes : List Numbered) → SplitsOn v literals →
    AllByRecursion (λ d. SplitsOn v d.literals) cubes →
    AreFit (going_with true number literals (going true cubes)) →
    AreFit (going_with false number literals (going false cubes)) →
    AllByRecursion (λ d. relation_of literals d.literals ≡ Fit) cubes
    × (AreFit (going true cubes) × AreFit (going false cubes))
merge_one v number [] cubes s a t f = absurd s
merge_one v number (l ∷ left) cubes s a t f =
    merge_sign v number l l.positive left cubes s a refl t f

pub merge_fit : (v : ℕ) (cubes : List Numbered) → AllByRecursion (λ d. SplitsOn v d.literals) cubes
    → AreFit (going true cubes) → AreFit (going false cubes) → AreFit cubes
merge_fit v [] s t f = tt
merge_fit v (c ∷ cubes) s t f =
    let m = merge_one v c.number c.literals cubes s.0 s.1 t f in
    (m.0, merge_fit v cubes s.1 m.1.0 m.1.1)

-- cubes that have a tree fit
pub tree_fits : (tree : SplitTree) (cubes : List Numbered) → IsTreeOf tree cubes → AreFit cubes
tree_fits missing cubes h = rw h tt
tree_fits (cube k) cubes h = rw h (tt, tt)
tree_fits (split v p n) cubes h =
    merge_fit v cubes h.1 (tree_fits p (going true cubes) h.2) (tree_fits n (going false cubes) h.3)
