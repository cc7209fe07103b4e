-- The numbers of cubes and the variables of paths in a tree of cubes within the limits.
use Rattle.std.proofs.Common.{◌≡◌, ◌≢◌, ℕ, zero, suc, ◌+◌, ◌<◌, ◌≤◌, ◌^◌, List, [], ◌∷◌, ◌++◌, Bool}
use Rattle.std.proofs.Common.{true, false, length, get_or, refl, subst, arith, inl, inr}
use Rattle.std.specs.List.{AllByRecursion}
use Rattle.std.specs.Bool.{beq}
use Rattle.std.proofs.lemmas.Bool.{cases_Bool}
use Rattle.cnf_text.specs.Literal.{Literal, greatest_variable}
use Rattle.split_tree.specs.SplitTree.{SplitTree, missing, cube, split, Numbered, numbered}
use Rattle.split_tree.specs.SplitTree.{SplitsOn, going_with, going, IsTreeOf, subtrees, labels}
use Rattle.split_tree.specs.SplitTree.{branch}
use Rattle.case_core.specs.Inner.Label.{IsPathInRange, IsLimited}

all_front : {X : Type 0} (P : X → Type 0) (a b : List X) → AllByRecursion P a → AllByRecursion P b →
    AllByRecursion P (a ++ b)
all_front P [] b h k = k
all_front P (x ∷ a) b h k = (h.0, all_front P a b h.1 k)

all_at : {X : Type 0} (P : X → Type 0) (xs : List X) (d : X) (i : ℕ) → P d → AllByRecursion P xs →
    P (get_or xs i d)
all_at P [] d i e h = e
all_at P (x ∷ xs) d zero e h = h.0
all_at P (x ∷ xs) d (suc i) e h = all_at P xs d i e h.1

-- a cube with a small number, and with variables within the limits
abbrev pub Fine : ℕ → Numbered → Type 0
Fine most c = (c.number ≤ most) × IsPathInRange c.literals

fine_one : (most : ℕ) (sign : Bool) (number : ℕ) (literals : List Literal)
    (others : List Numbered) → number ≤ most → IsPathInRange literals →
    AllByRecursion (Fine most) others
    → AllByRecursion (Fine most) (going_with sign number literals others)
fine_one most sign number [] others n r h = h
fine_one most sign number (l ∷ rest) others n r h = elim (cases_Bool (beq l.positive sign)) [
  | inl e ↦ rw e ((n, r.1), h)
  | inr e ↦ rw e h
]

fine_going : (most : ℕ) (sign : Bool) (cubes : List Numbered) → AllByRecursion (Fine most) cubes →
    AllByRecursion (Fine most) (going sign cubes)
fine_going most sign [] h = tt
fine_going most sign (c ∷ cubes) h =
    fine_one most sign c.number c.literals (going sign cubes) h.0.0 h.0.1
    (fine_going most sign cubes h.1)

first_variable : (v : ℕ) (literals : List Literal) → SplitsOn v literals → IsPathInRange literals →
    v ≤ greatest_variable
first_variable v [] on r = absurd on
first_variable v (l ∷ rest) on r = subst (λ (n : ℕ). n ≤ greatest_variable) on r.0

split_in_range : (most v : ℕ) (cubes : List Numbered) → cubes ≢ [] →
    AllByRecursion (λ c. SplitsOn v c.literals) cubes → AllByRecursion (Fine most) cubes →
    v ≤ greatest_variable
split_in_range most v [] some on h = absurd (some refl)
split_in_range most v (c ∷ cubes) some on h = first_variable v c.literals on.0 h.0.1

-- the tree below a node is no leaf of a cube with a greater number
abbrev pub HasFew : ℕ → SplitTree → Type 0
HasFew most t = (k : ℕ) → t ≡ cube k → k ≤ most

few_below : (most : ℕ) (tree : SplitTree) (cubes : List Numbered) → IsTreeOf tree cubes →
    AllByRecursion (Fine most) cubes → AllByRecursion (HasFew most) (subtrees tree)
few_below most missing cubes is h = (λ k e. cc, tt)
few_below most (cube n) cubes is h =
    let f = rw is at h in ((λ k e. let s : n ≡ k = cc in subst (λ (m : ℕ). m ≤ most) s f.0.0), tt)
few_below most (split v p q) cubes is h = (
  λ k e. cc,
  all_front (HasFew most) (subtrees p) (subtrees q)
      (few_below most p (going true cubes) is.2 (fine_going most true cubes h))
      (few_below most q (going false cubes) is.3 (fine_going most false cubes h)),
)

in_branch : (path : List Literal) (v : ℕ) (sign : Bool) → IsPathInRange path →
    v ≤ greatest_variable → IsPathInRange (branch path v sign)
in_branch path v sign r l =
    all_front (λ (m : Literal). m.variable ≤ greatest_variable) path
    (record { variable = v; positive = sign } ∷ []) r (l, tt)

paths_below : (most : ℕ) (tree : SplitTree) (cubes : List Numbered) (path : List Literal) →
    IsTreeOf tree cubes → AllByRecursion (Fine most) cubes → IsPathInRange path →
    AllByRecursion IsPathInRange (labels branch path tree)
paths_below most missing cubes path is h r = (r, tt)
paths_below most (cube n) cubes path is h r = (r, tt)
paths_below most (split v p q) cubes path is h r =
    let l = split_in_range most v cubes is.0 is.1 h in (
      r,
      all_front IsPathInRange (labels branch (branch path v true) p)
          (labels branch (branch path v false) q)
          (paths_below most p (going true cubes) (branch path v true) is.2
          (fine_going most true cubes h) (in_branch path v true r l))
          (paths_below most q (going false cubes) (branch path v false) is.3
          (fine_going most false cubes h) (in_branch path v false r l)),
    )

fine_numbered : (from most : ℕ) (cubes : List (List Literal)) → from + length cubes ≤ most + 1 →
    AllByRecursion IsPathInRange cubes → AllByRecursion (Fine most) (numbered from cubes)
fine_numbered from most [] l h = tt
fine_numbered from most (c ∷ cubes) l h =
    ((omega arith, h.0), fine_numbered (from + 1) most cubes (omega arith) h.1)

few_missing : (most : ℕ) → HasFew most missing
few_missing most k e = cc

-- the tree of few enough cubes, with their variables in range, keeps the limits of labels
pub limited : (tree : SplitTree) (cubes : List (List Literal)) → IsTreeOf tree (numbered 1 cubes) →
    length cubes < 2 ^ 32 → AllByRecursion IsPathInRange cubes → IsLimited tree
limited tree cubes is few range =
    let fine = fine_numbered 1 (length cubes) cubes (omega arith) range in record {
      cubes = λ node number e. let l : number ≤ length cubes =
          all_at (HasFew (length cubes)) (subtrees tree) missing node (few_missing (length cubes))
          (few_below (length cubes) tree (numbered 1 cubes) is fine) number e in omega arith;
      paths =
          λ node. all_at IsPathInRange (labels branch [] tree) [] node tt
          (paths_below (length cubes) tree (numbered 1 cubes) [] is fine tt);
    }
