use Rattle.std.specs.Prelude.{ℕ, ◌+◌, ◌<◌, ◌≡◌, ◌≢◌, ◌==◌, if◌then◌else◌, List, [], ◌∷◌, length}
use Rattle.std.specs.Prelude.{get_or, map, Vec}
use Rattle.std.specs.Bool.{beq}
use Rattle.split_tree.specs.declared.clash.Relation.{Relation}
use Rattle.split_tree.specs.declared.clash.Relation.TheVariants.{Fit, Equal, Prefix, Unrelated}
use Rattle.split_tree.specs.declared.clash.TreeFault.{TreeFault}
use Rattle.split_tree.specs.declared.clash.TreeFault.TheVariants.{Repeats, NotATree, Overlap}
use Rattle.split_tree.specs.declared.clash.TreeFault.TheVariants.{Memory}
use Rattle.cnf_text.specs.Literal.{Literal}

-- how two cubes lie to each other, after their longest common beginning
abbrev pub relation_of : List Literal → List Literal → Relation
relation_of [] [] = Equal
relation_of [] (_ ∷ _) = Prefix
relation_of (_ ∷ _) [] = Prefix
relation_of (l ∷ left) (m ∷ right) =
    if l.variable == m.variable then
    (if beq l.positive m.positive then relation_of left right else Fit)
    else Unrelated

-- cube `k` of the list, from 0
abbrev pub cube_at : List (List Literal) → ℕ → List Literal
cube_at cubes k = get_or cubes k []

-- the clash of a list: the pair with the least second cube and, among those, the least first
pub record IsClash (cubes : List (List Literal)) (first second : ℕ) (kind : Relation) : Type 0 where
  pub ordered : first < second
  pub within : second < length cubes
  pub is_kind : relation_of (cube_at cubes first) (cube_at cubes second) ≡ kind
  pub clashes : kind ≢ Fit
  pub least_second : (i j : ℕ) → i < j → j < second
      → relation_of (cube_at cubes i) (cube_at cubes j) ≡ Fit
  pub least_first : (i : ℕ) → i < first → relation_of (cube_at cubes i) (cube_at cubes second) ≡ Fit

-- no two cubes of the list clash
pub record AllFit (cubes : List (List Literal)) : Type 0 where
  pub fit : (i j : ℕ) → i < j → j < length cubes
      → relation_of (cube_at cubes i) (cube_at cubes j) ≡ Fit

-- the clash, named as a fault with cubes numbered from 1
abbrev pub IsClashFault : List (List Literal) → TreeFault → Type 0
IsClashFault cubes (Repeats second) = (j : ℕ) × (i : ℕ) × (second ≡ j + 1) × IsClash cubes i j Equal
IsClashFault cubes (NotATree first second) =
    (i : ℕ) × (j : ℕ) × (first ≡ i + 1) × (second ≡ j + 1) × IsClash cubes i j Unrelated
IsClashFault cubes (Overlap first second) =
    (i : ℕ) × (j : ℕ) × (first ≡ i + 1) × (second ≡ j + 1) × IsClash cubes i j Prefix
IsClashFault cubes Memory = ⊥

-- the cubes of a list of vectors
abbrev pub cube_lists : {Z : Type 0} → List (Vec Literal Z) → List (List Literal)
cube_lists cubes = map (λ c. c.items) cubes
