-- The clash of one cube with those before it.
use Rattle.std.specs.Prelude.{ℕ, ◌+◌, ◌<◌, ◌≡◌, List, length, take}
use Rattle.std.specs.declared.option.Option.{Option}
use Rattle.std.specs.declared.option.Option.TheVariants.{None, Some}
use Rattle.split_tree.specs.declared.clash.Relation.{Relation}
use Rattle.split_tree.specs.declared.clash.Relation.TheVariants.{Fit, Equal, Prefix, Unrelated}
use Rattle.split_tree.specs.declared.clash.TreeFault.{TreeFault}
use Rattle.split_tree.specs.declared.clash.TreeFault.TheVariants.{Repeats, NotATree, Overlap}
use Rattle.split_tree.specs.declared.clash.TreeFault.TheVariants.{Memory}
use Rattle.cnf_text.specs.Literal.{Literal}
use Rattle.split_tree.specs.Clash.{relation_of, cube_at, AllFit}

-- so many cubes fit, and with one more some two clash
pub record IsFitting (cubes : List (List Literal)) (count : ℕ) : Type 0 where
  pub within : count < length cubes
  pub fit : AllFit (take count cubes)
  pub clash : AllFit (take (count + 1) cubes) → ⊥

-- a cube clashes first with the cube at `i` among those before it
pub record ClashesAt (before : List (List Literal)) (cube : List Literal) (i : ℕ)
    (kind : Relation) : Type 0 where
  pub within : i < length before
  pub is_kind : relation_of (cube_at before i) cube ≡ kind
  pub least : (k : ℕ) → k < i → relation_of (cube_at before k) cube ≡ Fit

-- the fault of a cube behind others that fit each other, or that it fits them all
abbrev pub FaultAfter : Option TreeFault → List (List Literal) → List Literal → Type 0
FaultAfter None before cube =
    (k : ℕ) → k < length before → relation_of (cube_at before k) cube ≡ Fit
FaultAfter (Some (Repeats second)) before cube =
    (i : ℕ) × (second ≡ length before + 1) × ClashesAt before cube i Equal
FaultAfter (Some (NotATree first second)) before cube =
    (i : ℕ) × (first ≡ i + 1) × (second ≡ length before + 1) × ClashesAt before cube i Unrelated
FaultAfter (Some (Overlap first second)) before cube =
    (i : ℕ) × (first ≡ i + 1) × (second ≡ length before + 1) × ClashesAt before cube i Prefix
FaultAfter (Some Memory) before cube = ⊥
