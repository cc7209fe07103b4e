-- The table that a case keeps beside its parts.
use Rattle.std.specs.Prelude.{◌≡◌, ◌≢◌, ℕ, ◌≤◌, ◌+◌, ◌-◌, ◌^◌, ◌==◌, if◌then◌else◌, List, Option}
use Rattle.std.specs.Prelude.{None, Some, slice_index, length}
use Rattle.split_tree.specs.SplitTree.{SplitTree, size, total}
use Rattle.split_tree.specs.Leaves.{IsTargetAt}
use Rattle.split_tree.specs.declared.node.Target.{Target}
use Rattle.case_core.specs.Case.{SectionOf, proof_for, section_at, AreSections}

-- what a table of places, counted from 1 and 0 for none, says of a node
abbrev pub section_by : List SectionOf → ℕ → Option (List ℕ)
section_by sections place =
    if place == 0 then None else Some (section_at sections (place - 1)).proof

-- for each target the table has the place of its section, at its node: that section has the target
pub record AreTabled (tree : SplitTree) (sections : List SectionOf) (places : List ℕ) : Type 0 where
  pub long : length places ≡ size tree
  pub within : (node : ℕ) → slice_index places node ≤ length sections
  pub found : (target : Target) (node : ℕ) → IsTargetAt tree node target
      → proof_for sections target ≡ section_by sections (slice_index places node)
  pub placed : (target : Target) (node : ℕ) → IsTargetAt tree node target
      → slice_index places node ≢ 0
      → (section_at sections (slice_index places node - 1)).target ≡ target

-- what a case keeps beside its parts
pub record IsCaseKept (tree : SplitTree) (sections : List SectionOf)
    (places : List ℕ) : Type 0 where
  pub are_sections : AreSections tree sections
  pub tabled : AreTabled tree sections places
  pub total : total 0 tree ≤ 2 ^ 60 + 2 ^ 24
