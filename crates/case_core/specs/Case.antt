-- A case: a formula, the tree of its cubes, and sections for targets of the tree.
use Rattle.std.specs.Prelude.{◌≡◌, ℕ, ◌<◌, ◌==◌, if◌then◌else◌, Bool, false, List, [], ◌∷◌, Option}
use Rattle.std.specs.Prelude.{None, Some, get_or, length, map, take, drop}
use Rattle.cnf_text.specs.Literal.{Literal}
use Rattle.split_tree.specs.SplitTree.{SplitTree}
use Rattle.split_tree.specs.Leaves.{HasTarget}
use Rattle.split_tree.specs.declared.node.Leaf.TheVariants.{Cube, Missing}
use Rattle.split_tree.specs.declared.node.Target.{Target}
use Rattle.split_tree.specs.declared.node.Target.TheVariants.{Leaf, Node}
use Rattle.case_core.specs.declared.case.Section.{Section}

-- a target and the bytes of its proof
pub record SectionOf : Type 0 where
  pub target : Target
  pub proof : List ℕ

-- the part of a text that begins at a place and has this length
abbrev pub part_in : List ℕ → ℕ → ℕ → List ℕ
part_in text start length = take length (drop start text)

-- a section of a text: its proof is a part of the text
abbrev pub section_in : List ℕ → Section → SectionOf
section_in text section =
    record { target = section.target; proof = part_in text section.start section.length }

abbrev pub targets_of : List SectionOf → List Target
targets_of sections = map (λ section. section.target) sections

pub record CaseOf : Type 0 where
  pub formula : List (List Literal)
  pub tree : SplitTree
  pub sections : List SectionOf

-- whether two targets are one
abbrev pub same_target : Target → Target → Bool
same_target (Leaf (Cube k)) (Leaf (Cube j)) = k == j
same_target (Leaf (Missing k)) (Leaf (Missing j)) = k == j
same_target (Node k) (Node j) = k == j
same_target (Leaf (Cube k)) (Leaf (Missing j)) = false
same_target (Leaf (Missing k)) (Leaf (Cube j)) = false
same_target (Leaf leaf) (Node j) = false
same_target (Node k) (Leaf leaf) = false

-- the proof of the section for a target, where there is one
abbrev pub proof_for : List SectionOf → Target → Option (List ℕ)
proof_for [] target = None
proof_for (section ∷ sections) target =
    if same_target section.target target then Some section.proof else proof_for sections target

abbrev pub section_at : List SectionOf → ℕ → SectionOf
section_at sections i = get_or sections i (record { target = Leaf (Cube 0); proof = [] })

-- each section is for a target of the tree, and none for the same as an earlier one
abbrev pub AreSections : SplitTree → List SectionOf → Type 0
AreSections tree sections =
    (i : ℕ) → i < length sections → HasTarget tree (section_at sections i).target
    × ((j : ℕ) → j < i
    → same_target (section_at sections j).target (section_at sections i).target ≡ false)
