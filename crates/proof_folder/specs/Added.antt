-- Sections that are added to a bundle, each below the label line of a leaf.
use Rattle.case_core.specs.Leaves.{HasTarget}
use Rattle.std.specs.Prelude.{◌≡◌, ℕ, List, [], ◌∷◌, ◌++◌, codes, Option, None, Some}
use Rattle.case_core.specs.Tokens.{words}
use Rattle.case_core.specs.SplitTree.{SplitTree}
use Rattle.case_core.specs.Target.{Target}
use Rattle.case_core.specs.Bundle.{lines_of, labels_of}
use Rattle.case_core.specs.Label.{label_name, IsTargetOf}
use Rattle.case_core.specs.Case.{CaseOf, SectionOf, proof_for}
use Rattle.case_core.specs.Sections.{IsCaseOf}

-- none of the text's lines is a label line
abbrev pub HasNoLabelLine : List ℕ → Type 0
HasNoLabelLine text = labels_of text ≡ []

-- bytes that are line ends
abbrev pub AreEnds : List ℕ → Type 0
AreEnds [] = Unit {0}
AreEnds (byte ∷ bytes) = (byte ≡ 10) × AreEnds bytes

-- the same text, with line ends behind it or none
abbrev pub IsAlmost : List ℕ → List ℕ → Type 0
IsAlmost text longer = (ends : List ℕ) × AreEnds ends × (longer ≡ text ++ ends)

-- sections of the same targets in the same order, whose proofs differ by line ends behind them at
-- most
abbrev pub AreAlmost : List SectionOf → List SectionOf → Type 0
AreAlmost [] [] = Unit {0}
AreAlmost (one ∷ sections) (other ∷ others) =
    (one.target ≡ other.target) × IsAlmost one.proof other.proof × AreAlmost sections others
AreAlmost [] (other ∷ others) = ⊥
AreAlmost (one ∷ sections) [] = ⊥

-- a leaf: its name, its target, and the bytes of its file, where there is one
pub record LeafFile : Type 0 where
  pub name : List ℕ
  pub target : Target
  pub proof : Option (List ℕ)

-- the path of a leaf's proof
abbrev pub proof_path : List ℕ → List ℕ → List ℕ
proof_path folder name = folder ++ codes "/" ++ name ++ codes ".lrat"

-- what a leaf adds to a bundle: nothing, or a line end, its label line, and its proof
abbrev pub section_text : List ℕ → Option (List ℕ) → List ℕ
section_text name None = []
section_text name (Some proof) = codes "\nl " ++ name ++ codes "\n" ++ proof

abbrev pub texts_of : List LeafFile → List ℕ
texts_of [] = []
texts_of (leaf ∷ leaves) = section_text leaf.name leaf.proof ++ texts_of leaves

-- the section of a leaf that has a file
abbrev pub section_of : Target → Option (List ℕ) → List SectionOf
section_of target None = []
section_of target (Some proof) = record { target = target; proof = proof } ∷ []

abbrev pub sections_of : List LeafFile → List SectionOf
sections_of [] = []
sections_of (leaf ∷ leaves) = section_of leaf.target leaf.proof ++ sections_of leaves

-- a file may be added where the sections are these: its leaf's name is one line and names its
-- target, the target has no section, and the file has no label line
pub record MayBeAdded (tree : SplitTree) (sections : List SectionOf) (name : List ℕ)
    (target : Target) (proof : List ℕ) : Type 0 where
  pub one_line : lines_of name ≡ name ∷ []
  pub named : IsTargetOf tree (label_name (words (codes "l " ++ name))) target
  pub has : HasTarget tree target
  pub free : proof_for sections target ≡ None
  pub plain : HasNoLabelLine proof

-- the files may be added, one after the other
abbrev pub MayAllBeAdded : SplitTree → List SectionOf → List LeafFile → Type 0
MayAllBeAdded tree sections [] = Unit {0}
MayAllBeAdded tree sections (leaf ∷ leaves) =
    ((proof : List ℕ) → leaf.proof ≡ Some proof
    → MayBeAdded tree sections leaf.name leaf.target proof)
    × MayAllBeAdded tree (sections ++ section_of leaf.target leaf.proof) leaves

-- the case with these sections more, as a bundle has it: some proofs have a line end behind them
pub record IsCaseWith (bundle : List ℕ) (case : CaseOf) (added : List SectionOf) : Type 0 where
  pub whole : CaseOf
  pub is : IsCaseOf bundle whole
  pub formula : whole.formula ≡ case.formula
  pub tree : whole.tree ≡ case.tree
  pub sections : AreAlmost (case.sections ++ added) whole.sections
