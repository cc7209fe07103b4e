-- Which case a bundle stands for, and its first fault.
use Rattle.std.specs.Prelude.{◌≡◌, ◌≢◌, ℕ, List, [], ◌∷◌, ◌++◌, None}
use Rattle.cnf_text.specs.Icnf.{Item, StandsFor, IsTextFault, clauses_of, cubes_of}
use Rattle.cnf_text.specs.declared.icnf.TextFault.{TextFault}
use Rattle.split_tree.specs.Clash as clash
use Rattle.split_tree.specs.declared.clash.TreeFault.{TreeFault}
use Rattle.split_tree.specs.SplitTree.{SplitTree, numbered, IsTreeOf}
use Rattle.split_tree.specs.declared.node.Target.{Target}
use Rattle.case_core.specs.declared.fault.CaseFault.{CaseFault}
use Rattle.case_core.specs.declared.fault.CaseFault.TheVariants as faults
use Rattle.case_core.specs.Bundle.{Labelled, icnf_text, labels_of}
use Rattle.case_core.specs.Label.{label_name, IsTargetOf}
use Rattle.case_core.specs.Case.{SectionOf, CaseOf, AreSections, proof_for}
use Rattle.case_core.specs.Faults.{of_text, of_clash}

-- the section below a label line is for the target that the line names
pub record IsSectionOf (tree : SplitTree) (label : Labelled) (section : SectionOf) : Type 0 where
  pub target : IsTargetOf tree (label_name label.label) section.target
  pub proof : section.proof ≡ label.section

-- one section for each label line, in order
abbrev pub AreLabelled : SplitTree → List Labelled → List SectionOf → Type 0
AreLabelled tree [] [] = Unit {0}
AreLabelled tree (label ∷ labels) (section ∷ sections) =
    IsSectionOf tree label section × AreLabelled tree labels sections
AreLabelled tree [] (section ∷ sections) = ⊥
AreLabelled tree (label ∷ labels) [] = ⊥

-- the sections of these label lines, no two of them for one target
pub record AreSectionsOf (tree : SplitTree) (labels : List Labelled)
    (sections : List SectionOf) : Type 0 where
  pub labelled : AreLabelled tree labels sections
  pub apart : AreSections tree sections

-- With this label line the sections so far don't go on: it has none of the forms, it names nothing
-- in the tree, or a target that has a section.
abbrev pub LabelFaultAt : SplitTree → List SectionOf → Labelled → CaseFault → Type 0
LabelFaultAt tree sections label (faults.BadLabel line) =
    (line ≡ label.line) × (label_name label.label ≡ None)
LabelFaultAt tree sections label (faults.NoSuchLeaf line) =
    (line ≡ label.line) × (label_name label.label ≢ None)
    × ((target : Target) → IsTargetOf tree (label_name label.label) target → ⊥)
LabelFaultAt tree sections label (faults.ProofTwice line) =
    (line ≡ label.line) × ((target : Target) × IsTargetOf tree (label_name label.label) target
    × (proof_for sections target ≢ None))
LabelFaultAt tree sections label faults.Header = ⊥
LabelFaultAt tree sections label (faults.Token line) = ⊥
LabelFaultAt tree sections label faults.Unfinished = ⊥
LabelFaultAt tree sections label (faults.TooLarge line) = ⊥
LabelFaultAt tree sections label faults.Limit = ⊥
LabelFaultAt tree sections label faults.Memory = ⊥
LabelFaultAt tree sections label (faults.Repeats cube) = ⊥
LabelFaultAt tree sections label (faults.NotATree first second) = ⊥
LabelFaultAt tree sections label (faults.Overlap first second) = ⊥

-- a fault at the first label line with which the sections don't go on
pub record IsLabelFault (tree : SplitTree) (labels : List Labelled)
    (fault : CaseFault) : Type 0 where
  pub before : List Labelled
  pub label : Labelled
  pub after : List Labelled
  pub parts : labels ≡ before ++ label ∷ after
  pub sections : List SectionOf
  pub so_far : AreSectionsOf tree before sections
  pub broken : LabelFaultAt tree sections label fault

-- the bundle is that of this case: its formula's clauses and the cubes of its tree are those of the
-- iCNF text, and its sections are those of the label lines
pub record IsCaseOf (bundle : List ℕ) (case : CaseOf) : Type 0 where
  pub items : List Item
  pub text : StandsFor (icnf_text bundle) items
  pub formula : case.formula ≡ clauses_of items
  pub tree : IsTreeOf case.tree (numbered 1 (cubes_of items))
  pub sections : AreSectionsOf case.tree (labels_of bundle) case.sections

-- the bundle is refused for this fault: that of its iCNF text, else that of the cubes, else that of
-- its first faulty label line
pub data IsFaultOf (bundle : List ℕ) (fault : CaseFault) : Type 0 where
  InText : (text : TextFault) → fault ≡ of_text text → IsTextFault (icnf_text bundle) text
      → IsFaultOf bundle fault
  InCubes : (items : List Item) (kind : TreeFault) → fault ≡ of_clash kind
      → StandsFor (icnf_text bundle) items → clash.IsClashFault (cubes_of items) kind
      → IsFaultOf bundle fault
  InLabels : (items : List Item) (tree : SplitTree) → StandsFor (icnf_text bundle) items
      → IsTreeOf tree (numbered 1 (cubes_of items))
      → IsLabelFault tree (labels_of bundle) fault → IsFaultOf bundle fault
