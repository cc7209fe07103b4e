-- What the reader of sections keeps.
use Rattle.std.specs.Prelude.{◌≡◌, ◌≢◌, ℕ, ◌+◌, ◌^◌, ◌≤◌, ◌==◌, Bool, not, List, [], ◌∷◌, ◌++◌}
use Rattle.std.specs.Prelude.{length, count_by, Option, None}
use Rattle.cnf_text.specs.Icnf.{Item, cubes_of}
use Rattle.split_tree.specs.Clash as clash
use Rattle.split_tree.specs.declared.clash.TreeFault.{TreeFault}
use Rattle.case_core.specs.declared.fault.CaseFault.{CaseFault}
use Rattle.case_core.specs.Faults.{of_clash}
use Rattle.split_tree.specs.SplitTree.{SplitTree, IsTreeOf, numbered, total}
use Rattle.split_tree.specs.declared.node.Target.{Target}
use Rattle.case_core.specs.Bundle.{Labelled, lines_of, labelled, labels_of, BeginsWithLabel}
use Rattle.case_core.specs.Case.{SectionOf, AreSections, proof_for}
use Rattle.case_core.specs.Inner.Case.{AreTabled}
use Rattle.case_core.specs.Label.{Name, IsTargetOf}
use Rattle.case_core.specs.Inner.Bundle.{EndsWith}
use Rattle.case_core.specs.Sections.{AreSectionsOf}
use Rattle.case_core.specs.Inner.Label.{NamesNone, IsLimited}
use Rattle.case_core.specs.declared.label.LabelFault.{LabelFault}
use Rattle.case_core.specs.declared.label.LabelFault.TheVariants.{BadForm, NoSuchTarget, Twice}
use Rattle.case_core.specs.declared.label.LabelFault.TheVariants.{Memory}

abbrev pub is_place : ℕ → Bool
is_place place = not (place == 0)

-- sections of targets, and the table of their places
pub record AreKept (tree : SplitTree) (sections : List SectionOf) (places : List ℕ) : Type 0 where
  pub are_sections : AreSections tree sections
  pub tabled : AreTabled tree sections places
  pub counted : length sections ≡ count_by is_place places

-- why the sections don't go on with this name
abbrev pub StopsAt : SplitTree → List SectionOf → Option Name → LabelFault → Type 0
StopsAt tree sections name BadForm = NamesNone tree name BadForm
StopsAt tree sections name NoSuchTarget = NamesNone tree name NoSuchTarget
StopsAt tree sections name Twice =
    (target : Target) × IsTargetOf tree name target × (proof_for sections target ≢ None)
StopsAt tree sections name Memory = Unit {0}

-- the sections go on with one for this name and this proof
pub record GoesOn (tree : SplitTree) (old new : List SectionOf) (name : Option Name)
    (proof : List ℕ) : Type 0 where
  pub section : SectionOf
  pub target : IsTargetOf tree name section.target
  pub text : section.proof ≡ proof
  pub added : new ≡ old ++ section ∷ []

-- the label lines before this one have these sections
pub record LabelAt (tree : SplitTree) (bundle : List ℕ) (sections : List SectionOf)
    (at : List ℕ) : Type 0 where
  pub before : List Labelled
  pub number : ℕ
  pub so_far : AreSectionsOf tree before sections
  pub parts : labels_of bundle ≡ before ++ labelled number (lines_of at)
  pub counted : number + length (lines_of at) ≡ length (lines_of bundle) + 1
  pub ends : EndsWith bundle at
  pub begins : BeginsWithLabel at

-- what is known of the tree of a file's cubes
pub record HasTree (tree : SplitTree) (items : List Item) : Type 0 where
  pub is : IsTreeOf tree (numbered 1 (cubes_of items))
  pub limited : IsLimited tree
  pub total : total 0 tree ≤ 2 ^ 60 + 2 ^ 24

-- why a file's cubes have none
pub record HasClash (items : List Item) (fault : CaseFault) : Type 0 where
  pub kind : TreeFault
  pub is : fault ≡ of_clash kind
  pub clashes : clash.IsClashFault (cubes_of items) kind
