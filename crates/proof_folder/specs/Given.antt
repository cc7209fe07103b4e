-- Proofs that are given for leaves, beside those that stand in a case.
use Rattle.std.specs.Prelude.{◌≡◌, ◌<◌, ◌+◌, ◌^◌, ℕ, zero, suc, List, [], ◌∷◌, ◌++◌, codes, decimal}
use Rattle.std.specs.Prelude.{length, map, Option, None, Some, MatchOption, IfSome}
use Rattle.case_core.specs.Literal.{Literal}
use Rattle.case_core.specs.Proof.{Proof, IsProofOf}
use Rattle.case_core.specs.Judgement.{judgement}
use Rattle.case_core.specs.SplitTree.{SplitTree, size}
use Rattle.case_core.specs.Leaves.{cube_count, missing_nodes, HasLeaf, IsPathOf, IsLeafAt}
use Rattle.case_core.specs.Leaves.{IsTargetAt}
use Rattle.case_core.specs.Leaf.{Leaf}
use Rattle.case_core.specs.Leaf.TheVariants.{Cube, Missing}
use Rattle.case_core.specs.Target.{Target}
use Rattle.case_core.specs.Target.TheVariants.{Leaf as Named, Node}
use Rattle.case_core.specs.Bundle.{labels_of}
use Rattle.case_core.specs.Case.{CaseOf, proof_for}
use Rattle.case_core.specs.Sections.{IsCaseOf}
use Rattle.case_core.specs.Finding.{HasSection}
use Rattle.mark_board.specs.declared.mark.Mark.{Mark}
use Rattle.mark_board.specs.declared.mark.Mark.TheVariants.{Open}
use Rattle.mark_board.specs.Marking.{mark_at}
use Rattle.mark_board.specs.Findings.{AreFindings, IsMarkOf, mark_as}
use Rattle.proof_folder.specs.Added.{LeafFile}

-- the bytes that are given as a leaf's proof, where some are
abbrev pub Given : Type 0
Given = Leaf → Option (List ℕ)

-- a leaf's name on a label line
abbrev pub name_of : Leaf → List ℕ
name_of (Cube k) = decimal k
name_of (Missing j) = codes "m" ++ decimal j

-- its number
abbrev pub leaf_number : Leaf → ℕ
leaf_number (Cube k) = k
leaf_number (Missing j) = j

-- so many leaves of a kind, from this number on
abbrev pub leaves_from : (ℕ → Leaf) → ℕ → ℕ → List Leaf
leaves_from kind number zero = []
leaves_from kind number (suc count) = kind number ∷ leaves_from kind (suc number) count

-- the leaves of a tree, in order: cubes 1, 2, .. and then missing leaves 1, 2, ..
abbrev pub leaves_of : SplitTree → List Leaf
leaves_of tree =
    leaves_from (λ k. Cube k) 1 (cube_count tree)
    ++ leaves_from (λ j. Missing j) 1 (length (missing_nodes tree))

-- a leaf with the proof that is given for it
abbrev pub file_of : Given → Leaf → LeafFile
file_of given leaf = record { name = name_of leaf; target = Named leaf; proof = given leaf }

-- those of a tree's leaves, in order
abbrev pub files_of : Given → SplitTree → List LeafFile
files_of given tree = map (file_of given) (leaves_of tree)

-- The tree has no more leaves than numbers that are written in full: the text of an integer is
-- defined for 64 bits.
abbrev pub HasFewLeaves : SplitTree → Type 0
HasFewLeaves tree = cube_count tree + length (missing_nodes tree) < 2 ^ 64

-- proofs may be given for leaves of a case: none has a label line, and no leaf with one has a
-- section
pub record MayBeGiven (case : CaseOf) (given : Given) : Type 0 where
  pub plain : (leaf : Leaf) (text : List ℕ) → HasLeaf case.tree leaf → given leaf ≡ Some text →
      labels_of text ≡ []
  pub free : (leaf : Leaf) (text : List ℕ) → HasLeaf case.tree leaf → given leaf ≡ Some text →
      proof_for case.sections (Named leaf) ≡ None

-- the mark of a target by the proof that is given for it: open where none is, otherwise as it is
-- judged from the formula and the target's path
abbrev pub IsMarkBy : CaseOf → Target → Option (List ℕ) → Mark → Type 0
IsMarkBy case target given mark = MatchOption given (mark ≡ Open)
    (λ text. (path : List Literal) (proof : Proof) → IsPathOf case.tree target path
    → IsProofOf text proof → mark ≡ mark_as (judgement case.formula path proof))

-- The marks of a case's nodes where proofs are given for leaves: a target with a section and an
-- inner node have the marks of their findings, and a leaf without a section has that of the proof
-- that is given for it.
pub record AreMarksBy (case : CaseOf) (given : Given) (marks : List Mark) : Type 0 where
  pub long : length marks ≡ size case.tree
  pub sections : (node : ℕ) (target : Target) → IsTargetAt case.tree node target →
      HasSection case target → IsMarkOf case target (mark_at marks node)
  pub nodes : (node : ℕ) → IsTargetAt case.tree node (Node node) →
      IsMarkOf case (Node node) (mark_at marks node)
  pub leaves : (node : ℕ) (leaf : Leaf) → IsLeafAt case.tree node leaf →
      proof_for case.sections (Named leaf) ≡ None →
      IsMarkBy case (Named leaf) (given leaf) (mark_at marks node)

-- This is given for a target: it is what is known to lie there, may be given, and by it a target
-- without a section has this mark.
pub record IsGivenFor (known : Option (Option (List ℕ))) (case : CaseOf) (target : Target)
    (mark : Mark) (given : Option (List ℕ)) : Type 0 where
  pub held : IfSome known (λ held. given ≡ held)
  pub plain : (text : List ℕ) → given ≡ Some text → labels_of text ≡ []
  pub free : (text : List ℕ) → given ≡ Some text → proof_for case.sections target ≡ None
  pub mark_is : proof_for case.sections target ≡ None → IsMarkBy case target given mark

-- the marks of a case's nodes where each target was judged by itself, by what was given for it
pub record AreFoundApart (known : Target → Option (Option (List ℕ))) (case : CaseOf)
    (marks : List Mark) : Type 0 where
  pub long : length marks ≡ size case.tree
  pub sections : (node : ℕ) (target : Target) → IsTargetAt case.tree node target →
      HasSection case target → IsMarkOf case target (mark_at marks node)
  pub targets : (node : ℕ) (target : Target) → IsTargetAt case.tree node target →
      (given : Option (List ℕ)) × IsGivenFor (known target) case target (mark_at marks node) given

-- the bundle stands for a case with the same formula and the same tree, whose nodes' findings have
-- these marks
pub record IsJudgedAs (bundle : List ℕ) (case : CaseOf) (marks : List Mark) : Type 0 where
  pub whole : CaseOf
  pub is : IsCaseOf bundle whole
  pub formula : whole.formula ≡ case.formula
  pub tree : whole.tree ≡ case.tree
  pub findings : AreFindings whole marks
