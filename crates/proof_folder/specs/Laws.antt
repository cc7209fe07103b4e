-- Laws of sections that are added to a bundle.
use Rattle.std.specs.Prelude.{◌≡◌, ◌<◌, ◌^◌, ◌↔◌, ℕ, List, [], ◌∷◌, ◌++◌, codes, Option, IfSome}
use Rattle.std.specs.Prelude.{None, Some}
use Rattle.std.specs.List.{Contains}
use Rattle.case_core.specs.Proof.{Proof, IsProofOf}
use Rattle.case_core.specs.Tokens.{words}
use Rattle.case_core.specs.SplitTree.{SplitTree}
use Rattle.case_core.specs.Leaves.{HasLeaf}
use Rattle.case_core.specs.Leaf.{Leaf}
use Rattle.case_core.specs.Target.{Target}
use Rattle.case_core.specs.Target.TheVariants.{Leaf as Named, Node}
use Rattle.case_core.specs.Bundle.{lines_of}
use Rattle.case_core.specs.Label.{label_name, IsTargetOf}
use Rattle.case_core.specs.Case.{CaseOf, SectionOf}
use Rattle.case_core.specs.Sections.{IsCaseOf}
use Rattle.mark_board.specs.declared.mark.Mark.{Mark}
use Rattle.mark_board.specs.Findings.{AreFindings}
use Rattle.proof_folder.specs.Added.{LeafFile, texts_of, sections_of, MayAllBeAdded, IsCaseWith}
use Rattle.proof_folder.specs.Added.{AreAlmost}
use Rattle.proof_folder.specs.Given.{Given, name_of, leaf_number, leaves_of, files_of, HasFewLeaves}
use Rattle.proof_folder.specs.Given.{MayBeGiven, AreMarksBy, AreFoundApart, IsJudgedAs}

-- a line end behind a text changes nothing of its proof
abbrev pub LineEndKeepsProof : Type 0
LineEndKeepsProof = (text : List ℕ) (proof : Proof)
    → IsProofOf (text ++ 10 ∷ []) proof ↔ IsProofOf text proof

-- a bundle with the files of leaves added stands for the case with their sections
abbrev pub AddedMakeACase : Type 0
AddedMakeACase = (bundle : List ℕ) (case : CaseOf) (leaves : List LeafFile) → IsCaseOf bundle case
    → MayAllBeAdded case.tree case.sections leaves
    → IsCaseWith (bundle ++ texts_of leaves) case (sections_of leaves)

-- the marks of findings by proofs without the line ends are those of the findings
abbrev pub FindingsWithoutLineEnds : Type 0
FindingsWithoutLineEnds = (case whole : CaseOf) (sections : List SectionOf) (marks : List Mark)
    → whole.formula ≡ case.formula → whole.tree ≡ case.tree → AreAlmost sections whole.sections
    → AreFindings (record { formula = case.formula; tree = case.tree; sections = sections }) marks
    → AreFindings whole marks

-- marks that are right where proofs are given for leaves are those of the findings of the case with
-- these proofs as sections behind its own
abbrev pub FindingsWithLeaves : Type 0
FindingsWithLeaves =
    (bundle : List ℕ) (case : CaseOf) (given : Given) (marks : List Mark) → IsCaseOf bundle case
    → AreMarksBy case given marks
    → AreFindings (record {
      formula = case.formula;
      tree = case.tree;
      sections = case.sections ++ sections_of (files_of given case.tree);
    }) marks

-- a leaf's name is one line, and behind an l and a space it names the leaf
abbrev pub NamesNameLeaves : Type 0
NamesNameLeaves = (tree : SplitTree) (leaf : Leaf) → HasLeaf tree leaf → leaf_number leaf < 2 ^ 64
    → (lines_of (name_of leaf) ≡ name_of leaf ∷ [])
    × IsTargetOf tree (label_name (words (codes "l " ++ name_of leaf))) (Named leaf)

-- the leaves of a case's tree in order are all leaves of the tree
abbrev pub LeavesAreAll : Type 0
LeavesAreAll = (bundle : List ℕ) (case : CaseOf) (leaf : Leaf) → IsCaseOf bundle case
    → HasLeaf case.tree leaf → Contains (leaves_of case.tree) leaf

-- Where a bundle stands for a case, and marks are right where proofs are given for its leaves, the
-- bundle with these proofs as sections behind it stands for a case whose findings have these marks.
abbrev pub JudgedWithLeaves : Type 0
JudgedWithLeaves =
    (bundle : List ℕ) (case : CaseOf) (given : Given) (marks : List Mark) → IsCaseOf bundle case
    → HasFewLeaves case.tree → MayBeGiven case given → AreMarksBy case given marks
    → IsJudgedAs (bundle ++ texts_of (files_of given case.tree)) case marks

-- Where each target was judged by itself, by what was given for it, and nothing lies elsewhere for
-- inner nodes, all that was given for leaves together may be given, and the marks are right for it.
abbrev pub GivenOneByOne : Type 0
GivenOneByOne = (bundle : List ℕ) (case : CaseOf) (known : Target → Option (Option (List ℕ)))
    (marks : List Mark) → IsCaseOf bundle case → ((node : ℕ) → known (Node node) ≡ Some None)
    → AreFoundApart known case marks → (given : Given)
    × ((leaf : Leaf) → HasLeaf case.tree leaf →
    IfSome (known (Named leaf)) (λ held. given leaf ≡ held))
    × MayBeGiven case given × AreMarksBy case given marks
