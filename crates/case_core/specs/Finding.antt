-- What is found of a target: the judgement of its section.
use Rattle.std.specs.Prelude.{◌≡◌, ◌≢◌, ℕ, List, Option, None, Some}
use Rattle.cnf_text.specs.Literal.{Literal}
use Rattle.cnf_text.specs.Formula.{IsRefuted}
use Rattle.hint_check.specs.Proof.{Proof, IsProofOf}
use Rattle.hint_check.specs.Judgement.{judgement}
use Rattle.hint_check.specs.declared.Judged.{Judged}
use Rattle.hint_check.specs.declared.Judged.TheVariants.{Refuted}
use Rattle.split_tree.specs.Leaves.{IsPathOf}
use Rattle.split_tree.specs.declared.node.Leaf.{Leaf}
use Rattle.split_tree.specs.declared.node.Target.{Target}
use Rattle.split_tree.specs.declared.node.Target.TheVariants.{Leaf as Named, Node}
use Rattle.case_core.specs.Case.{CaseOf, proof_for}

-- the target that a finding is of: its leaf, or else the inner node with its number
abbrev pub target_of : Option Leaf → ℕ → Target
target_of (Some leaf) node = Named leaf
target_of None node = Node node

-- the target's section is judged so: from the formula and the literals of the target's path
abbrev pub IsFinding : CaseOf → Target → Judged → Type 0
IsFinding case target judged =
    (path : List Literal) (text : List ℕ) (proof : Proof) → IsPathOf case.tree target path
    → proof_for case.sections target ≡ Some text → IsProofOf text proof
    → judged ≡ judgement case.formula path proof

-- the target has a section
abbrev pub HasSection : CaseOf → Target → Type 0
HasSection case target = proof_for case.sections target ≢ None

-- this text, as a proof for the target, is judged so: from the formula and the literals of the
-- target's path
abbrev pub IsFoundBy : CaseOf → Target → List ℕ → Judged → Type 0
IsFoundBy case target text judged =
    (path : List Literal) (proof : Proof) → IsPathOf case.tree target path → IsProofOf text proof
    → judged ≡ judgement case.formula path proof

-- where the target is judged refuted, the formula has no model together with the literals of its
-- path
abbrev pub IsSoundFinding : CaseOf → Target → Judged → Type 0
IsSoundFinding case target judged =
    judged ≡ Refuted → (path : List Literal) → IsPathOf case.tree target path
    → IsRefuted case.formula path
