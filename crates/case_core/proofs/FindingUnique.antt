-- A judgement of a proof from a target's path is the finding of the target.
use Rattle.std.proofs.Common.{◌≡◌, ◌≢◌, ℕ, List, Option, None, Some, refl, sym, ◌∙◌, ap, subst}
use Rattle.std.proofs.Common.{Result, Ok, Err}
use Rattle.case_core.specs.Finding.{IsFoundBy}
use Rattle.std.specs.Prelude.{IfOk}
use Rattle.cnf_text.specs.Literal.{Literal}
use Rattle.cnf_text.specs.Formula.{IsRefuted}
use Rattle.hint_check.specs.Proof.{Proof, IsProofOf}
use Rattle.hint_check.proofs.ProofUnique.{has_proof}
use Rattle.hint_check.specs.Live.{start}
use Rattle.hint_check.specs.Judgement.{judged_by, judgement}
use Rattle.hint_check.specs.declared.Judged.{Judged}
use Rattle.hint_check.specs.declared.Judged.TheVariants.{Refuted}
use Rattle.split_tree.specs.Leaves.{IsPathOf, IsTargetAt}
use Rattle.split_tree.specs.SplitTree.{SplitTree, path_at}
use Rattle.split_tree.specs.declared.node.Target.{Target}
use Rattle.case_core.specs.Case.{CaseOf, proof_for}
use Rattle.case_core.specs.Inner.Finding.{IsJudgement}
use Rattle.case_core.specs.Finding.{IsFinding, IsSoundFinding, HasSection}

-- what a judge over the formula answers of the path and the proof is the judgement of the proof
pub is_judged : {E : Type 0} (r : Result Judged E) (case : CaseOf) (target : Target)
    (text path : List _) (formula : List (List Literal))
    → formula ≡ case.formula → IsPathOf case.tree target path
    →
    IfOk r (λ judged. (proof : Proof) → IsProofOf text proof →
    judged ≡ judged_by (start formula path)
    proof)
    → IfOk r (λ judged. judged ≡ Refuted → IsRefuted formula path)
    → IfOk r (λ judged. IsJudgement case target text judged)
is_judged (Ok judged) case target text path formula same of is sound = record {
  path = path;
  of_target = of;
  is = λ proof of_text. is proof of_text ∙ ap (λ f. judgement f path proof) same;
  refuted = λ refuted. subst (λ f. IsRefuted f path) same (sound refuted);
}
is_judged (Err e) case target text path formula same of is sound = tt

-- a target that stands at one place has one path
pub one_path : (case : CaseOf) (target : Target) (a b : List Literal)
    → ((i j : ℕ) → IsTargetAt case.tree i target → IsTargetAt case.tree j target → i ≡ j)
    → IsPathOf case.tree target a → IsPathOf case.tree target b → a ≡ b
one_path case target a b once x y = x.2 ∙ ap (path_at case.tree) (once x.0 y.0 x.1 y.1) ∙ sym y.2

some_text : (a b : List ℕ) → Some a ≡ Some b → a ≡ b
some_text a b e = cc

-- the judgement of a target's section is the target's finding
pub is_found : (case : CaseOf) (target : Target) (text : List ℕ) (judged : Judged)
    → ((i j : ℕ) → IsTargetAt case.tree i target → IsTargetAt case.tree j target → i ≡ j)
    → proof_for case.sections target ≡ Some text → IsJudgement case target text judged
    → HasSection case target × IsFinding case target judged × IsSoundFinding case target judged
is_found case target text judged once found j = (
  λ none. let clash : Some text ≡ None = sym found ∙ none in cc,
  λ path other proof of is of_text.
      j.is proof (subst (λ t. IsProofOf t proof) (sym (some_text text other (sym found ∙ is)))
      of_text)
      ∙ ap (λ p. judgement case.formula p proof)
      (one_path case target j.path path once j.of_target of),
  λ refuted path of.
      subst (λ (p : List Literal). IsRefuted case.formula p)
      (one_path case target j.path path once j.of_target of) (j.refuted refuted),
)

-- where a target stands, the node's number given twice
pub stands_there : (a b : SplitTree) (node number : ℕ) (target : Target) → a ≡ b → number ≡ node →
    IsTargetAt a node target → IsTargetAt b number target
stands_there a b node number target tree is here =
    subst (λ (t : SplitTree). IsTargetAt t number target) tree (rw is here)

-- what is found of a target, of the same target otherwise named
pub found_of : (case : CaseOf) (target other : Target) (node : ℕ) (judged : Judged) → other ≡ target
    → HasSection case target × IsFinding case target judged × IsSoundFinding case target judged →
    IsTargetAt case.tree node target
    →
    IsTargetAt case.tree node other × HasSection case other × IsFinding case other judged
    × IsSoundFinding case other judged
found_of case target other node judged same found here =
    subst (λ (t : Target). IsTargetAt case.tree node t × HasSection case t × IsFinding case t judged
    × IsSoundFinding case t judged) (sym same)
    (here, found.0, found.1, found.2)

-- a target that stands at one node of one tree does so under its other name and in the same tree
pub only_there : (a b : SplitTree) (target named : Target) (node number : ℕ) → a ≡ b →
    number ≡ node → named ≡ target →
    ((i : ℕ) → IsTargetAt a i target → i ≡ node) → (i : ℕ) → IsTargetAt b i named → i ≡ number
only_there a b target named node number e f g only i at = only i (rw (e, ← g) at) ∙ sym f

some_of : (found : Option (List ℕ)) → found ≢ None → (text : List ℕ) × (found ≡ Some text)
some_of None has = absurd (has refl)
some_of (Some text) has = (text, refl)

-- a target is judged in one way
pub one_finding : (case : CaseOf) (target : Target) (path : List Literal) (first second : Judged) →
    IsPathOf case.tree target path → HasSection case target
    → IsFinding case target first → IsFinding case target second → first ≡ second
one_finding case target path first second of has one two =
    let there = some_of (proof_for case.sections target) has in
    let proof = has_proof there.0 in
    one path there.0 proof.0 of there.1 proof.1 ∙ sym (two path there.0 proof.0 of there.1 proof.1)

-- a target that stands at one node alone has one path there
once_there : (case : CaseOf) (target : Target) (node : ℕ)
    → ((i : ℕ) → IsTargetAt case.tree i target → i ≡ node) → (i j : ℕ) →
    IsTargetAt case.tree i target
    → IsTargetAt case.tree j target → i ≡ j
once_there case target node only i j a b = only i a ∙ sym (only j b)

-- the judgement of a text from a target's path is what is found by that text
pub found_by : (case : CaseOf) (target : Target) (text : List ℕ) (judged : Judged) (node : ℕ)
    → ((i : ℕ) → IsTargetAt case.tree i target → i ≡ node) → IsJudgement case target text judged
    → IsFoundBy case target text judged × IsSoundFinding case target judged
found_by case target text judged node only j = (
  λ path proof of of_text.
      j.is proof of_text
      ∙ ap (λ p. judgement case.formula p proof)
      (one_path case target j.path path (once_there case target node only) j.of_target of),
  λ refuted path of.
      subst (λ (p : List Literal). IsRefuted case.formula p)
      (one_path case target j.path path (once_there case target node only) j.of_target of)
      (j.refuted refuted),
)

-- of a target without a section nothing is said of a section
pub none_found : (case : CaseOf) (target : Target) (judged : Judged)
    → proof_for case.sections target ≡ None → IsFinding case target judged
none_found case target judged none path text proof of is of_text =
    let clash : Some text ≡ None = sym is ∙ none in absurd (cc)

-- what is found by it of a target without a section, under whichever name of the target
pub found_beside : (case : CaseOf) (target named : Target) (text : List ℕ) (judged : Judged)
    (node : ℕ) → named ≡ target → proof_for case.sections target ≡ None
    → IsTargetAt case.tree node target → ((i : ℕ) → IsTargetAt case.tree i target → i ≡ node)
    → IsJudgement case target text judged
    → IsTargetAt case.tree node named × ((i : ℕ) → IsTargetAt case.tree i named → i ≡ node)
    × IsFinding case named judged × IsSoundFinding case named judged
found_beside case target named text judged node same none here only j =
    subst (λ (t : Target). IsTargetAt case.tree node t
    × ((i : ℕ) → IsTargetAt case.tree i t → i ≡ node)
    × IsFinding case t judged × IsSoundFinding case t judged) (sym same) (
      here,
      only,
      none_found case target judged none,
      (found_by case target text judged node only j).1,
    )
