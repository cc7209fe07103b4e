-- A case as data that models keep: each part by the code of its type.
use Rattle.std.specs.Prelude.{ℕ, zero, suc, ◌≡◌, refl, List}
use Rattle.std.specs.Coded.{Coded, code_by, coded×, coded_ℕ, coded_list}
use Rattle.cnf_text.specs.Literal.{Literal, literal_code}
use Rattle.split_tree.specs.SplitTree.{SplitTree}
use Rattle.split_tree.specs.TreeCode.{tree_code}
use Rattle.split_tree.specs.declared.node.Leaf.TheVariants.{Cube, Missing}
use Rattle.split_tree.specs.declared.node.Target.{Target}
use Rattle.split_tree.specs.declared.node.Target.TheVariants.{Leaf, Node}
use Rattle.case_core.specs.Case.{SectionOf, CaseOf}

abbrev pub target_pair : Target → ℕ × ℕ
target_pair (Leaf (Cube k)) = (0, k)
target_pair (Leaf (Missing j)) = (1, j)
target_pair (Node n) = (2, n)

abbrev pub pair_target : ℕ → ℕ → Target
pair_target zero k = Leaf (Cube k)
pair_target (suc zero) j = Leaf (Missing j)
pair_target (suc (suc m)) n = Node n

pub pair_target-target_pair : (t : Target) → pair_target (target_pair t).0 (target_pair t).1 ≡ t
pair_target-target_pair (Leaf (Cube k)) = refl
pair_target-target_pair (Leaf (Missing j)) = refl
pair_target-target_pair (Node n) = refl

abbrev pub target_code : Coded Target
target_code =
    code_by (ℕ × ℕ) (coded× coded_ℕ coded_ℕ) target_pair (λ p. pair_target p.0 p.1)
    pair_target-target_pair

abbrev pub section_code : Coded SectionOf
section_code =
    code_by (Target × List ℕ) (coded× target_code (coded_list coded_ℕ)) (λ s. (s.target, s.proof))
    (λ p. record { target = p.0; proof = p.1 }) (λ _. refl)

abbrev pub case_code : Coded CaseOf
case_code =
    code_by (List (List Literal) × (SplitTree × List SectionOf))
    (coded× (coded_list (coded_list literal_code)) (coded× tree_code (coded_list section_code)))
    (λ c. (c.formula, (c.tree, c.sections)))
    (λ p. record { formula = p.0; tree = p.1.0; sections = p.1.1 }) (λ _. refl)
