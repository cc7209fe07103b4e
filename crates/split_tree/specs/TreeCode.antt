-- A tree as data that models keep.
use Rattle.std.specs.Prelude.{ℕ, suc, ◌≡◌, List, [], ◌∷◌, ◌++◌, zero}
use Rattle.std.proofs.Common.{refl, ap, ◌∙◌, sym, append_assoc, append-nil}
use Rattle.std.specs.Coded.{Coded, code_by, coded×, coded_ℕ, coded_list}
use Rattle.split_tree.specs.SplitTree.{SplitTree, missing, cube, split}

-- a split of the first two trees
abbrev pub join : ℕ → List SplitTree → List SplitTree
join v [] = []
join v (t ∷ []) = []
join v (positive ∷ negative ∷ trees) = split v positive negative ∷ trees

abbrev pub first_tree : List SplitTree → SplitTree
first_tree [] = missing
first_tree (t ∷ trees) = t

abbrev pub pairs : SplitTree → List (ℕ × ℕ)
pairs missing = (0, 0) ∷ []
pairs (cube k) = (1, k) ∷ []
pairs (split v positive negative) = (2, v) ∷ (pairs positive ++ pairs negative)

abbrev pub pair_trees : ℕ → ℕ → List SplitTree → List SplitTree
pair_trees zero k trees = missing ∷ trees
pair_trees (suc zero) k trees = cube k ∷ trees
pair_trees (suc (suc m)) k trees = join k trees

abbrev pub pairs_trees : List (ℕ × ℕ) → List SplitTree
pairs_trees [] = []
pairs_trees (p ∷ ps) = pair_trees p.0 p.1 (pairs_trees ps)

abbrev pub pairs_tree : List (ℕ × ℕ) → SplitTree
pairs_tree ps = first_tree (pairs_trees ps)

pub pairs_trees-pairs : (t : SplitTree) (ps : List (ℕ × ℕ))
    → pairs_trees (pairs t ++ ps) ≡ t ∷ pairs_trees ps
pairs_trees-pairs missing ps = refl
pairs_trees-pairs (cube k) ps = refl
pairs_trees-pairs (split v p n) ps =
    ap (λ (l : List (ℕ × ℕ)). join v (pairs_trees l)) (append_assoc (pairs p) (pairs n) ps)
    ∙ (ap (λ (l : List SplitTree). join v l) (pairs_trees-pairs p (pairs n ++ ps))
    ∙ ap (λ (l : List SplitTree). join v (p ∷ l)) (pairs_trees-pairs n ps))

pub pairs_tree-pairs : (t : SplitTree) → pairs_tree (pairs t) ≡ t
pairs_tree-pairs t =
    ap (λ (l : List (ℕ × ℕ)). pairs_tree l) (sym (append-nil (pairs t)))
    ∙ ap (λ (l : List SplitTree). first_tree l) (pairs_trees-pairs t [])

abbrev pub tree_code : Coded SplitTree
tree_code =
    code_by (List (ℕ × ℕ)) (coded_list (coded× coded_ℕ coded_ℕ)) pairs pairs_tree pairs_tree-pairs
