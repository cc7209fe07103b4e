-- A formula that is refuted on both branches of a path is refuted on the path.
use Rattle.std.proofs.Common.{◌≡◌, ℕ, List, [], ◌∷◌, ◌++◌, Bool, true, false, refl, sym, ap, ◌∙◌}
use Rattle.std.proofs.Common.{inl, inr, append_assoc}
use Rattle.std.proofs.lemmas.Bool.{cases_Bool}
use Rattle.std.proofs.lemmas.List.{map-append}
use Rattle.std.proofs.lemmas.List.Elements.{All-push}
use Rattle.cnf_text.specs.Literal.{Literal}
use Rattle.cnf_text.specs.Formula.{literal_true, clause_true, IsModel, IsRefuted, units}
use Rattle.split_tree.specs.SplitTree.{branch}

units_branch : (formula : List (List Literal)) (path : List Literal) (l : Literal) →
    formula ++ units (path ++ l ∷ []) ≡ (formula ++ units path) ++ (l ∷ []) ∷ []
units_branch formula path l =
    ap (λ (cs : List (List Literal)). formula ++ cs)
    (map-append (λ (m : Literal). m ∷ []) path (l ∷ []))
    ∙ sym (append_assoc formula (units path) ((l ∷ []) ∷ []))

unit_true : (v : ℕ → Bool) (l : Literal) → literal_true v l ≡ true → clause_true v (l ∷ []) ≡ true
unfolding clause_true
unit_true v l e = rw e refl

signed_true : (v : ℕ → Bool) (n : ℕ) (sign : Bool) → v n ≡ sign →
    literal_true v (record { variable = n; positive = sign }) ≡ true
unfolding literal_true
signed_true v n true e = e
signed_true v n false e = rw e refl

model_more : (v : ℕ → Bool) (formula : List (List Literal)) (path : List Literal) (n : ℕ)
    (sign : Bool) → v n ≡ sign →
    IsModel v (formula ++ units path) → IsModel v (formula ++ units (branch path n sign))
model_more v formula path n sign e m =
    rw (units_branch formula path (record { variable = n; positive = sign }))
    (All-push (λ (c : List Literal). clause_true v c ≡ true) (formula ++ units path)
    (record { variable = n; positive = sign } ∷ []) m
    (unit_true v (record { variable = n; positive = sign }) (signed_true v n sign e)))

-- what is refuted on both branches of a path is refuted on the path
pub both_refuted : (formula : List (List Literal)) (path : List Literal) (n : ℕ) →
    IsRefuted formula (branch path n true) → IsRefuted formula (branch path n false) →
    IsRefuted formula path
both_refuted formula path n h k v m = elim (cases_Bool (v n)) [
  | inl is_true ↦ h v (model_more v formula path n true is_true m)
  | inr is_false ↦ k v (model_more v formula path n false is_false m)
]
