-- Which nodes are noted when marks are compared.
use Rattle.std.proofs.Common.{◌≡◌, ◌≢◌, ℕ, Bool, true, false, List, get_or}
use Rattle.std.proofs.Common.{sym, ◌∙◌, subst, set}
use mathlib.Core.Logic.{dite}
use native.Mathlib.Decide.{ℕ_discrete}
use Rattle.std.proofs.lemmas.List.{get_or-set_other}

-- a node of which this holds may be noted, too
pub noted_more : (Holds : ℕ → Type 0) (noted : List Bool) (place : ℕ)
    → ((node : ℕ) → get_or noted node false ≡ true → Holds node) → Holds place
    → (node : ℕ) → get_or (set noted place true) node false ≡ true → Holds node
noted_more Holds noted place were is node now =
    dite (ℕ_discrete node place)
    (λ (e : node ≡ place). subst Holds (sym e) is)
    (λ (ne : node ≢ place).
    were node (sym (get_or-set_other noted place node true false ne) ∙ now))
