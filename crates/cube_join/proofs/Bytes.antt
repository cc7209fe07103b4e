-- Texts that are cut at a byte which they don't have.
use Rattle.std.proofs.Common.{◌≡◌, ℕ, List, [], ◌∷◌, ◌++◌}
use Rattle.std.proofs.Common.{refl, sym}
use Rattle.node_fields.specs.Bytes.{Lacks}

-- the bytes up to the first such byte, and what is behind it
pub cut : (d : ℕ) (xs ys r s : List ℕ) → Lacks d xs → Lacks d ys → xs ++ d ∷ r ≡ ys ++ d ∷ s →
    (xs ≡ ys) × (r ≡ s)
cut d [] [] r s h k e = (refl, cc)
cut d [] (y ∷ ys) r s h k e = let same : d ≡ y = cc in absurd (k.0 (sym same))
cut d (x ∷ xs) [] r s h k e = let same : x ≡ d = cc in absurd (h.0 same)
cut d (x ∷ xs) (y ∷ ys) r s h k e =
    let head : x ≡ y = cc in
    let rest : xs ++ d ∷ r ≡ ys ++ d ∷ s = cc in
    let both = cut d xs ys r s h.1 k.1 rest in
    let tail : xs ≡ ys = both.0 in (cc, both.1)
