-- Zeros behind a list of stamps.
use Rattle.std.proofs.Common.{◌≡◌, ℕ, zero, suc, List, [], ◌∷◌, ◌++◌, replicate, slice_index, refl}

get_or-zeros : (n i : ℕ) → slice_index (replicate n 0) i ≡ 0
get_or-zeros zero i = refl
get_or-zeros (suc n) zero = refl
get_or-zeros (suc n) (suc i) = get_or-zeros n i

-- zeros behind the list change no stamp
pub zeros-behind : (stamps : List ℕ) (n i : ℕ) →
    slice_index (stamps ++ replicate n 0) i ≡ slice_index stamps i
zeros-behind [] n i = get_or-zeros n i
zeros-behind (stamp ∷ stamps) n zero = refl
zeros-behind (stamp ∷ stamps) n (suc i) = zeros-behind stamps n i
