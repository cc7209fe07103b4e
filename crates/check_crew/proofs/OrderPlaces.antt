-- The places of all sections, in any order.
use Rattle.std.proofs.Common.{◌≡◌, ℕ, ◌<◌, List, All, ◌∙◌, arith}
use Rattle.std.specs.List.{Contains, range_with_len}
use Rattle.std.specs.List.Sorted.{IsPermutation}
use Rattle.std.proofs.lemmas.List.FromFn.{length-range_with_len, get_or-range_with_len}
use Rattle.std.proofs.lemmas.List.Sorted.{Contains-permutation, All-permutation, length_permutation}
use Rattle.check_crew.specs.Inner.Order.{IsOrder}

places_below : (sections : ℕ) → All (λ place. place < sections) (range_with_len 0 sections)
places_below sections k other inside =
    let within : k < sections = omega (arith, length-range_with_len 0 sections) in
    omega (arith, get_or-range_with_len 0 sections k other within)

place_there : (sections place : ℕ) → place < sections → Contains (range_with_len 0 sections) place
place_there sections place below = (
  place,
  omega (arith, length-range_with_len 0 sections),
  omega (arith, get_or-range_with_len 0 sections place place below),
)

-- the places of all sections after a sort
pub sorted_order : (sections : ℕ) (places order : List ℕ) → places ≡ range_with_len 0 sections →
    IsPermutation places order → IsOrder sections order
sorted_order sections places order are moved =
    let moved : IsPermutation (range_with_len 0 sections) order = rw are at moved in record {
      long =
          length_permutation (range_with_len 0 sections) order moved
          ∙ length-range_with_len 0 sections;
      within =
          All-permutation (λ place. place < sections) (range_with_len 0 sections) order moved
          (places_below sections);
      each =
          λ place below.
          Contains-permutation (range_with_len 0 sections) order place moved
          (place_there sections place below);
    }
