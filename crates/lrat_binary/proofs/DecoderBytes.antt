-- One byte more of a binary proof.
use Rattle.std.proofs.Common.{◌≡◌, ℕ, ◌+◌, ◌-◌, ◌*◌, ◌%◌, ◌<◌, ◌≤◌, suc, zero, List, [], ◌∷◌, ◌++◌}
use Rattle.std.proofs.Common.{map, refl, sym, ap, ◌∙◌, arith, inl, inr}
use Rattle.std.proofs.Math.Nat.{mul-add, mul_assoc}
use Rattle.std.proofs.lemmas.Bool.{cases_lt, le-leb, lt-leb}
use Rattle.lrat_binary.specs.Binary.{onto_first, numbers_of, capped, ends_behind_number, text_for}
use Rattle.lrat_binary.specs.Binary.{text_at}
use Rattle.lrat_binary.specs.Decoder.{numbers_left, text_left}

-- to count as the greatest number of 64 bits first, before more bits come, changes nothing

capped_plain : (v p y : ℕ) → capped (v + (p + y)) ≡ capped (capped (v + p) + y)
capped_plain v p y = omega arith

capped_many : (v p q n : ℕ) → 18446744073709551615 < q →
    capped (v + (p + q * n)) ≡ capped (capped (v + p) + 18446744073709551615 * n)
capped_many v p q zero large = omega arith
capped_many v p q (suc n) large = omega arith

as_large : (q : ℕ) → 18446744073709551615 < q → capped q ≡ 18446744073709551615
as_large q large = omega arith

as_is : (q : ℕ) → q ≤ 18446744073709551615 → capped q ≡ q
as_is q small = omega arith

capped_product : (v p q n : ℕ) →
    capped (v + (p + q * n)) ≡ capped (capped (v + p) + capped q * n)
capped_product v p q n = elim (cases_lt 18446744073709551615 q) [
  | inl large ↦ capped_many v p q n large
      ∙ sym (ap (λ m. capped (capped (v + p) + m * n)) (as_large q large))
  | inr small ↦ capped_plain v p (q * n)
      ∙ sym (ap (λ m. capped (capped (v + p) + m * n)) (as_is q small))
]

spread : (s b n : ℕ) → s * (b + 128 * n) ≡ s * b + s * 128 * n
spread s b n = mul-add s b (128 * n) ∙ ap (λ m. s * b + m) (sym (mul_assoc s 128 n))

capped_sum : (v s b n : ℕ) →
    capped (v + s * (b + 128 * n)) ≡ capped (capped (v + s * b) + capped (s * 128) * n)
capped_sum v s b n =
    ap (λ m. capped (v + m)) (spread s b n) ∙ capped_product v (s * b) (s * 128) n

pub more_bits : (v s bits : ℕ) (numbers : List ℕ)
    → numbers_left s v (onto_first bits numbers)
    ≡ numbers_left (capped (s * 128)) (capped (v + s * bits)) numbers
more_bits v s bits [] = refl
more_bits v s bits (n ∷ numbers) = ap (λ m. m ∷ map capped numbers) (capped_sum v s bits n)

one_time : (n : ℕ) → 0 + 1 * n ≡ n
one_time n = omega arith

-- behind a whole number
pub next_numbers : (numbers : List ℕ) → numbers_left 1 0 numbers ≡ map capped numbers
next_numbers [] = refl
next_numbers (n ∷ numbers) = ap (λ m. capped m ∷ map capped numbers) (one_time n)

-- a byte that isn't the last one of its number
pub taken_more : (ends s v byte w t : ℕ) → 128 ≤ byte → byte < 256
    → w ≡ capped (v + s * (byte % 128)) → t ≡ capped (s * 128) → (more : List ℕ)
    → text_left (record { ends = ends; scale = t; value = w }) more
    ≡ text_left (record { ends = ends; scale = s; value = v }) (byte ∷ more)
taken_more ends s v byte w t high small w_is t_is more =
    let bits : byte % 128 ≡ byte - 128 = omega arith in
    rw (w_is, t_is, bits, le-leb 128 byte high)
    (ap (text_at ends) (sym (more_bits v s (byte - 128) (numbers_of more))))

-- a byte that is the last one
pub taken_last : (ends s v byte w left : ℕ) → byte < 128 → w ≡ capped (v + s * (byte % 128))
    → left ≡ ends_behind_number ends w → (more : List ℕ)
    → text_for ends w ++ text_left (record { ends = left; scale = 1; value = 0 }) more
    ≡ text_left (record { ends = ends; scale = s; value = v }) (byte ∷ more)
taken_last ends s v byte w left low w_is left_is more =
    let bits : byte % 128 ≡ byte = omega arith in
    rw (left_is, w_is, bits, lt-leb 128 byte low, next_numbers (numbers_of more)) refl
