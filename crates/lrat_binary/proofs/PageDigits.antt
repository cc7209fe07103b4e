-- How many digits a number has.
use Rattle.std.proofs.Common.{◌≡◌, ◌∙◌, ℕ, ◌+◌, ◌/◌, ◌%◌, ◌<◌, ◌≤◌, ◌^◌, [], ◌∷◌, length, ap}
use Rattle.std.proofs.Common.{length-append, arith}
use Rattle.std.specs.Prelude.{decimal}
use Rattle.std.proofs.lemmas.Fmt.{decimal_step}
use Rattle.itoa.proofs.Decimal.{length_one}

pub one : (n : ℕ) → n < 10 → length (decimal n) ≡ 1
one n small = length_one n small

-- one more than without the last one
pub more : (n : ℕ) → 10 ≤ n → n < 2 ^ 64 → length (decimal n) ≡ length (decimal (n / 10)) + 1
more n large small =
    ap length (decimal_step n large small)
    ∙ length-append (decimal (n / 10)) ((48 + n % 10) ∷ [])

pub two : (n : ℕ) → 10 ≤ n → n < 100 → length (decimal n) ≡ 2
two n large small = omega (arith, more n large (omega arith), one (n / 10) (omega arith))

pub three : (n : ℕ) → 100 ≤ n → n < 1000 → length (decimal n) ≡ 3
three n large small =
    omega (arith, more n (omega arith) (omega arith), two (n / 10) (omega arith) (omega arith))

pub four : (n : ℕ) → 1000 ≤ n → n < 10000 → length (decimal n) ≡ 4
four n large small =
    omega (arith, more n (omega arith) (omega arith), three (n / 10) (omega arith) (omega arith))

pub five : (n : ℕ) → 10000 ≤ n → n < 100000 → length (decimal n) ≡ 5
five n large small =
    omega (arith, more n (omega arith) (omega arith), four (n / 10) (omega arith) (omega arith))
