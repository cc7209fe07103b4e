-- The number with which bytes begin, byte by byte.
use Rattle.std.proofs.Common.{◌≡◌, ℕ, ◌+◌, ◌-◌, ◌*◌, ◌%◌, ◌<◌, ◌≤◌, List, [], ◌∷◌, map, length}
use Rattle.std.proofs.Common.{refl, sym, ap, ◌∙◌, arith, subst, take, drop, get_or, suc}
use Rattle.std.proofs.lemmas.List.{take_rest}
use Rattle.std.proofs.lemmas.Bool.{le-leb, lt-leb}
use Rattle.lrat_binary.specs.Binary.{onto_first, numbers_of, capped}
use Rattle.lrat_binary.specs.Decoder.{numbers_left}
use Rattle.lrat_binary.specs.Numbers.{begun_of, IsNumber}
use Rattle.lrat_binary.proofs.DecoderBytes.{more_bits, next_numbers}

-- bytes begin with a number of this value
record Begins (bytes : List ℕ) (n : ℕ) (left : List ℕ) : Type 0 where
  pub numbers : numbers_of bytes ≡ n ∷ numbers_of left
  pub begun : begun_of bytes ≡ begun_of left

-- a number's last byte
last_byte : (byte : ℕ) (rest : List ℕ) → byte < 128 → Begins (byte ∷ rest) byte rest
last_byte byte rest low = record {
  numbers = rw (lt-leb 128 byte low) refl;
  begun = rw (lt-leb 128 byte low) refl;
}

-- a byte in front of a number
byte_before : (byte n : ℕ) (bytes left : List ℕ) → 128 ≤ byte → Begins bytes n left →
    Begins (byte ∷ bytes) (byte - 128 + 128 * n) left
byte_before byte n bytes left high more = record {
  numbers = rw (le-leb 128 byte high, more.numbers) refl;
  begun = rw (le-leb 128 byte high, more.numbers) more.begun;
}

-- a number that has no more than 64 bits
plain : (bytes left : List ℕ) (n number : ℕ) → Begins bytes n left → number ≡ n →
    n < 18446744073709551616 → IsNumber bytes number left
plain bytes left n number begins is small =
    let counts : capped n ≡ n = omega arith in (
      ap (map capped) begins.numbers
          ∙ ap (λ m. m ∷ map capped (numbers_of left)) (counts ∙ sym is),
      begins.begun,
    )

one_byte : (byte number : ℕ) (rest : List ℕ) → byte < 128 → number ≡ byte →
    IsNumber (byte ∷ rest) number rest
one_byte byte number rest low is =
    plain (byte ∷ rest) rest byte number (last_byte byte rest low) is (omega arith)

two_bytes : (first second number : ℕ) (rest : List ℕ) → 128 ≤ first → first < 256 →
    second < 128 → number ≡ first % 128 + 128 * second →
    IsNumber (first ∷ second ∷ rest) number rest
two_bytes first second number rest high small low is =
    let bits : first % 128 ≡ first - 128 = omega arith in
    plain (first ∷ second ∷ rest) rest (first - 128 + 128 * second) number
    (byte_before first second (second ∷ rest) rest high (last_byte second rest low))
    (is ∙ ap (λ b. b + 128 * second) bits) (omega arith)

three_bytes : (first second third front number : ℕ) (rest : List ℕ) → 128 ≤ first →
    first < 256 → 128 ≤ second → second < 256 → third < 128 →
    front ≡ first % 128 + 128 * (second % 128) → number ≡ front + 16384 * third →
    IsNumber (first ∷ second ∷ third ∷ rest) number rest
three_bytes first second third front number rest high small high2 small2 low front_is is =
    let bits : first % 128 ≡ first - 128 = omega arith in
    let more : second % 128 ≡ second - 128 = omega arith in
    let whole : number ≡ first - 128 + 128 * (second - 128 + 128 * third) =
    is ∙ ap (λ f. f + 16384 * third)
    (front_is ∙ ap (λ b. b + 128 * (second % 128)) bits
    ∙ ap (λ b. first - 128 + 128 * b) more) ∙ (omega arith) in
    plain (first ∷ second ∷ third ∷ rest) rest
    (first - 128 + 128 * (second - 128 + 128 * third)) number
    (byte_before first (second - 128 + 128 * third) (second ∷ third ∷ rest) rest high
    (byte_before second third (third ∷ rest) rest high2 (last_byte third rest low)))
    whole (omega arith)

-- what was read of the number with which bytes begin: its bits so far have this value, and the next
-- count so much
pub record ReadSoFar (bytes : List ℕ) (scale value : ℕ) (left : List ℕ) : Type 0 where
  pub numbers : numbers_left scale value (numbers_of left) ≡ map capped (numbers_of bytes)
  pub begun : (n : ℕ) (others : List ℕ) → numbers_of left ≡ n ∷ others →
      begun_of left ≡ begun_of bytes
  pub small : (i : ℕ) → get_or left i 0 < 256

pub none_read : (bytes : List ℕ) → ((i : ℕ) → get_or bytes i 0 < 256) → ReadSoFar bytes 1 0 bytes
none_read bytes small = record {
  numbers = next_numbers (numbers_of bytes);
  begun = λ n others is. refl;
  small = small;
}

byte_read : (bytes rest : List ℕ) (scale value byte w t : ℕ) → 128 ≤ byte → byte < 256 →
    w ≡ capped (value + scale * (byte % 128)) → t ≡ capped (scale * 128) →
    ReadSoFar bytes scale value (byte ∷ rest) → ReadSoFar bytes t w rest
byte_read bytes rest scale value byte w t high small w_is t_is so_far =
    let bits : byte % 128 ≡ byte - 128 = omega arith in
    let front : numbers_of (byte ∷ rest) ≡ onto_first (byte - 128) (numbers_of rest) =
    rw (le-leb 128 byte high) refl in
    record {
      numbers =
          rw (w_is, t_is, bits)
          (sym (more_bits value scale (byte - 128) (numbers_of rest))
          ∙ ap (numbers_left scale value) (sym front) ∙ so_far.numbers);
      begun = λ n others is.
          sym (rw (le-leb 128 byte high, is) refl)
          ∙ so_far.begun (byte - 128 + 128 * n) others
          (front ∙ ap (onto_first (byte - 128)) is);
      small = λ i. so_far.small (suc i);
    }

number_read : (bytes rest : List ℕ) (scale value byte w : ℕ) → byte < 128 →
    w ≡ capped (value + scale * (byte % 128)) → ReadSoFar bytes scale value (byte ∷ rest) →
    IsNumber bytes w rest
number_read bytes rest scale value byte w low w_is so_far =
    let bits : byte % 128 ≡ byte = omega arith in
    let here : numbers_of (byte ∷ rest) ≡ byte ∷ numbers_of rest = rw (lt-leb 128 byte low) refl in
    let behind : begun_of (byte ∷ rest) ≡ begun_of rest = rw (lt-leb 128 byte low) refl in (
      sym so_far.numbers ∙ ap (numbers_left scale value) here
          ∙ ap (λ m. m ∷ map capped (numbers_of rest))
          (sym (w_is ∙ ap (λ b. capped (value + scale * b)) bits)),
      sym (so_far.begun byte (numbers_of rest) here) ∙ behind,
    )

-- ---- bytes by their parts

abbrev pub behind : ℕ → List ℕ → List ℕ
behind n bytes = take (length bytes - n) (drop n bytes)

first_of : (bytes : List ℕ) → 0 < length bytes → bytes ≡ get_or bytes 0 0 ∷ behind 1 bytes
first_of [] some = absurd (omega arith)
first_of (a ∷ bytes) some = rw take_rest refl

two_of : (bytes : List ℕ) → 1 < length bytes →
    bytes ≡ get_or bytes 0 0 ∷ get_or bytes 1 0 ∷ behind 2 bytes
two_of [] some = absurd (omega arith)
two_of (a ∷ []) some = absurd (omega arith)
two_of (a ∷ b ∷ bytes) some = rw take_rest refl

three_of : (bytes : List ℕ) → 2 < length bytes →
    bytes ≡ get_or bytes 0 0 ∷ get_or bytes 1 0 ∷ get_or bytes 2 0 ∷ behind 3 bytes
three_of [] some = absurd (omega arith)
three_of (a ∷ []) some = absurd (omega arith)
three_of (a ∷ b ∷ []) some = absurd (omega arith)
three_of (a ∷ b ∷ c ∷ bytes) some = rw take_rest refl

pub one_byte_of : (bytes : List ℕ) (number : ℕ) → 0 < length bytes → get_or bytes 0 0 < 128 →
    number ≡ get_or bytes 0 0 → IsNumber bytes number (behind 1 bytes)
one_byte_of bytes number some low is =
    subst (λ b. IsNumber b number (behind 1 bytes)) (sym (first_of bytes some))
    (one_byte (get_or bytes 0 0) number (behind 1 bytes) low is)

pub two_bytes_of : (bytes : List ℕ) (number : ℕ) → 1 < length bytes → 128 ≤ get_or bytes 0 0 →
    get_or bytes 0 0 < 256 → get_or bytes 1 0 < 128 →
    number ≡ get_or bytes 0 0 % 128 + 128 * get_or bytes 1 0 →
    IsNumber bytes number (behind 2 bytes)
two_bytes_of bytes number some high small low is =
    subst (λ b. IsNumber b number (behind 2 bytes)) (sym (two_of bytes some))
    (two_bytes (get_or bytes 0 0) (get_or bytes 1 0) number (behind 2 bytes) high small low is)

pub three_bytes_of : (bytes : List ℕ) (front number : ℕ) → 2 < length bytes →
    128 ≤ get_or bytes 0 0 → get_or bytes 0 0 < 256 → 128 ≤ get_or bytes 1 0 →
    get_or bytes 1 0 < 256 → get_or bytes 2 0 < 128 →
    front ≡ get_or bytes 0 0 % 128 + 128 * (get_or bytes 1 0 % 128) →
    number ≡ front + 16384 * get_or bytes 2 0 → IsNumber bytes number (behind 3 bytes)
three_bytes_of bytes front number some high small high2 small2 low front_is is =
    subst (λ b. IsNumber b number (behind 3 bytes)) (sym (three_of bytes some))
    (three_bytes (get_or bytes 0 0) (get_or bytes 1 0) (get_or bytes 2 0) front number
    (behind 3 bytes) high small high2 small2 low front_is is)

pub byte_taken : (bytes left : List ℕ) (scale value w t : ℕ) → 0 < length left →
    128 ≤ get_or left 0 0 →
    w ≡ capped (value + scale * (get_or left 0 0 % 128)) → t ≡ capped (scale * 128) →
    ReadSoFar bytes scale value left → ReadSoFar bytes t w (behind 1 left)
byte_taken bytes left scale value w t some high w_is t_is so_far =
    byte_read bytes (behind 1 left) scale value (get_or left 0 0) w t high (so_far.small 0) w_is
    t_is
    (subst (λ l. ReadSoFar bytes scale value l) (first_of left some) so_far)

pub number_taken : (bytes left : List ℕ) (scale value w : ℕ) → 0 < length left →
    get_or left 0 0 < 128 → w ≡ capped (value + scale * (get_or left 0 0 % 128)) →
    ReadSoFar bytes scale value left → IsNumber bytes w (behind 1 left)
number_taken bytes left scale value w some low w_is so_far =
    number_read bytes (behind 1 left) scale value (get_or left 0 0) w low w_is
    (subst (λ l. ReadSoFar bytes scale value l) (first_of left some) so_far)

pub no_number : (bytes left : List ℕ) (scale value : ℕ) → length left < 1 →
    ReadSoFar bytes scale value left → map capped (numbers_of bytes) ≡ []
no_number bytes [] scale value none so_far = sym so_far.numbers
no_number bytes (b ∷ left) scale value none so_far = absurd (omega arith)
