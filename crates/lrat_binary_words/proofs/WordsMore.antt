-- The words of a binary proof that goes on.
use Rattle.std.proofs.Common.{◌≡◌, ℕ, ◌-◌, List, [], ◌∷◌, ◌++◌, map}
use Rattle.std.proofs.Common.{refl, sym, ap, ◌∙◌, inl, inr, append_assoc, append-nil, true}
use Rattle.std.specs.Prelude.{leb}
use Rattle.std.proofs.lemmas.Bool.{cases_Bool}
use Rattle.std.proofs.lemmas.List.{map-append}
use Rattle.lrat_text.specs.Decoding.{proof_in}
use Rattle.lrat_text.specs.Open.{proof_left}
use Rattle.lrat_text.specs.Proof.{Proof, IsProofOf}
use Rattle.lrat_text.specs.StepWords.{proof_with}
use Rattle.lrat_text.proofs.ProofUnique.{proof_is}
use Rattle.lrat_binary.specs.Binary.{onto_first, capped, ends_behind_number, numbers_of, text_of}
use Rattle.lrat_binary.specs.Numbers.{begun_with, begun_of}
use Rattle.lrat_binary_words.specs.Symbols.{symbols_for, symbols_at}
use Rattle.lrat_binary_words.proofs.SymbolsText.{symbols_are, symbols_of_text}
use Rattle.lrat_binary_words.specs.Words.{symbols_with_ends, ends_after, cut_of, left_between}
use Rattle.lrat_binary_words.specs.Words.{symbols_behind}

-- a byte that isn't the last one of its number in front of bytes that go on
before_more : (byte : ℕ) (bytes rest numbers : List ℕ) → leb 128 byte ≡ true →
    numbers_of bytes ≡ numbers →
    numbers_of (bytes ++ rest) ≡ numbers ++ numbers_of (begun_of bytes ++ rest) →
    onto_first (byte - 128) (numbers_of (bytes ++ rest))
    ≡ onto_first (byte - 128) numbers
    ++ numbers_of (begun_with (byte ∷ bytes) (begun_of bytes) numbers ++ rest)
before_more byte bytes rest [] high is more = sym (rw high refl)
before_more byte bytes rest (n ∷ numbers) high is more = ap (onto_first (byte - 128)) more

-- the numbers of bytes that go on
numbers_more : (bytes rest : List ℕ) →
    numbers_of (bytes ++ rest) ≡ numbers_of bytes ++ numbers_of (begun_of bytes ++ rest)
numbers_more [] rest = refl
numbers_more (byte ∷ bytes) rest = elim (cases_Bool (leb 128 byte)) [
  | inl high ↦ rw high
      (before_more byte bytes rest (numbers_of bytes) high refl (numbers_more bytes rest))
  | inr low ↦ rw low (ap (λ numbers. byte ∷ numbers) (numbers_more bytes rest))
]

-- the symbols of numbers that go on
symbols_more : (ends : ℕ) (xs ys : List ℕ) →
    symbols_at ends (xs ++ ys) ≡ symbols_at ends xs ++ symbols_at (ends_after ends xs) ys
symbols_more ends [] ys = refl
symbols_more ends (x ∷ xs) ys =
    ap (λ s. symbols_for ends x ++ s) (symbols_more (ends_behind_number ends x) xs ys)
    ∙ sym (append_assoc (symbols_for ends x) (symbols_at (ends_behind_number ends x) xs)
    (symbols_at (ends_after ends (x ∷ xs)) ys))

-- those of bytes that go on
pub goes_on : (ends : ℕ) (bytes rest : List ℕ) →
    symbols_with_ends ends (bytes ++ rest)
    ≡ symbols_with_ends ends bytes ++ symbols_behind (cut_of ends bytes) rest
goes_on ends bytes rest =
    ap (λ numbers. symbols_at ends (map capped numbers)) (numbers_more bytes rest)
    ∙ ap (symbols_at ends)
    (map-append capped (numbers_of bytes) (numbers_of (begun_of bytes ++ rest)))
    ∙ symbols_more ends (map capped (numbers_of bytes))
    (map capped (numbers_of (begun_of bytes ++ rest)))

-- the proof of the text that a binary proof stands for
text_proof : (bytes : List ℕ) → proof_left (text_of bytes) ≡ proof_in (symbols_with_ends 0 bytes)
text_proof bytes = ap proof_in (symbols_are 0 (numbers_of bytes))

-- it is that of the words that are left of the front, where the symbols of the rest follow
pub binary_more : (bytes rest : List ℕ) →
    proof_left (text_of (bytes ++ rest))
    ≡ proof_with (left_between bytes) (symbols_behind (cut_of 0 bytes) rest)
binary_more bytes rest = text_proof (bytes ++ rest) ∙ ap proof_in (goes_on 0 bytes rest)

-- where nothing follows
pub binary_last : (bytes : List ℕ) →
    proof_left (text_of bytes) ≡ proof_with (left_between bytes) []
binary_last bytes = text_proof bytes ∙ ap proof_in (sym (append-nil (symbols_with_ends 0 bytes)))

-- the text begins with a whole line
pub binary_proof : (bytes : List ℕ) (proof : Proof) → IsProofOf (text_of bytes) proof →
    proof_left (text_of bytes) ≡ proof
binary_proof bytes proof is =
    text_proof bytes ∙ ap proof_in (sym (symbols_of_text bytes))
    ∙ proof_is (text_of bytes) proof is
