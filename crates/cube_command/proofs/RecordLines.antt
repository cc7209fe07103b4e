-- The line that names a text.
use Rattle.std.proofs.Common.{◌≡◌, ◌∙◌, refl, sym, ap₂, ℕ, zero, suc, ◌*◌, List, [], ◌∷◌, ◌++◌}
use Rattle.std.proofs.Common.{length, take, drop, slice_index, arith}
use Rattle.std.specs.Int.{to_be_bytes, w32}
use Rattle.std.proofs.Math.Seq.{take-append_seam, drop-append_seam}
use Rattle.std.proofs.lemmas.List.{length-append}
use Rattle.hex.specs.Hex.{encode_lower, encode_with, lower_digits}
use Rattle.sha2.specs.Sha256.{digest_bytes, final_hash, initial_hash_256, sha256}
use Rattle.cube_command.specs.Record.{digest_line}

long_digest : (hash : List ℕ) (words : ℕ) → length (digest_bytes hash words) ≡ words * 4
unfolding digest_bytes
long_digest hash zero = refl
long_digest hash (suc words) =
    let more = length-append (digest_bytes hash words) (to_be_bytes w32 (slice_index hash words)) in
    let word : length (to_be_bytes w32 (slice_index hash words)) ≡ 4 = refl in
    let before = long_digest hash words in omega (arith, more, word, before)

long_hex : (table bytes : List ℕ) → length (encode_with table bytes) ≡ length bytes * 2
unfolding encode_with
long_hex table [] = refl
long_hex table (b ∷ bytes) = let rest = long_hex table bytes in omega (arith, rest)

long_sum : (text : List ℕ) → length (sha256 text) ≡ 32
unfolding sha256
long_sum text = long_digest (final_hash initial_hash_256 text) 8

-- the lines that name texts have one length
long_line : (text : List ℕ) → length (digest_line text) ≡ 67
long_line text =
    let digits = length-append (encode_lower (sha256 text)) (10 ∷ []) in
    let hex = long_hex lower_digits (sha256 text) in
    let sum = long_sum text in omega (arith, digits, hex, sum)

-- so a text begins with one such line at most
pub one_line : (one other rest more : List ℕ) → digest_line one ++ rest ≡ digest_line other ++ more
    →
    (digest_line one ≡ digest_line other) × (rest ≡ more)
one_line one other rest more same =
    let long : length (digest_line one) ≡ length (digest_line other) =
    long_line one ∙ sym (long_line other) in (
      sym (take-append_seam (digest_line one) rest)
          ∙ ap₂ (λ (n : ℕ) (text : List ℕ). take n text) long same
          ∙ take-append_seam (digest_line other) more,
      sym (drop-append_seam (digest_line one) rest)
          ∙ ap₂ (λ (n : ℕ) (text : List ℕ). drop n text) long same
          ∙ drop-append_seam (digest_line other) more,
    )
