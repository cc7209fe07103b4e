-- The text that a binary LRAT proof stands for: each number of it is a word of the text.
use Rattle.std.specs.Prelude.{ℕ, zero, suc, ◌+◌, ◌-◌, ◌*◌, ◌/◌, ◌%◌, ◌&&◌, ◌||◌, ◌==◌, leb, min}
use Rattle.std.specs.Prelude.{List, [], ◌∷◌, ◌++◌, map, codes, decimal, if◌then◌else◌, Bool, false}

-- seven bits in front of the first of some numbers; in front of none they are none
abbrev pub onto_first : ℕ → List ℕ → List ℕ
onto_first bits [] = []
onto_first bits (n ∷ numbers) = (bits + 128 * n) ∷ numbers

-- The numbers that bytes spell: seven bits a byte, the lowest first, and a byte from 128 on isn't
-- the last one of its number. What is begun at the end is no number.
abbrev pub numbers_of : List ℕ → List ℕ
numbers_of [] = []
numbers_of (byte ∷ bytes) =
    if leb 128 byte then onto_first (byte - 128) (numbers_of bytes) else byte ∷ numbers_of bytes

-- a number that has more than 64 bits counts as the greatest one that has 64, which no step has
abbrev pub capped : ℕ → ℕ
capped n = min n 18446744073709551615

-- the word of a number within a step: half of it, behind a minus where it is odd
abbrev pub word_of : ℕ → List ℕ
word_of n = (if n % 2 == 1 then codes "-" else []) ++ decimal (n / 2)

-- Where so many end marks of a step are still to come: how many are behind this number. Between
-- steps none is, and the bytes `a` and `d` begin an addition and a deletion.
abbrev pub ends_behind_number : ℕ → ℕ → ℕ
ends_behind_number zero n = if n == 97 then 2 else if n == 100 then 1 else 0
ends_behind_number (suc ends) n = if n == 0 then ends else suc ends

-- what stands for the number there: a line for each step, and a word that no step has for another
-- number between steps
abbrev pub text_for : ℕ → ℕ → List ℕ
text_for zero n = if n == 97 then [] else if n == 100 then codes "0 d " else codes "? "
text_for (suc ends) n = word_of n ++ (if n == 0 && ends == 0 then codes "\n" else codes " ")

abbrev pub text_at : ℕ → List ℕ → List ℕ
text_at ends [] = []
text_at ends (n ∷ numbers) = text_for ends n ++ text_at (ends_behind_number ends n) numbers

-- the text that the bytes of a binary proof stand for
abbrev pub text_of : List ℕ → List ℕ
text_of bytes = text_at 0 (map capped (numbers_of bytes))

-- a proof whose first byte is an a or a d is binary
abbrev pub is_binary : List ℕ → Bool
is_binary [] = false
is_binary (byte ∷ bytes) = byte == 97 || byte == 100

-- the text that a proof's bytes stand for
abbrev pub proof_text : List ℕ → List ℕ
proof_text bytes = if is_binary bytes then text_of bytes else bytes
