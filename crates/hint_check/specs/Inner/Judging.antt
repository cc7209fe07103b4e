-- How far the judgement of a text is, for the contracts of private functions.
use Rattle.std.specs.Prelude.{◌≡◌, ◌++◌, ℕ, false, List, Option, None, Some}
use Rattle.lrat_binary_words.specs.Binary.{text_of}
use Rattle.hint_check.specs.Live.{Live, holds_empty_clause}
use Rattle.hint_check.specs.Judging.{judged_left, decided_or}
use Rattle.hint_check.specs.declared.Judged.{Judged}

-- while nothing is decided, no empty clause is live
abbrev pub IsOpen : Option Judged → Live → Type 0
IsOpen None live = holds_empty_clause live ≡ false
IsOpen (Some judged) live = Unit {0}

-- from here the judgement is the same, whatever follows
pub record GoesOnAs (before : Live) (first : ℕ) (unread : List ℕ) (decided : Option Judged)
    (live : Live) (number : ℕ) (left : List ℕ) : Type 0 where
  pub is_open : IsOpen decided live
  pub same : (rest : List ℕ) → judged_left before first (unread ++ rest)
      ≡ decided_or decided (judged_left live number (left ++ rest))

-- the same of the bytes of a binary proof
pub record GoesOnBinary (before : Live) (first : ℕ) (bytes : List ℕ) (decided : Option Judged)
    (live : Live) (number : ℕ) (left : List ℕ) : Type 0 where
  pub is_open : IsOpen decided live
  pub same : (rest : List ℕ) → judged_left before first (text_of (bytes ++ rest))
      ≡ decided_or decided (judged_left live number (text_of (left ++ rest)))
