-- Where a text is cut at its label lines.
use Rattle.std.specs.Prelude.{◌≡◌, ℕ, ◌+◌, ◌==◌, List, [], ◌∷◌, ◌++◌, length, false, All}
use Rattle.cnf_text.specs.Tokens.{words}
use Rattle.case_core.specs.Bundle.{lines_of, Labelled, labelled, BeginsWithLabel}
use Rattle.case_core.specs.Bundle.{AreWholeLines}

-- a text and its end
pub record EndsWith (text end : List ℕ) : Type 0 where
  pub front : List ℕ
  pub parts : text ≡ front ++ end

-- none of its lines is a label line
abbrev pub HasNoLabel : List ℕ → Type 0
HasNoLabel text = (number : ℕ) → labelled number (lines_of text) ≡ []

-- no byte of it is the letter l
abbrev pub HasNoLetter : List ℕ → Type 0
HasNoLetter bytes = All (λ b. (b == 108) ≡ false) bytes

-- the end of a text from the start of a line on, before which no byte is the letter l
pub record AfterPlainLines (text end : List ℕ) : Type 0 where
  pub front : List ℕ
  pub parts : text ≡ front ++ end
  pub plain : HasNoLetter front
  pub at_line : AreWholeLines front

-- a text in two parts, the second of which begins where a line does
pub record IsCutAtLine (text front end : List ℕ) : Type 0 where
  pub parts : text ≡ front ++ end
  pub at_line : AreWholeLines front

-- the end of a text from its first label line on
pub record FirstLabel (text end : List ℕ) : Type 0 where
  pub ends : EndsWith text end
  pub skipped : ℕ
  pub counted : skipped + length (lines_of end) ≡ length (lines_of text)
  pub labels : (number : ℕ)
      → labelled number (lines_of text) ≡ labelled (number + skipped) (lines_of end)
  pub begins : BeginsWithLabel end

-- a label line, with its number, and the section below it
abbrev pub at_line : ℕ → List ℕ → List ℕ → Labelled
at_line number line section = record { line = number; label = words line; section = section }

-- a text that begins with this label line and has no other
abbrev pub OneLabel : List ℕ → List ℕ → List ℕ → Type 0
OneLabel text line section =
    (number : ℕ) → labelled number (lines_of text) ≡ at_line number line section ∷ []

-- a text that begins with this label line, and its end from the next label line on
pub record NextLabel (text line section end : List ℕ) : Type 0 where
  pub ends : EndsWith text end
  pub skipped : ℕ
  pub counted : skipped + length (lines_of end) ≡ length (lines_of text)
  pub labels : (number : ℕ) → labelled number (lines_of text)
      ≡ at_line number line section ∷ labelled (number + skipped) (lines_of end)
  pub begins : BeginsWithLabel end
