-- A proof that is judged while it is read, for the contracts of private functions.
use Rattle.std.specs.Prelude.{◌≡◌, ℕ, ◌+◌, List, [], ◌++◌, length, Option}
use Rattle.std.specs.Io.KnownBytes.{Consumes}
use Rattle.byte_flow.specs.Device.{IsLeft}
use Rattle.hint_check.specs.Judging.{JudgingOf, says, says_binary}
use Rattle.lrat_binary.specs.Binary.{text_of}
use Rattle.lrat_binary.specs.Form.{text_in_form}
use Rattle.lrat_binary.specs.declared.form.ProofForm.{ProofForm}
use Rattle.split_tree.specs.declared.node.Target.{Target}
use Rattle.case_core.specs.Bundle.{labels_of}
use Rattle.case_core.specs.Case.{CaseOf}
use Rattle.case_core.specs.Labelled.{HasFront, IsPart, LabelledOf}
use Rattle.case_core.specs.Reading.{IsFirstLabel}
use Rattle.case_core.specs.Inner.Finding.{IsJudgement}
use Rattle.case_core.specs.declared.reading.JudgedText.{JudgedText}
use Rattle.case_core.specs.declared.reading.ReadText.{ReadText}
use Rattle.case_core.specs.declared.reading.ReadText.TheVariants.{Judged, Labelled}

-- of each text a judging says the judgement from the case's formula and the target's path
abbrev pub IsBegun : CaseOf → Target → JudgingOf → Type 0
IsBegun case target j = (text : List ℕ) → IsJudgement case target text (says j text)

-- of a binary proof a judging says what it says of the text that the proof stands for
abbrev pub SaysByText : JudgingOf → Type 0
SaysByText j = (bytes : List ℕ) → says_binary j bytes ≡ says j (text_of bytes)

-- a proof that was opened in this form, and begins with these bytes, is a text
abbrev pub IsOpenedText : ProofForm → List ℕ → Type 0
IsOpenedText opened begun = (more : List ℕ) → text_in_form opened (begun ++ more) ≡ begun ++ more

-- of a text that was opened in this form: no line is a label line, and it is judged so, or its
-- first label line
abbrev pub IsTextOf : ProofForm → JudgingOf → List ℕ → ReadText → Type 0
IsTextOf opened begun bytes (Judged read) =
    (labels_of (text_in_form opened bytes) ≡ []) × (length bytes ≡ read.length)
    × (read.judged ≡ says begun (text_in_form opened bytes))
IsTextOf opened begun bytes (Labelled label) =
    (text_in_form opened bytes ≡ bytes) × IsFirstLabel bytes label.line.items label.lines

-- so it is of what a source had left
pub record IsTextRead (opened : ProofForm) (left : Option (List ℕ)) (begun : JudgingOf)
    (read : ReadText) : Type 0 where
  pub bytes : List ℕ
  pub is_left : IsLeft left bytes
  pub is : IsTextOf opened begun bytes read

-- bytes of a binary proof, behind so many others, were handed over to a judging while a source lost
-- them
pub record HasHanded (before after : Option (List ℕ)) (begun j : JudgingOf) (handed size : ℕ)
    : Type 0 where
  pub bytes : List ℕ
  pub lost : Consumes before after bytes
  pub judged : (rest : List ℕ) → says_binary j rest ≡ says_binary begun (bytes ++ rest)
  pub long : size ≡ handed + length bytes

-- a binary proof is judged by what a source had left, behind so many other bytes
pub record IsRestJudged (left : Option (List ℕ)) (begun : JudgingOf) (handed : ℕ)
    (read : JudgedText) : Type 0 where
  pub bytes : List ℕ
  pub is_left : IsLeft left bytes
  pub judged : read.judged ≡ says_binary begun bytes
  pub long : read.length ≡ handed + length bytes

-- the front of a part of a text was handed over to a judging
pub record HasFrontJudged (old new : LabelledOf) (before after : List ℕ → Type 0)
    (begun j : JudgingOf) (size : ℕ) : Type 0 where
  pub bytes : List ℕ
  pub front : HasFront old new before after bytes
  pub judged : (rest : List ℕ) → says j rest ≡ says begun (bytes ++ rest)
  pub long : size ≡ length bytes

-- a part of a text is judged so
pub record IsPartJudged (old new : LabelledOf) (before after : List ℕ → Type 0) (begun : JudgingOf)
    (read : JudgedText) : Type 0 where
  pub bytes : List ℕ
  pub part : IsPart old new before after bytes
  pub judged : read.judged ≡ says begun bytes
  pub long : read.length ≡ length bytes
