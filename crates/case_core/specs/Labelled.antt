-- A text that is read once, and stands at its label lines.
use Rattle.std.specs.Prelude.{◌≡◌, ◌⊎◌, ℕ, ◌+◌, ◌<◌, Bool, true, false, List, [], ◌∷◌, ◌++◌}
use Rattle.std.specs.Prelude.{MatchBool, count_by, length, refl}
use Rattle.std.specs.Coded.{Coded, code_by, coded×, coded_ℕ, coded_bool, coded_list}
use Rattle.byte_flow.specs.Device.{GrewBy, HasGiven}
use Rattle.cnf_text.specs.Tokens.{is_line_end}
use Rattle.case_core.specs.Bundle.{is_label, labels_of, lines_of}
use Rattle.case_core.specs.Bundle.{AreWholeLines}

-- A text from where it stands: lines that are ready, none of which is a label line, and what was
-- read behind them; whether that begins with a label line that is read whole, whether no more is to
-- be read, and how many lines of the text ended so far.
pub record LabelledOf : Type 0 where
  pub ready : List ℕ
  pub behind : List ℕ
  pub at_label : Bool
  pub is_last : Bool
  pub lines : ℕ

abbrev pub labelled_code : Coded LabelledOf
labelled_code =
    code_by (List ℕ × (List ℕ × (Bool × (Bool × ℕ))))
    (coded× (coded_list coded_ℕ) (coded× (coded_list coded_ℕ)
    (coded× coded_bool (coded× coded_bool coded_ℕ))))
    (λ t. (t.ready, (t.behind, (t.at_label, (t.is_last, t.lines)))))
    (λ p. record {
      ready = p.0;
      behind = p.1.0;
      at_label = p.1.1.0;
      is_last = p.1.1.1.0;
      lines = p.1.1.1.1;
    }) (λ _. refl)

-- a text of which nothing is passed, and these bytes are read
abbrev pub fresh_text : List ℕ → LabelledOf
fresh_text begun = record {
  ready = [];
  behind = begun;
  at_label = false;
  is_last = false;
  lines = 0;
}

-- a text of which nothing is read, below this front, whose lines are counted
abbrev pub text_below : List ℕ → LabelledOf
text_below front = record {
  ready = [];
  behind = [];
  at_label = false;
  is_last = false;
  lines = count_by is_line_end front;
}

-- all that is left of a text, where its stream may give these texts
abbrev pub rest_of_text : LabelledOf → (List ℕ → Type 0) → List ℕ → Type 0
rest_of_text text gives = GrewBy gives (text.ready ++ text.behind)

-- where no more is to be read of a text, its stream may be at its end
abbrev pub IsOverWith : LabelledOf → (List ℕ → Type 0) → Type 0
IsOverWith text gives = text.is_last ≡ true → gives []

-- A text went on behind these bytes: the next ones of what was in memory, and of what its stream
-- gave meanwhile, which is nothing where no more was to be read. So they are the next ones of all
-- that was left of the text (`left_passed`).
pub record HasPassed (old new : LabelledOf) (before after : List ℕ → Type 0) (bytes : List ℕ)
    : Type 0 where
  pub read : List ℕ
  pub given : HasGiven before after read
  pub parts : (old.ready ++ old.behind) ++ read ≡ bytes ++ (new.ready ++ new.behind)
  pub lines : new.lines ≡ old.lines + count_by is_line_end bytes
  pub over : IsOverWith old before → IsOverWith new after
  pub last : old.is_last ≡ true → (read ≡ []) × (new.is_last ≡ true)

-- a text begins with this label line, and this follows it
pub record IsBehindLabel (text line rest : List ℕ) : Type 0 where
  pub alone : lines_of line ≡ line ∷ []
  pub is : is_label line ≡ true
  pub parts : (text ≡ line ++ 10 ∷ rest) ⊎ ((text ≡ line) × (rest ≡ []))

-- it stands at a label line, which ends in memory or is the text's last line
pub record IsAtLabel (text : LabelledOf) : Type 0 where
  pub line : List ℕ
  pub below : List ℕ
  pub begins : IsBehindLabel text.behind line below
  pub whole : text.behind ≡ line → text.is_last ≡ true

-- where a text stands behind these bytes of it: at its end, or at a label line
abbrev pub Stands : List ℕ → LabelledOf → Type 0
Stands bytes new =
    ((new.behind ≡ []) × (new.at_label ≡ false) × (new.is_last ≡ true))
    ⊎ (AreWholeLines bytes × (new.at_label ≡ true) × IsAtLabel new)

-- these bytes of a text are all up to its next label line, or up to its end; there it stands
pub record IsPart (old new : LabelledOf) (before after : List ℕ → Type 0) (bytes : List ℕ)
    : Type 0 where
  pub passed : HasPassed old new before after bytes
  pub plain : labels_of bytes ≡ []
  pub ready : new.ready ≡ []
  pub stands : Stands bytes new

-- a text stands behind all lines up to its first label line, or up to its end
pub record IsBehindFront (front : List ℕ) (text : LabelledOf) (left : List ℕ → Type 0)
    : Type 0 where
  pub plain : labels_of front ≡ []
  pub stands : Stands front text
  pub over : IsOverWith text left
  pub lines : text.lines ≡ count_by is_line_end front

-- a text went on behind these bytes, which are whole lines, and none of them is a label line
pub record HasFront (old new : LabelledOf) (before after : List ℕ → Type 0) (bytes : List ℕ)
    : Type 0 where
  pub passed : HasPassed old new before after bytes
  pub plain : labels_of bytes ≡ []
  pub whole : AreWholeLines bytes

-- these bytes of a text are all up to its next label line, or up to its end; or they are whole
-- lines of it, more than so many bytes, and the text goes on behind them
abbrev pub IsFrontWithin : LabelledOf → LabelledOf → (List ℕ → Type 0) → (List ℕ → Type 0) → ℕ
    → List ℕ → Bool → Type 0
IsFrontWithin old new before after most bytes is_part =
    MatchBool is_part (IsPart old new before after bytes)
    (HasFront old new before after bytes × (most < length bytes))

-- a text went on behind the label line at which it stood; where no line end stands behind that, the
-- text is over
pub record IsLabelTaken (old new : LabelledOf) (line : List ℕ) (lines : ℕ) : Type 0 where
  pub stood : old.at_label ≡ true
  pub behind : IsBehindLabel old.behind line (new.ready ++ new.behind)
  pub last : old.behind ≡ line → new.is_last ≡ true
  pub same : new.is_last ≡ old.is_last
  pub before : lines ≡ old.lines
  pub counted : new.lines ≡ old.lines + 1
