-- A proof that is read, and the label line that ends it.
use Rattle.std.specs.Prelude.{◌≡◌, ℕ, List, [], ◌++◌, length, count_by}
use Rattle.cnf_text.specs.Tokens.{is_line_end}
use Rattle.lrat_binary.specs.Form.{text_in_form}
use Rattle.lrat_binary.specs.declared.form.ProofForm.{ProofForm}
use Rattle.split_tree.specs.declared.node.Target.{Target}
use Rattle.case_core.specs.Bundle.{labels_of}
use Rattle.case_core.specs.Case.{CaseOf}
use Rattle.case_core.specs.Finding.{IsFoundBy, target_of}
use Rattle.case_core.specs.Bundle.{AreWholeLines}
use Rattle.case_core.specs.Labelled.{IsBehindLabel, IsPart, LabelledOf}
use Rattle.case_core.specs.declared.examiner.ReadFinding.{ReadFinding}
use Rattle.case_core.specs.declared.examiner.ReadProof.{ReadProof}
use Rattle.case_core.specs.declared.examiner.ReadProof.TheVariants.{Found, Labelled}

-- the first label line of a text: so many lines end before it, and none of these is one
pub record IsFirstLabel (text line : List ℕ) (lines : ℕ) : Type 0 where
  pub before : List ℕ
  pub from : List ℕ
  pub below : List ℕ
  pub parts : text ≡ before ++ from
  pub at_line : AreWholeLines before
  pub none : labels_of before ≡ []
  pub counted : lines ≡ count_by is_line_end before
  pub label : IsBehindLabel from line below

-- what becomes of a target's proof with these bytes, which was opened in this form: no line of its
-- text is a label line, and this is found by it; or it is a text, and this is its first label line
abbrev pub IsReadProof : CaseOf → Target → ProofForm → List ℕ → ReadProof → Type 0
IsReadProof case target opened bytes (Found read) =
    (read.finding.case.now ≡ case) × (target_of read.finding.leaf read.finding.node ≡ target)
    × (labels_of (text_in_form opened bytes) ≡ []) × (length bytes ≡ read.length)
    × IsFoundBy case target (text_in_form opened bytes) read.finding.judged
IsReadProof case target opened bytes (Labelled label) =
    (text_in_form opened bytes ≡ bytes) × IsFirstLabel bytes label.line.items label.lines

-- what is found of a target by these lines and, behind them, a part of a text: all up to the text's
-- next label line, or its end
pub record IsPartRead (case : CaseOf) (target : Target) (front : List ℕ) (old new : LabelledOf)
    (before after : List ℕ → Type 0) (read : ReadFinding) : Type 0 where
  pub bytes : List ℕ
  pub part : IsPart old new before after bytes
  pub long : length (front ++ bytes) ≡ read.length
  pub of_case : read.finding.case.now ≡ case
  pub of_target : target_of read.finding.leaf read.finding.node ≡ target
  pub found : IsFoundBy case target (front ++ bytes) read.finding.judged
