-- What a worker without a crew has posted.
use Rattle.std.specs.Prelude.{◌≡◌, ℕ, List, [], Option, None, Some, slice_set}
use Rattle.case_core.specs.Bundle.{labels_of}
use Rattle.case_core.specs.Finding.{IsFoundBy}
use Rattle.case_core.specs.Form.{text_in_form}
use Rattle.case_core.specs.Judged.{Judged}
use Rattle.case_core.specs.Leaves.{IsTargetAt}
use Rattle.case_core.specs.Reading.{IsFirstLabel}
use Rattle.case_core.specs.Target.{Target}
use Rattle.case_core.specs.ProofForm.{ProofForm}
use Rattle.case_core.specs.declared.label_line.LabelLine.{LabelLine}
use Rattle.mark_board.specs.Boards.{BoardsOf}
use Rattle.mark_board.specs.Findings.{mark_as}

-- the node of a target, and no other, has the mark of the judgement of this text as its proof
pub record IsFoundOn (old new : BoardsOf) (target : Target) (text : List ℕ) : Type 0 where
  pub judged : Judged
  pub found : IsFoundBy old.case target text judged
  pub node : ℕ
  pub here : IsTargetAt old.case.tree node target
  pub only : (other : ℕ) → IsTargetAt old.case.tree other target → other ≡ node
  pub marks : new.marks ≡ slice_set old.marks node (mark_as judged)

-- so it is by a whole proof with these bytes, in which no line is a label line; or it has label
-- lines, this is the first of them, and nothing is posted
abbrev pub IsProofPosted : BoardsOf → BoardsOf → Target → ProofForm → List ℕ → Option LabelLine →
    Type 0
IsProofPosted old new target opened bytes None =
    (labels_of (text_in_form opened bytes) ≡ [])
    × IsFoundOn old new target (text_in_form opened bytes)
IsProofPosted old new target opened bytes (Some label) =
    (text_in_form opened bytes ≡ bytes) × IsFirstLabel bytes label.line.items label.lines
    × (new.marks ≡ old.marks)
