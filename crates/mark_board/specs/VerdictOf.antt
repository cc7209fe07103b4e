-- What the verdict of a part shows of itself.
use Rattle.std.specs.Prelude.{ℕ}
use Rattle.mark_board.specs.declared.part.PartVerdict.{PartVerdict}
use Rattle.case_core.specs.Case.{CaseOf}

-- a part's verdict: its case, the cut, and the part's number from 0 in tree order
pub record VerdictOf : Type 0 where
  pub case : CaseOf
  pub cut : ℕ
  pub part : ℕ

abbrev pub verdict_of : PartVerdict → VerdictOf
verdict_of verdict = record { case = verdict.case.now; cut = verdict.cut; part = verdict.part }
