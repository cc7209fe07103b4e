-- What a finding shows of itself.
use Rattle.std.specs.Prelude.{ℕ}
use Rattle.hint_check.specs.declared.Judged.{Judged}
use Rattle.case_core.specs.Case.{CaseOf}
use Rattle.case_core.specs.declared.finding.Finding.{Finding}

-- a finding: its case, the node at which its target stands, and the judgement of the target's
-- section
pub record FindingOf : Type 0 where
  pub case : CaseOf
  pub node : ℕ
  pub judged : Judged

abbrev pub finding_of : Finding → FindingOf
finding_of finding =
    record { case = finding.case.now; node = finding.node; judged = finding.judged }
