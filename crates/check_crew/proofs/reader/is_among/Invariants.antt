use Rattle.std.proofs.Common.{◌≡◌, ◌≢◌, ◌<◌, ℕ, None, Some, get_or}
use Rattle.case_core.specs.Case.{SectionOf}
use Rattle.check_crew.proofs.reader.is_among.Given as goal

abbrev pub invariant-loop-place : goal.invariant-loop-place
invariant-loop-place g l = (at : ℕ) (proof : SectionOf) → at < l.place
    → get_or l.given at None ≡ Some proof → proof.target ≢ l.target
