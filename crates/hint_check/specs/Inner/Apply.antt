-- How the judgement goes on after one step.
use Rattle.std.specs.Prelude.{ℕ, ◌+◌, Bool, List}
use Rattle.lrat_text.specs.Grammar.{ProofStep as Step}
use Rattle.hint_check.specs.Live.{Live}
use Rattle.hint_check.specs.Judgement.{judged_from}
use Rattle.hint_check.specs.declared.apply.Applied.{Applied}
use Rattle.hint_check.specs.declared.apply.Applied.TheVariants.{GoesOn, Ends, Fails}
use Rattle.hint_check.specs.declared.Judged.{Judged}
use Rattle.hint_check.specs.declared.Judged.TheVariants.{Refuted, Rejected}

abbrev pub judged_after : Applied → Live → ℕ → List Step → Bool → Judged
judged_after GoesOn live number steps blank = judged_from live (number + 1) steps blank
judged_after Ends live number steps blank = Refuted
judged_after (Fails reason) live number steps blank = Rejected number reason
