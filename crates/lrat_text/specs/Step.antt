-- A step of the program as the definitions see it.
use Rattle.lrat_text.specs.declared.step.Step.{Step}
use Rattle.lrat_text.specs.declared.step.Step.TheVariants as told
use Rattle.lrat_text.specs.Grammar.{ProofStep, Add, Delete}
use Rattle.lrat_text.specs.Buffer.{StepParts}
use Rattle.lrat_text.specs.declared.step.StepKind.{StepKind}
use Rattle.lrat_text.specs.declared.step.StepKind.TheVariants as kinds

abbrev pub step_of : Step → ProofStep
step_of (told.Add id lits hints groups) =
    Add (record { id = id; literals = lits.items; hints = hints.items; groups = groups.items })
step_of (told.Delete ids) = Delete ids.items

-- the step of this kind with these parts
abbrev pub told_step : StepKind → StepParts → ProofStep
told_step (kinds.Add id) parts =
    Add (record { id = id; literals = parts.literals; hints = parts.hints; groups = parts.groups })
told_step kinds.Delete parts = Delete parts.hints
