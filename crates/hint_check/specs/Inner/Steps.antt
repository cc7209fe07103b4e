-- What comes next in a proof that may go on, and how far its judgement goes, for the contracts of
-- private functions.
use Rattle.std.specs.Prelude.{◌≡◌, ◌∷◌, [], ℕ, true, false, List}
use Rattle.lrat_text.specs.Grammar.{StepSymbol}
use Rattle.lrat_text.specs.Proof.{Proof}
use Rattle.lrat_text.specs.StepWords.{Left, proof_with}
use Rattle.lrat_text.specs.Buffer.{StepParts}
use Rattle.lrat_text.specs.Step.{told_step}
use Rattle.hint_check.specs.Live.{Live, holds_empty_clause}
use Rattle.hint_check.specs.Judgement.{judged_from}
use Rattle.hint_check.specs.declared.Judged.{Judged}
use Rattle.hint_check.specs.declared.steps.Next.{Next}
use Rattle.hint_check.specs.declared.steps.Next.TheVariants as nexts
use Rattle.hint_check.specs.declared.steps.Halt.{Halt}
use Rattle.hint_check.specs.declared.steps.Halt.TheVariants as halts

-- what is left of the words of a proof that may go on
abbrev pub Open : Type 0
Open = Left

-- a step, and the proof after it is left; or none
abbrev pub NextIs : Next → StepParts → Open → Open → Type 0
NextIs (nexts.Step kind) parts old new =
    (more : List StepSymbol) → proof_with old more ≡ record {
      steps = told_step kind parts ∷ (proof_with new more).steps;
      blank = (proof_with new more).blank;
    }
NextIs nexts.Blank parts old new =
    (proof_with old [] ≡ record { steps = []; blank = true }) × (new ≡ old)
NextIs nexts.Front parts old new =
    (proof_with old [] ≡ record { steps = []; blank = false }) × (new ≡ old)
NextIs nexts.Unreadable parts old new =
    (more : List StepSymbol) → proof_with old more ≡ record { steps = []; blank = false }

-- what is said from step `number` on of a proof that is left
abbrev pub judged_in : Live → ℕ → Proof → Judged
judged_in live number proof = judged_from live number proof.steps proof.blank

-- the judgement goes on from here, whatever follows
pub record GoesOn (before : Live) (first : ℕ) (old : Open) (live : Live) (number : ℕ)
    (new : Open) : Type 0 where
  pub none_empty : holds_empty_clause live ≡ false
  pub same : (more : List StepSymbol) →
      judged_in before first (proof_with old more) ≡ judged_in live number (proof_with new more)

abbrev pub IsHalt : Halt → Live → ℕ → Open → Live → ℕ → Open → Type 0
IsHalt (halts.Decided judged) before first old live number new =
    (more : List StepSymbol) → judged_in before first (proof_with old more) ≡ judged
IsHalt halts.Blank before first old live number new =
    GoesOn before first old live number new
    × (proof_with new [] ≡ record { steps = []; blank = true })
IsHalt halts.Front before first old live number new =
    GoesOn before first old live number new
    × (proof_with new [] ≡ record { steps = []; blank = false })
