-- The judgement of the steps of a text that may go on.
use Rattle.std.proofs.Common.{◌≡◌, ◌∙◌, sym, ap, refl, subst, ℕ, Bool, true, false, List, []}
use Rattle.std.proofs.Common.{◌∷◌}
use Rattle.lrat_text.specs.Grammar.{StepSymbol, ProofStep}
use Rattle.lrat_text.specs.StepWords.{proof_with}
use Rattle.lrat_text.specs.Buffer.{StepParts}
use Rattle.lrat_text.specs.Step.{told_step}
use Rattle.lrat_text.specs.declared.step.StepKind.{StepKind}
use Rattle.hint_check.specs.Live.{Live, holds_empty_clause}
use Rattle.hint_check.specs.Judgement.{judged_from}
use Rattle.hint_check.specs.Inner.Apply.{judged_after}
use Rattle.hint_check.specs.Inner.Steps.{Open, NextIs, judged_in, GoesOn, IsHalt}
use Rattle.hint_check.specs.declared.apply.Applied.{Applied}
use Rattle.hint_check.specs.declared.steps.Next.TheVariants as nexts
use Rattle.hint_check.specs.declared.steps.Halt.{Halt}
use Rattle.hint_check.specs.declared.steps.Halt.TheVariants as halts
use Rattle.hint_check.specs.declared.Judged.{Judged}
use Rattle.hint_check.specs.declared.Judged.TheVariants.{Rejected}
use Rattle.hint_check.specs.declared.Reason.TheVariants.{Unreadable, End}
use Rattle.hint_check.proofs.JudgementSteps.{judged_from-end}

-- where no step was applied yet
pub not_begun : (live : Live) (number : ℕ) (steps : Open) → holds_empty_clause live ≡ false →
    GoesOn live number steps live number steps
not_begun live number steps none = record { none_empty = none; same = λ more. refl }

module _ (before : Live) (first : ℕ) (old : Open) (live : Live) (number : ℕ) (new newer : Open)
    (goes : GoesOn before first old live number new) where
  -- a step that was read and applied
  pub one_more : (after : Live) (applied : Applied) (kind : StepKind) (parts : StepParts) →
      NextIs (nexts.Step kind) parts new newer →
      ((n : ℕ) (steps : List ProofStep) (blank : Bool) →
      judged_from live n (told_step kind parts ∷ steps) blank
      ≡ judged_after applied after n steps blank) →
      (more : List StepSymbol) →
      judged_in before first (proof_with old more)
      ≡ judged_after applied after number (proof_with newer more).steps
      (proof_with newer more).blank
  one_more after applied kind parts next says more =
      goes.same more ∙ ap (judged_in live number) (next more)
      ∙ says number (proof_with newer more).steps (proof_with newer more).blank

  -- nothing that is a step
  pub unreadable : (parts : StepParts) → NextIs nexts.Unreadable parts new newer →
      (more : List StepSymbol) →
      judged_in before first (proof_with old more) ≡ Rejected number Unreadable
  unreadable parts next more =
      goes.same more ∙ ap (judged_in live number) (next more)
      ∙ judged_from-end live number false goes.none_empty

  -- nothing
  pub at_blank : (parts : StepParts) → NextIs nexts.Blank parts new newer →
      IsHalt halts.Blank before first old live number newer
  at_blank parts next = (
    subst (λ s. GoesOn before first old live number s) (sym next.1) goes,
    ap (λ (s : Open). proof_with s []) next.1 ∙ next.0,
  )

  -- the front of a step
  pub at_front : (parts : StepParts) → NextIs nexts.Front parts new newer →
      IsHalt halts.Front before first old live number newer
  at_front parts next = (
    subst (λ s. GoesOn before first old live number s) (sym next.1) goes,
    ap (λ (s : Open). proof_with s []) next.1 ∙ next.0,
  )

module _ (before : Live) (first : ℕ) (old : Open) (live : Live) (number : ℕ) (new : Open) where
  -- where nothing was decided, the judgement goes on
  pub undecided : (halt : Halt) → ((judged : Judged) → halt ≡ halts.Decided judged → ⊥) →
      IsHalt halt before first old live number new → GoesOn before first old live number new
  undecided (halts.Decided judged) none is = absurd (none judged refl)
  undecided halts.Blank none is = is.0
  undecided halts.Front none is = is.0

  -- what is said where nothing follows
  pub ends_blank : IsHalt halts.Blank before first old live number new →
      judged_in before first (proof_with old []) ≡ Rejected number End
  ends_blank is =
      is.0.same [] ∙ ap (judged_in live number) is.1
      ∙ judged_from-end live number true is.0.none_empty

  pub ends_front : IsHalt halts.Front before first old live number new →
      judged_in before first (proof_with old []) ≡ Rejected number Unreadable
  ends_front is =
      is.0.same [] ∙ ap (judged_in live number) is.1
      ∙ judged_from-end live number false is.0.none_empty
