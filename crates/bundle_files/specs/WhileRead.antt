-- What is said of a bundle that is judged while it is read.
use Rattle.std.specs.Prelude.{◌≡◌, ◌⊎◌, ℕ, Bool, List, [], ◌++◌}
use Rattle.case_core.specs.Bundle.{icnf_text}
use Rattle.case_core.specs.Labelled.{IsPart, fresh_text}
use Rattle.cube_report.specs.Correct.{IsFaultOn, IsOutcome}
use Rattle.cube_report.specs.Device.{GrewBy}
use Rattle.cube_report.specs.Fault.{Fault}
use Rattle.bundle_files.specs.Formula.{HasCount, HasOtherCount}
use Rattle.bundle_files.specs.declared.formula.BegunBundle.{BegunBundle}
use Rattle.bundle_files.specs.declared.while_read.BundleFront.{BundleFront}

-- the iCNF text was read of a bundle that was begun and goes on with what a stream might give
-- before, of which it may give this after
pub record IsFrontOf (begun : BegunBundle) (before after : List ℕ → Type 0) (front : BundleFront)
    : Type 0 where
  pub cubes : List ℕ
  pub icnf : front.icnf.items ≡ begun.text.items ++ cubes
  pub part : IsPart (fresh_text []) front.text (GrewBy before begun.text.items) after
      front.icnf.items
  pub said : front.said ≡ begun.said

-- a bundle that was begun and goes on with a text that was given so has as many clauses as is said
abbrev pub IsBundleBelow : BegunBundle → (List ℕ → Type 0) → List ℕ → Type 0
IsBundleBelow begun gives bundle =
    GrewBy gives begun.text.items bundle × HasCount begun.said bundle

-- what is written is what a run promises on a bundle that was given so and has this iCNF text
pub record IsRunBehind (gives : List ℕ → Type 0) (icnf : List ℕ) (draws : Bool)
    (report map : List ℕ) (answer : Bool) : Type 0 where
  pub bundle : List ℕ
  pub given : gives bundle
  pub front : icnf_text bundle ≡ icnf
  pub outcome : IsOutcome bundle draws report map answer

-- so it is on a bundle that was given so
pub record IsRunOf (gives : List ℕ → Type 0) (draws : Bool) (report map : List ℕ) (answer : Bool)
    : Type 0 where
  pub bundle : List ℕ
  pub given : gives bundle
  pub outcome : IsOutcome bundle draws report map answer

-- a bundle that was given so has this fault, its first
abbrev pub IsRefusedBy : (List ℕ → Type 0) → Fault → Type 0
IsRefusedBy gives fault = (bundle : List ℕ) × gives bundle × IsFaultOn bundle fault

-- so has a bundle that was begun and goes on with a text that was given so; or it has other clauses
-- than is said
abbrev pub IsRefusedBelow : BegunBundle → (List ℕ → Type 0) → Fault → Type 0
IsRefusedBelow begun gives fault =
    IsRefusedBy (IsBundleBelow begun gives) fault
    ⊎ ((bundle : List ℕ) × GrewBy gives begun.text.items bundle
    × HasOtherCount begun.said bundle fault)
