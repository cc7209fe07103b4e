-- What holds of a run by the status with which it was told.
use Rattle.std.proofs.Common.{◌≡◌, ◌≢◌, ◌<◌, ◌⊎◌, refl, ap, subst, ℕ, Bool, true, false}
use Rattle.std.proofs.Common.{Result, Ok, Err, IfOk, IfErr, OnErr, MatchResult, inl, inr, arith}
use Rattle.cube_report.specs.Fault.{Fault}
use Rattle.cube_report.specs.Fault.TheVariants.{Header, Token, Unfinished, TooLarge}
use Rattle.cube_report.specs.Fault.TheVariants.{Limit, Memory, Repeats, NotATree}
use Rattle.cube_report.specs.Fault.TheVariants.{Overlap, BadLabel, NoSuchLeaf}
use Rattle.cube_report.specs.Fault.TheVariants.{ProofTwice, Device, Thread}
use Rattle.cube_report.specs.Fault.TheVariants.{NoProblem, Counts}
use Rattle.cube_report.specs.Faults.{IsInputFault}
use Rattle.cube_command.specs.Program.{status_of, status_of_answer}

-- ---- whatever its faults are

-- how it was told: an answer by 0 or 1, where `Same` says that nothing was written, and a fault
abbrev pub ToldBy : {F : Type 0} → Result Bool F → ℕ → Type 0 → (F → Type 0) → Type 0
ToldBy run status Same Told =
    MatchResult run (λ answer. (status ≡ status_of_answer answer) × Same) Told

-- 0, with a report that says refuted
pub with_zero : {F : Type 0} (X : Bool → Type 0) (run : Result Bool F) (status : ℕ)
    (Same : Type 0) (Told : F → Type 0) → ((fault : F) → Told fault → 2 < status)
    → ToldBy run status Same Told → IfOk run X → status ≡ 0 → X true
with_zero X (Ok true) status Same Told above told report is = report
with_zero X (Ok false) status Same Told above told report is =
    let one : status ≡ 1 = told.0 in absurd (omega arith)
with_zero X (Err fault) status Same Told above told report is =
    let more : 2 < status = above fault told in absurd (omega arith)

-- 1, with one that says open
pub with_one : {F : Type 0} (X : Bool → Type 0) (run : Result Bool F) (status : ℕ)
    (Same : Type 0) (Told : F → Type 0) → ((fault : F) → Told fault → 2 < status)
    → ToldBy run status Same Told → IfOk run X → status ≡ 1 → X false
with_one X (Ok true) status Same Told above told report is =
    let none : status ≡ 0 = told.0 in absurd (omega arith)
with_one X (Ok false) status Same Told above told report is = report
with_one X (Err fault) status Same Told above told report is =
    let more : 2 < status = above fault told in absurd (omega arith)

-- either of them
pub below_two : {F : Type 0} (run : Result Bool F) (status : ℕ) (Same : Type 0) (Told : F → Type 0)
    → ((fault : F) → Told fault → 2 < status) → ToldBy run status Same Told → status < 2 → Same
below_two (Ok answer) status Same Told above told is = told.1
below_two (Err fault) status Same Told above told is =
    let more : 2 < status = above fault told in absurd (omega arith)

-- another one: then it is that of a fault
pub above_one : {F : Type 0} (run : Result Bool F) (status : ℕ) (Same : Type 0) (Told : F → Type 0)
    → ToldBy run status Same Told → 1 < status → (fault : F) × (run ≡ Err fault) × Told fault
above_one (Ok true) status Same Told told is =
    let none : status ≡ 0 = told.0 in absurd (omega arith)
above_one (Ok false) status Same Told told is =
    let one : status ≡ 1 = told.0 in absurd (omega arith)
above_one (Err fault) status Same Told told is = (fault, refl, told)

-- another one than these and 5, which tells the fault of a device
pub below_five : {F : Type 0} (Y : Type 0) (run : Result Bool F) (status : ℕ) (Same : Type 0)
    (Told : F → Type 0) (device : F) → (Told device → status ≡ 5)
    → ToldBy run status Same Told → IfErr run (λ fault. fault ≢ device → Y)
    → 1 < status → status < 5 → Y
below_five Y run status Same Told device five told ended above below =
    let found = above_one run status Same Told told above in
    (rw found.1 at ended) (λ is.
    let broken : status ≡ 5 = five (subst Told is found.2) in absurd (omega arith))

-- 5
pub with_fault : {F : Type 0} (Z : Type 0) (run : Result Bool F) (status : ℕ) (Same : Type 0)
    (Told : F → Type 0) → ToldBy run status Same Told → OnErr run Z → 1 < status → Z
with_fault Z run status Same Told told ended above =
    rw (above_one run status Same Told told above).1 at ended

-- ---- the faults of a run

-- one of the input has status 3, and which others there are
pub kind_of : (fault : Fault) → (IsInputFault fault × (status_of fault ≡ 3))
    ⊎ ((fault ≡ Memory) ⊎ ((fault ≡ Thread) ⊎ (fault ≡ Device)))
kind_of Header = inl ((λ e. cc, λ e. cc, λ e. cc), refl)
kind_of (Token line) = inl ((λ e. cc, λ e. cc, λ e. cc), refl)
kind_of Unfinished = inl ((λ e. cc, λ e. cc, λ e. cc), refl)
kind_of (TooLarge line) = inl ((λ e. cc, λ e. cc, λ e. cc), refl)
kind_of Limit = inl ((λ e. cc, λ e. cc, λ e. cc), refl)
kind_of (Repeats cube) = inl ((λ e. cc, λ e. cc, λ e. cc), refl)
kind_of (NotATree first second) = inl ((λ e. cc, λ e. cc, λ e. cc), refl)
kind_of (Overlap first second) = inl ((λ e. cc, λ e. cc, λ e. cc), refl)
kind_of (BadLabel line) = inl ((λ e. cc, λ e. cc, λ e. cc), refl)
kind_of (NoSuchLeaf line) = inl ((λ e. cc, λ e. cc, λ e. cc), refl)
kind_of (ProofTwice line) = inl ((λ e. cc, λ e. cc, λ e. cc), refl)
kind_of NoProblem = inl ((λ e. cc, λ e. cc, λ e. cc), refl)
kind_of (Counts variables clauses greatest found) = inl ((λ e. cc, λ e. cc, λ e. cc), refl)
kind_of Memory = inr (inl refl)
kind_of Thread = inr (inr (inl refl))
kind_of Device = inr (inr (inr refl))

-- the statuses of the others
of_memory : (fault : Fault) → fault ≡ Memory → status_of fault ≡ 4
of_memory fault is = ap status_of is

of_thread : (fault : Fault) → fault ≡ Thread → status_of fault ≡ 4
of_thread fault is = ap status_of is

of_device : (fault : Fault) → fault ≡ Device → status_of fault ≡ 5
of_device fault is = ap status_of is

pub above_two : (fault : Fault) → 2 < status_of fault
above_two fault =
    elim (kind_of fault) [
      | inl input ↦ omega (arith, input.1)
      | inr (inl memory) ↦ omega (arith, of_memory fault memory)
      | inr (inr (inl thread)) ↦ omega (arith, of_thread fault thread)
      | inr (inr (inr device)) ↦ omega (arith, of_device fault device)
    ]

-- 3 is that of a fault of the input, and of no other
pub input_of_three : (fault : Fault) → status_of fault ≡ 3 → IsInputFault fault
input_of_three fault is =
    elim (kind_of fault) [
      | inl input ↦ input.0
      | inr (inl memory) ↦ absurd (omega (arith, is, of_memory fault memory))
      | inr (inr (inl thread)) ↦ absurd (omega (arith, is, of_thread fault thread))
      | inr (inr (inr device)) ↦ absurd (omega (arith, is, of_device fault device))
    ]

pub with_four : (fault : Fault) → status_of fault ≡ 4 → (fault ≡ Memory) ⊎ (fault ≡ Thread)
with_four fault is =
    elim (kind_of fault) [
      | inl input ↦ absurd (omega (arith, is, input.1))
      | inr (inl memory) ↦ inl memory
      | inr (inr (inl thread)) ↦ inr thread
      | inr (inr (inr device)) ↦ absurd (omega (arith, is, of_device fault device))
    ]

pub with_five : (fault : Fault) → status_of fault ≡ 5 → fault ≡ Device
with_five fault is =
    elim (kind_of fault) [
      | inl input ↦ absurd (omega (arith, is, input.1))
      | inr (inl memory) ↦ absurd (omega (arith, is, of_memory fault memory))
      | inr (inr (inl thread)) ↦ absurd (omega (arith, is, of_thread fault thread))
      | inr (inr (inr device)) ↦ device
    ]
