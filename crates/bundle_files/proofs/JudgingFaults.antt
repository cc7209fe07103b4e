-- A fault of a device or of memory that is told is none of the input.
use Rattle.std.proofs.Common.{◌≡◌, ℕ, Result, IfErr, inl, inr, refl, subst, sym}
use Rattle.std.specs.Result.{IsErrAnd}
use Rattle.cube_report.specs.Device.{IsDeviceFault}
use Rattle.cube_report.specs.DeviceFault.{DeviceFault}
use Rattle.cube_report.specs.DeviceFault.TheVariants as flow
use Rattle.cube_report.specs.Fault.{Fault}
use Rattle.cube_report.specs.Fault.TheVariants.{Memory}
use Rattle.cube_report.specs.Faults.{IsInputFault, fault_of_device}
use Rattle.cube_report.proofs.CorrectReports.{told}
use Rattle.bundle_files.specs.Judging.{IsJudgingFault}

no_input : (fault : DeviceFault) → IsInputFault (fault_of_device fault) → ⊥
no_input flow.Memory input = input.0 refl
no_input flow.Device input = input.1 refl

pub judging : (fault : DeviceFault) (before after : ℕ) → IsDeviceFault before after fault
    → IsJudgingFault before after (fault_of_device fault)
judging flow.Memory before after (inl memory) = inl (λ e. cc, memory.1)
judging flow.Memory before after (inr device) = absurd cc
judging flow.Device before after (inl memory) = absurd cc
judging flow.Device before after (inr device) = inr (refl, device.1)

pub told_no_input : {X : Type 0} (run : Result X Fault) (fault : DeviceFault) (Y : Fault → Type 0)
    → IsErrAnd run (λ e. e ≡ fault_of_device fault)
    → IfErr run (λ fault. IsInputFault fault → Y fault)
told_no_input run fault Y is =
    told run (λ fault. IsInputFault fault → Y fault) (fault_of_device fault) is
    (λ input. absurd (no_input fault input))

pub told_judging : {X : Type 0} (run : Result X Fault) (fault : DeviceFault) (before after : ℕ)
    → IsErrAnd run (λ e. e ≡ fault_of_device fault) → IsDeviceFault before after fault
    → IfErr run (IsJudgingFault before after)
told_judging run fault before after is fails =
    told run (IsJudgingFault before after) (fault_of_device fault) is
    (judging fault before after fails)

-- want of memory, after which no call has failed
pub memory_judging : (fault : Fault) (failed : ℕ) → fault ≡ Memory
    → IsJudgingFault failed failed fault
memory_judging fault failed is =
    subst (IsJudgingFault failed failed) (sym is) (inl (λ e. cc, refl))

-- it is none of the input
pub told_memory : {X : Type 0} (run : Result X Fault) (Y : Fault → Type 0)
    → IsErrAnd run (λ e. e ≡ Memory) → IfErr run (λ fault. IsInputFault fault → Y fault)
told_memory run Y is =
    told run (λ fault. IsInputFault fault → Y fault) Memory is (λ input. absurd (input.0 refl))
