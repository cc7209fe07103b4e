-- What calls do to a reader and a writer, and why they fail.
use Rattle.std.specs.Prelude.{◌≡◌, ℕ, ◌+◌, ◌≤◌, List, ◌⊎◌, ◌++◌, IfSome, take, length, Result}
use Rattle.std.specs.Prelude.{Option, MatchResult}
use Rattle.std.specs.Io.KnownBytes.{Appends}
use Rattle.byte_flow.specs.declared.fault.DeviceFault.{DeviceFault}
use Rattle.byte_flow.specs.declared.fault.DeviceFault.TheVariants.{Memory, Device as FaultDevice}

-- the number of failed calls rises by one exactly where this call failed
abbrev pub CountsFailures : {T E : Type 0} → ℕ → ℕ → Result T E → Type 0
CountsFailures before after result =
    MatchResult result (λ _. after ≡ before) (λ _. after ≡ before + 1)

-- known bytes grew by a beginning of the text
abbrev pub AppendsBeginning : Option (List ℕ) → Option (List ℕ) → List ℕ → Type 0
AppendsBeginning old new text = (n : ℕ) × (n ≤ length text) × Appends old new (take n text)

-- these are the bytes that a reader has left, as far as they are known
abbrev pub IsLeft : Option (List ℕ) → List ℕ → Type 0
IsLeft left bytes = IfSome left (λ known. bytes ≡ known)

-- some bytes grew by what a reader had left, where that is known
abbrev pub IsReadOf : Option (List ℕ) → List ℕ → List ℕ → Type 0
IsReadOf left old new = (read : List ℕ) × (new ≡ old ++ read) × IfSome left (λ known. read ≡ known)

-- these bytes were given: what may be given now may have stood behind them before
abbrev pub HasGiven : (List ℕ → Type 0) → (List ℕ → Type 0) → List ℕ → Type 0
HasGiven before after bytes = (rest : List ℕ) → after rest → before (bytes ++ rest)

-- bytes grew by one of these texts
abbrev pub GrewBy : (List ℕ → Type 0) → List ℕ → List ℕ → Type 0
GrewBy texts old new = (text : List ℕ) × texts text × (new ≡ old ++ text)

-- want of memory without a failed call, or a fault of the device with one
abbrev pub IsDeviceFault : ℕ → ℕ → DeviceFault → Type 0
IsDeviceFault before after fault =
    ((fault ≡ Memory) × (after ≡ before)) ⊎ ((fault ≡ FaultDevice) × (after ≡ before + 1))
