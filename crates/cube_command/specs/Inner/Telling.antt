-- How a fault is told.
use Rattle.std.specs.Prelude.{◌≡◌, ℕ, List, ◌⊎◌, Option}
use Rattle.cube_report.specs.Fault.{Fault}
use Rattle.cube_report.specs.Fault.TheVariants.{Memory}
use Rattle.cube_report.specs.Faults.{IsInputFault}
use Rattle.cube_command.specs.Program.{fault_line, IsLineWritten, status_of}

-- A fault was told by its line, and this is its status; a fault of the input may be told as want of
-- memory.
abbrev pub IsFaultWritten : Fault → ℕ → Option (List ℕ) → Option (List ℕ) → ℕ → ℕ → Type 0
IsFaultWritten fault status old new before after =
    ((status ≡ status_of fault) × IsLineWritten old new before after (fault_line fault))
    ⊎ (IsInputFault fault × (status ≡ 4) × IsLineWritten old new before after (fault_line Memory))
