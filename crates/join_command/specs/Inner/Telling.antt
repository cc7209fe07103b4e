-- The status of a fault, and how it is told.
use Rattle.std.specs.Prelude.{◌≡◌, ℕ, List, ◌⊎◌, Option}
use Rattle.cube_report.specs.Fault.TheVariants.{Memory}
use Rattle.cube_command.specs.Program.{IsLineWritten, status_of as status_of_run}
use Rattle.join_command.specs.declared.fault.JoinFault.{JoinFault}
use Rattle.join_command.specs.declared.fault.JoinFault.TheVariants.{Run, Stranger}
use Rattle.join_command.specs.Program.{IsReadingFault, join_fault_line}

abbrev pub status_of : JoinFault → ℕ
status_of (Run fault) = status_of_run fault
status_of (Stranger number) = 3

-- A fault was told by its line, and this is its status; a fault of what was read may be told as
-- want of memory.
abbrev pub IsFaultWritten : JoinFault → ℕ → Option (List ℕ) → Option (List ℕ) → ℕ → ℕ → Type 0
IsFaultWritten fault status old new before after =
    ((status ≡ status_of fault) × IsLineWritten old new before after (join_fault_line fault))
    ⊎ (IsReadingFault fault × (status ≡ 4)
    × IsLineWritten old new before after (join_fault_line (Run Memory)))
