-- The faults of a run.
use Rattle.std.specs.Prelude.{◌≢◌, ℕ, List, ◌++◌, codes, decimal}
use Rattle.case_core.specs.declared.fault.CaseFault.{CaseFault}
use Rattle.case_core.specs.declared.fault.CaseFault.TheVariants as case
use Rattle.case_core.specs.Faults.{of_text}
use Rattle.case_core.specs.DimacsFault.{DimacsFault}
use Rattle.case_core.specs.DimacsFault.TheVariants as dimacs
use Rattle.byte_flow.specs.declared.fault.DeviceFault.{DeviceFault}
use Rattle.byte_flow.specs.declared.fault.DeviceFault.TheVariants as flow
use Rattle.run_terms.specs.declared.fault.Fault.{Fault}
use Rattle.run_terms.specs.declared.fault.Fault.TheVariants.{Header, Token, Unfinished, TooLarge}
use Rattle.run_terms.specs.declared.fault.Fault.TheVariants.{Limit, Memory, Repeats, NotATree}
use Rattle.run_terms.specs.declared.fault.Fault.TheVariants.{Overlap, BadLabel, NoSuchLeaf}
use Rattle.run_terms.specs.declared.fault.Fault.TheVariants.{ProofTwice, Device, Thread}
use Rattle.run_terms.specs.declared.fault.Fault.TheVariants.{NoProblem, Counts}

-- a fault of the bundle, as a fault of the run
abbrev pub fault_of_case : CaseFault → Fault
fault_of_case case.Header = Header
fault_of_case (case.Token line) = Token line
fault_of_case case.Unfinished = Unfinished
fault_of_case (case.TooLarge line) = TooLarge line
fault_of_case case.Limit = Limit
fault_of_case case.Memory = Memory
fault_of_case (case.Repeats cube) = Repeats cube
fault_of_case (case.NotATree first second) = NotATree first second
fault_of_case (case.Overlap first second) = Overlap first second
fault_of_case (case.BadLabel line) = BadLabel line
fault_of_case (case.NoSuchLeaf line) = NoSuchLeaf line
fault_of_case (case.ProofTwice line) = ProofTwice line

-- a fault of a call on a device, as a fault of the run
abbrev pub fault_of_device : DeviceFault → Fault
fault_of_device flow.Memory = Memory
fault_of_device flow.Device = Device

-- a fault of the formula's own file, as a fault of the run
abbrev pub fault_of_dimacs : DimacsFault → Fault
fault_of_dimacs dimacs.NoProblem = NoProblem
fault_of_dimacs (dimacs.Text fault) = fault_of_case (of_text fault)
fault_of_dimacs (dimacs.Counts variables clauses greatest found) =
    Counts variables clauses greatest found

-- a fault of what was read, neither of memory, nor of a device, nor of a thread
abbrev pub IsInputFault : Fault → Type 0
IsInputFault fault = (fault ≢ Memory) × (fault ≢ Device) × (fault ≢ Thread)

-- two numbers
unfoldable pub pair_text : ℕ → ℕ → List ℕ
pair_text first second = decimal first ++ codes " and " ++ decimal second

-- numbers of variables and of clauses, and what stands behind them
unfoldable pub said_text : ℕ → ℕ → List ℕ
said_text variables clauses =
    decimal variables ++ codes " variables and " ++ decimal clauses
    ++ codes " clauses, there are "

-- the text of a fault: its name, and the lines or cubes that it is about
abbrev pub fault_text : Fault → List ℕ
fault_text Header = codes "F1 header"
fault_text (Token line) = codes "F2 token, line " ++ decimal line
fault_text Unfinished = codes "F3 unfinished"
fault_text (TooLarge line) = codes "F4 too large, line " ++ decimal line
fault_text Limit = codes "F5 limit"
fault_text Memory = codes "F6 memory"
fault_text (Repeats cube) = codes "F7 cube " ++ decimal cube ++ codes " repeats"
fault_text (NotATree first second) =
    codes "F8 cubes " ++ pair_text first second ++ codes " are not of one tree"
fault_text (Overlap first second) = codes "F9 cubes " ++ pair_text first second ++ codes " overlap"
fault_text (BadLabel line) = codes "F10 bad label, line " ++ decimal line
fault_text (NoSuchLeaf line) = codes "F11 no such leaf, line " ++ decimal line
fault_text (ProofTwice line) = codes "F12 second proof, line " ++ decimal line
fault_text Device = codes "F13 device"
fault_text Thread = codes "F14 thread"
fault_text NoProblem = codes "F16 no DIMACS header"
fault_text (Counts variables clauses greatest found) =
    codes "F17 the header says " ++ said_text variables clauses ++ pair_text greatest found
