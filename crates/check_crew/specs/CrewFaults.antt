-- The faults of the workers, as faults of a run.
use Rattle.run_terms.specs.declared.fault.Fault.{Fault}
use Rattle.run_terms.specs.declared.fault.Fault.TheVariants.{Memory, Thread}
use Rattle.run_terms.specs.Faults.{fault_of_case, fault_of_device}
use Rattle.check_crew.specs.declared.fault.CrewFault.{CrewFault}
use Rattle.check_crew.specs.declared.fault.CrewFault.TheVariants as crew
use Rattle.check_crew.specs.declared.fault.ReadFault.{ReadFault}
use Rattle.check_crew.specs.declared.fault.ReadFault.TheVariants as read

-- a fault of the workers, as a fault of the run
abbrev pub fault_of_crew : CrewFault → Fault
fault_of_crew crew.Memory = Memory
fault_of_crew crew.Thread = Thread

-- a fault of a bundle that is read once, as a fault of the run
abbrev pub fault_of_read : ReadFault → Fault
fault_of_read (read.Case fault) = fault_of_case fault
fault_of_read (read.Device fault) = fault_of_device fault
fault_of_read read.Thread = Thread
