-- What a fault of the workers is to a run.
use Rattle.std.proofs.Common.{◌≢◌, refl}
use Rattle.check_crew.specs.declared.fault.CrewFault.{CrewFault}
use Rattle.check_crew.specs.declared.fault.CrewFault.TheVariants as crew
use Rattle.run_terms.specs.declared.fault.Fault.TheVariants.{Memory, Device, Thread}
use Rattle.check_crew.specs.CrewFaults.{fault_of_crew}

-- a crew's fault is want of memory or of a thread
pub crew_fault : (fault : CrewFault) → fault_of_crew fault ≢ Memory → fault_of_crew fault ≢ Thread →
    ⊥
crew_fault crew.Memory memory thread = memory refl
crew_fault crew.Thread memory thread = thread refl

-- no crew's fault is a device's
pub crew_no_device : (fault : CrewFault) → fault_of_crew fault ≢ Device
crew_no_device crew.Memory e = cc
crew_no_device crew.Thread e = cc
