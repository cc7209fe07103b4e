-- Laws of bundles.
use Rattle.std.specs.Prelude.{◌≡◌, ◌≢◌, ◌⊎◌, ℕ, List}
use Rattle.case_core.specs.Case.{CaseOf}
use Rattle.case_core.specs.Sections.{IsCaseOf, IsFaultOf}
use Rattle.case_core.specs.declared.fault.CaseFault.{CaseFault}
use Rattle.case_core.specs.declared.fault.CaseFault.TheVariants.{Memory}

-- each bundle stands for a case or has a fault, which is never want of memory
abbrev pub CaseOrAFault : Type 0
CaseOrAFault = (bundle : List ℕ) →
    ((case : CaseOf) × IsCaseOf bundle case)
    ⊎ ((fault : CaseFault) × (fault ≢ Memory) × IsFaultOf bundle fault)

-- it stands for one case at most
abbrev pub OneCase : Type 0
OneCase = (bundle : List ℕ) (first second : CaseOf) →
    IsCaseOf bundle first → IsCaseOf bundle second → first ≡ second

-- it has one fault at most
abbrev pub OneFault : Type 0
OneFault = (bundle : List ℕ) (first second : CaseFault) →
    IsFaultOf bundle first → IsFaultOf bundle second → first ≡ second

-- where it stands for a case, it has no fault
abbrev pub NoFaultBesideACase : Type 0
NoFaultBesideACase = (bundle : List ℕ) (case : CaseOf) (fault : CaseFault) →
    IsCaseOf bundle case → IsFaultOf bundle fault → ⊥
