-- The iCNF text of a bundle that is judged while it is read.
use Rattle.std.specs.Prelude.{◌⊎◌, ℕ, List, Option}
use Rattle.case_core.specs.Problem as code
use Rattle.cube_report.specs.Correct.{IsFaultOn}
use Rattle.cube_report.specs.Fault.{Fault}
use Rattle.bundle_files.specs.Formula.{HasCount, HasOtherCount}

-- it has this fault, its first, and no other clauses than is said; or it has others
abbrev pub IsFrontFault : Option code.Problem → List ℕ → Fault → Type 0
IsFrontFault said icnf fault =
    (IsFaultOn icnf fault × HasCount said icnf) ⊎ HasOtherCount said icnf fault
