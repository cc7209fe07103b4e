-- What is said of a bundle and a folder's proofs on the way to the program's report.
use Rattle.std.proofs.Common.{◌≡◌, ◌≢◌, ◌<◌, ◌^◌, ℕ, List, [], Bool, Some, refl}
use Rattle.std.proofs.Common.{ap, inl, inr, arith, length, Result, Ok, Err, IfErr, IfOk}
use Rattle.case_core.specs.Sections.{IsCaseOf, IsFaultOf}
use Rattle.case_core.specs.declared.fault.CaseFault.{CaseFault}
use Rattle.case_core.specs.declared.fault.CaseFault.TheVariants as case
use Rattle.case_core.specs.SplitTree.{SplitTree}
use Rattle.case_core.specs.Leaves.{cube_count, missing_nodes}
use Rattle.case_core.specs.Case.{CaseOf}
use Rattle.cube_report.specs.Mark.{Mark}
use Rattle.cube_report.specs.Fault.{Fault}
use Rattle.cube_report.specs.declared.engine.Outcome.{Outcome}
use Rattle.cube_report.specs.Faults.{IsInputFault, fault_of_case}
use Rattle.cube_report.specs.Stated.{IsWrittenBy}
use Rattle.proof_folder.specs.Given.{HasFewLeaves, AreFoundApart}
use Rattle.file_store.specs.Files.{AreAdded, Held, IsWithProofs, as_proofs, leaf_names}
use Rattle.file_store.proofs.FilesSections.{nothing_added}
use Rattle.file_store.specs.Files.{held_for}
use Rattle.bundle_files.proofs.LawsApart.{judged_apart}
use Rattle.bundle_files.specs.Judging.{IsOutcomeOf, IsRefusedOf}
use Rattle.bundle_files.specs.WhileRead.{IsRefusedBy, IsRunOf}

-- a bundle with a fault has no proofs added
faulty_alone : (held : Held) (folder bundle : List ℕ) (kind : CaseFault) → IsFaultOf bundle kind →
    IsWithProofs held folder bundle bundle
faulty_alone held folder bundle kind is = (
  [],
  inr (kind, is, refl),
  nothing_added (as_proofs held) folder bundle,
)

-- the fault of a bundle is that of the bundle with the folder's proofs
pub refused_alone : (held : Held) (folder bundle : List ℕ) (kind : CaseFault)
    → (kind ≢ case.Memory → IsFaultOf bundle kind) → IsInputFault (fault_of_case kind) →
    IsRefusedOf held (Some folder) bundle (fault_of_case kind)
refused_alone held folder bundle kind first input =
    let is : IsFaultOf bundle kind = first (λ e. input.0 (ap fault_of_case e)) in record {
      whole = bundle;
      is_judged = faulty_alone held folder bundle kind is;
      first = (kind, refl, is);
    }

-- what is written by marks that are right for a folder's proofs is what a run on the bundle with
-- these proofs promises
pub apart_outcome : (held : Held) (folder bundle : List ℕ) (case : CaseOf) (marks : List Mark)
    (draws : Bool) (report map : List ℕ) (answer : Bool) → IsCaseOf bundle case
    → HasFewLeaves case.tree → AreFoundApart (held_for held folder) case marks
    → IsWrittenBy case marks draws report map answer →
    IsOutcomeOf held (Some folder) bundle draws report map answer
apart_outcome held folder bundle case marks draws report map answer is few apart written =
    let judged = judged_apart held folder bundle case marks is few apart in record {
      whole = judged.whole;
      is_judged = judged.with_proofs;
      outcome = judged.outcome draws report map answer written;
    }

-- two counts of 32 bits are few leaves
pub few_leaves : (tree : SplitTree) (cubes missing_leaves : ℕ) → cubes < 2 ^ 32
    → missing_leaves < 2 ^ 32 → cubes ≡ cube_count tree
    → missing_leaves ≡ length (missing_nodes tree) → HasFewLeaves tree
few_leaves tree cubes missing_leaves few_cubes few_missing cubes_are missing_are = omega arith

-- ---- the bundle with the folder's proofs, as one text

module _ (held : Held) (folder bundle : List ℕ) (case : CaseOf) (gives : List ℕ → Type 0)
    (is : IsCaseOf bundle case)
    (added : (whole : List ℕ) → gives whole
    → AreAdded (as_proofs held) folder (leaf_names case.tree) bundle whole) where
  with_proofs : (whole : List ℕ) → gives whole → IsWithProofs held folder bundle whole
  with_proofs whole given = (leaf_names case.tree, inl (case, is, refl), added whole given)

  pub run_with : (run : Result Outcome Fault) (draws : Bool)
      → IfOk run (λ outcome. IsRunOf gives draws outcome.text.items outcome.map.items
      outcome.refuted)
      → IfOk run (λ outcome. IsOutcomeOf held (Some folder) bundle draws outcome.text.items
      outcome.map.items outcome.refuted)
  run_with (Ok outcome) draws of = record {
    whole = of.bundle;
    is_judged = with_proofs of.bundle of.given;
    outcome = of.outcome;
  }
  run_with (Err fault) draws of = tt

  pub refused_with : (run : Result Outcome Fault)
      → IfErr run (λ fault. IsInputFault fault → IsRefusedBy gives fault)
      → IfErr run (λ fault. IsInputFault fault → IsRefusedOf held (Some folder) bundle fault)
  refused_with (Ok outcome) of = tt
  refused_with (Err fault) of = λ input. record {
    whole = (of input).0;
    is_judged = with_proofs (of input).0 (of input).1;
    first = (of input).2;
  }
