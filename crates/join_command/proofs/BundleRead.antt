-- The bundle of FILE, read under the formula that has a file of its own.
use Rattle.std.proofs.Common.{◌≡◌, ◌≢◌, ◌+◌, ◌⊎◌, ◌∙◌, ℕ, List, Option, None, Some, inl, inr, refl}
use Rattle.std.proofs.Common.{arith, subst, sym}
use Rattle.cube_report.specs.Fault.{Fault}
use Rattle.cube_report.specs.Fault.TheVariants.{Header, Token, Unfinished, TooLarge}
use Rattle.cube_report.specs.Fault.TheVariants.{Limit, Memory, Repeats, NotATree}
use Rattle.cube_report.specs.Fault.TheVariants.{Overlap, BadLabel, NoSuchLeaf}
use Rattle.cube_report.specs.Fault.TheVariants.{ProofTwice, Device, Thread}
use Rattle.cube_report.specs.Fault.TheVariants.{NoProblem, Counts}
use Rattle.cube_report.specs.Faults.{IsInputFault}
use Rattle.bundle_files.specs.Files.{Held}
use Rattle.bundle_files.specs.Formula.{AddsClauses, HasDimacsFault, IsBundleBy, IsFormulaFault}
use Rattle.bundle_files.specs.Formula.{sources_by}
use Rattle.bundle_files.specs.Judging.{IsJudgingFault}
use Rattle.join_command.specs.Inner.Files.{IsUnreadBundle}

-- where FILE is there, what is read doesn't depend on an input
pub read_anyhow : (has : List ℕ → List ℕ → Type 0) (formula : Option (List ℕ)) (file : List ℕ)
    (input other : Option (List ℕ)) (read : List ℕ)
    → IsBundleBy has formula (Some file) input read → IsBundleBy has formula (Some file) other read
read_anyhow has None file input other read is = is
read_anyhow has (Some path) file input other read is = record {
  text = is.text;
  given = is.given;
  formula = is.formula;
  dimacs = is.dimacs;
  over = is.over;
  overwritten = is.overwritten;
  rest = is.rest;
  is_rest = is.is_rest;
  whole = is.whole;
  no_clause_more = is.no_clause_more;
}

fault_anyhow : (held : Held) (text file : List ℕ) (input other : Option (List ℕ)) (fault : Fault) →
    HasDimacsFault text fault ⊎ AddsClauses held text (Some file) input fault →
    HasDimacsFault text fault ⊎ AddsClauses held text (Some file) other fault
fault_anyhow held text file input other fault (inl first) = inl first
fault_anyhow held text file input other fault (inr adds) = inr (record {
  formula = adds.formula;
  dimacs = adds.dimacs;
  over = adds.over;
  overwritten = adds.overwritten;
  rest = adds.rest;
  is_rest = adds.is_rest;
  items = adds.items;
  stands = adds.stands;
  more = adds.more;
  is = adds.is;
})

-- so is a fault of the formula's own file
formula_fault : (held : Held) (formula : Option (List ℕ)) (file : List ℕ)
    (input other : Option (List ℕ)) (fault : Fault) →
    IsFormulaFault held formula (Some file) input fault →
    IsFormulaFault held formula (Some file) other fault
formula_fault held None file input other fault is = is
formula_fault held (Some path) file input other fault is =
    (is.0, is.1, fault_anyhow held is.0 file input other fault is.2)

-- a fault is one of what was read, or one of three others
kind_of : (fault : Fault) →
    IsInputFault fault ⊎ ((fault ≡ Memory) ⊎ ((fault ≡ Device) ⊎ (fault ≡ Thread)))
kind_of Header = inl (λ e. cc, λ e. cc, λ e. cc)
kind_of (Token line) = inl (λ e. cc, λ e. cc, λ e. cc)
kind_of Unfinished = inl (λ e. cc, λ e. cc, λ e. cc)
kind_of (TooLarge line) = inl (λ e. cc, λ e. cc, λ e. cc)
kind_of Limit = inl (λ e. cc, λ e. cc, λ e. cc)
kind_of (Repeats cube) = inl (λ e. cc, λ e. cc, λ e. cc)
kind_of (NotATree first second) = inl (λ e. cc, λ e. cc, λ e. cc)
kind_of (Overlap first second) = inl (λ e. cc, λ e. cc, λ e. cc)
kind_of (BadLabel line) = inl (λ e. cc, λ e. cc, λ e. cc)
kind_of (NoSuchLeaf line) = inl (λ e. cc, λ e. cc, λ e. cc)
kind_of (ProofTwice line) = inl (λ e. cc, λ e. cc, λ e. cc)
kind_of NoProblem = inl (λ e. cc, λ e. cc, λ e. cc)
kind_of (Counts variables clauses greatest found) = inl (λ e. cc, λ e. cc, λ e. cc)
kind_of Memory = inr (inl refl)
kind_of Device = inr (inr (inl refl))
kind_of Thread = inr (inr (inr refl))

-- why the bundle wasn't read where no call failed, and want of memory is told in the place of a
-- thread's fault
without_call : (held : Held) (formula : Option (List ℕ)) (file : List ℕ) (input : Option (List ℕ))
    (before after : ℕ) (fault told : Fault) →
    IsInputFault fault ⊎ ((fault ≡ Memory) ⊎ ((fault ≡ Device) ⊎ (fault ≡ Thread))) →
    (IsInputFault fault → IsFormulaFault held formula (Some file) input fault) → fault ≢ Device →
    after ≡ before → (fault ≡ Thread → told ≡ Memory) → (fault ≢ Thread → told ≡ fault) →
    IsUnreadBundle held (sources_by formula (Some file)) before after told
without_call held formula file input before after fault told (inl read) is called still from same =
    subst (IsUnreadBundle held (sources_by formula (Some file)) before after) (sym (same read.2))
    (inl (read, still, formula_fault held formula file input None fault (is read)))
without_call held formula file input before after fault told (inr (inl memory)) is called still from
    same =
    let other : fault ≢ Thread = λ e. cc in inr (inl (same other ∙ memory, still))
without_call held formula file input before after fault told (inr (inr (inl device))) is called
    still
    from same = absurd (called device)
without_call held formula file input before after fault told (inr (inr (inr thread))) is called
    still
    from same = inr (inl (from thread, still))

-- the same where a call may have failed, none of them one of the input
pub unread_bundle : (held : Held) (formula : Option (List ℕ)) (file : List ℕ)
    (input : Option (List ℕ)) (before after in_before in_after : ℕ) (fault told : Fault) →
    (IsInputFault fault → IsFormulaFault held formula (Some file) input fault) →
    IsJudgingFault (before + in_before) (after + in_after) fault → in_after ≡ in_before →
    (fault ≡ Thread → told ≡ Memory) → (fault ≢ Thread → told ≡ fault) →
    IsUnreadBundle held (sources_by formula (Some file)) before after told
unread_bundle held formula file input before after in_before in_after fault told is (inl calls) kept
    from same =
    let all : after + in_after ≡ before + in_before = calls.1 in
    without_call held formula file input before after fault told (kind_of fault) is calls.0
    (omega arith) from same
unread_bundle held formula file input before after in_before in_after fault told is
    (inr (device, grew)) kept from same =
    let other : fault ≢ Thread = λ e. cc in
    inr (inr (same other ∙ device, omega (arith, grew, kept)))
