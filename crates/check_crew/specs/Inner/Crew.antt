-- What the workers of a crew share, begin with and hand back.
use Rattle.std.specs.Prelude.{◌≡◌, ◌<◌, ℕ, List, length, slice_index, true, None, All, flat_map}
use Rattle.std.specs.Prelude.{MatchOption, OnOk, Result, vec_len}
use Rattle.case_core.specs.Target.{Target}
use Rattle.std.specs.List.{Contains}
use Rattle.byte_flow.specs.Device.{IsDeviceFault}
use Rattle.mark_board.specs.Boards.{BoardsOf}
use Rattle.board_hall.specs.declared.pass.Pass.{Pass}
use Rattle.board_hall.specs.declared.view.View.{View}
use Rattle.board_hall.specs.declared.view.Proofs.TheVariants.{Elsewhere as AnyElsewhere}
use Rattle.board_hall.specs.Halls.{HallOf, core_of, shared_of, view_of, IsPassOf, IsNewPass}
use Rattle.board_hall.specs.Clauses.{Gathers}
use Rattle.cube_jobs.specs.Jobs as queue
use Rattle.cube_jobs.specs.Jobs.{JobPassOf, new_pass, claims_of}
use Rattle.check_crew.specs.declared.fault.RunFault.{RunFault}
use Rattle.check_crew.specs.declared.fault.RunFault.TheVariants.{Crew as OfCrew, Read}
use Rattle.check_crew.specs.declared.crew.Crew.{Crew}
use Rattle.check_crew.specs.declared.crew.Handed.{Handed}
use Rattle.check_crew.specs.declared.worker.Job.{Job}
use Rattle.check_crew.specs.declared.worker.Shift.{Shift}
use Rattle.check_crew.specs.declared.worker.Turns.{Turns}
use Rattle.check_crew.specs.Inner.Apart.{IsListOf}
use Rattle.check_crew.specs.Inner.Order.{IsOrder}
use Rattle.proof_folder.specs.TargetProofs.{Known}
use Rattle.check_crew.specs.Examined.{IsExamined}
use Rattle.check_crew.specs.Seen.{HasSeenSection, HaveSeenSections}

-- that of the section whose turn it is in this order
abbrev pub HasSeenTurn : List ℕ → View → ℕ → Type 0
HasSeenTurn order v turn = HasSeenSection v (slice_index order turn)

-- the hall is of this case, the queue has a turn for each of its sections, and targets have turns
-- only where the hall takes their proofs from elsewhere
pub record IsReady {R G : Type 0} (turns : Turns R G) : Type 0 where
  pub case_is : turns.site.case.now ≡ (core_of turns.site.core.now).case
  pub jobs_are : turns.jobs.now.sections ≡ length turns.order.now
  pub order_is : IsOrder (length turns.site.case.now.sections) turns.order.now
  pub elsewhere : 0 < length turns.targets.now → (core_of turns.site.core.now).proofs ≡ AnyElsewhere

-- the passes of a worker have done nothing yet, and no call of what it reads by has failed
pub record IsJobOf {R G P : Type 0} (failures : P → ℕ) (job : Job R G P) : Type 0 where
  pub ready : IsReady job.turns
  pub pass : IsNewPass (shared_of job.turns.site.core.now) job.pass
  pub job_pass : job.job_pass ≡ new_pass job.turns.jobs.now
  pub fresh : failures job.proofs ≡ 0

-- it takes turns with the crew, and reads by one of the crew's readers
pub record IsDealtBy {R G P : Type 0} (crew : Crew R G P) (failures : P → ℕ) (job : Job R G P)
    : Type 0 where
  pub is : IsJobOf failures job
  pub turns : job.turns ≡ crew.turns
  pub among : Contains crew.readers.now.value.items job.proofs

-- A worker's passes owe nothing. Where nothing stopped it, it went on until no job was left, and
-- has seen the finding of each section whose turn it claimed.
pub record HasTaken {R G T E : Type 0} (turns : Turns R G) (pass : Pass) (job_pass : JobPassOf)
    (end : Result T E) : Type 0 where
  pub own : IsPassOf (shared_of turns.site.core.now) pass
  pub owes : (view_of pass).owes ≡ None
  pub of_jobs : queue.IsJobPassOf turns.jobs.now job_pass
  pub empty : OnOk end (job_pass.found_empty ≡ true)
  pub seen : OnOk end (All (HasSeenTurn turns.order.now (view_of pass)) job_pass.claims)

-- A worker whose reader holds this hands back what `HasTaken` says. Where no fault stopped it, it
-- tells what became of each target that it took; and it met a fault of the device just where a call
-- has failed.
pub record IsShiftOf {R G P : Type 0} (turns : Turns R G) (held : Known) (failures : P → ℕ)
    (shift : Shift P) : Type 0 where
  pub own : IsPassOf (shared_of turns.site.core.now) shift.pass
  pub owes : (view_of shift.pass).owes ≡ None
  pub of_jobs : queue.IsJobPassOf turns.jobs.now shift.job_pass
  pub empty : shift.fault ≡ None → shift.job_pass.found_empty ≡ true
  pub seen : shift.fault ≡ None →
      All (HasSeenTurn turns.order.now (view_of shift.pass)) shift.job_pass.claims
  pub each : shift.fault ≡ None →
      All (λ one. IsExamined (held one.target) (view_of shift.pass) one.target one.examined)
      shift.examined.items
  pub fault_is : MatchOption shift.fault (failures shift.proofs ≡ 0)
      (IsDeviceFault 0 (failures shift.proofs))

-- one with one of the crew's readers does
pub record IsHandedBy {R G P : Type 0} (crew : Crew R G P) (held : P → Known) (failures : P → ℕ)
    (shift : Shift P) : Type 0 where
  pub reader : P
  pub among : Contains crew.readers.now.value.items reader
  pub is : IsShiftOf crew.turns (held reader) failures shift

-- the finding of each section whose turn was claimed is among what one of the passes has seen
abbrev pub HaveSeenClaims : List ℕ → List Pass → List JobPassOf → Type 0
HaveSeenClaims order passes job_passes =
    (turn : ℕ) → Contains (flat_map claims_of job_passes) turn →
    (pass : Pass) × Contains passes pass × HasSeenTurn order (view_of pass) turn

-- So many workers handed this in. Their passes owe nothing, they left no job in the queue, and what
-- was found of each section whose turn they claimed has been seen. Where what they read by holds
-- what is known, their lists tell what became of targets.
pub record IsHandedIn {R G P : Type 0} (turns : Turns R G) (held : P → Known) (readers : List P)
    (count : ℕ) (handed : Handed) : Type 0 where
  pub passes_count : vec_len handed.passes ≡ count
  pub job_passes_count : vec_len handed.job_passes ≡ count
  pub own : All (IsPassOf (shared_of turns.site.core.now)) handed.passes.items
  pub free : All (λ pass. (view_of pass).owes ≡ None) handed.passes.items
  pub jobs : All (queue.IsJobPassOf turns.jobs.now) handed.job_passes.items
  pub empty : All (λ (pass : JobPassOf). pass.found_empty ≡ true) handed.job_passes.items
  pub seen : HaveSeenClaims turns.order.now handed.passes.items handed.job_passes.items
  pub lists : (known : Known)
      → All (λ one. (target : Target) → held one target ≡ known target) readers
      → All (λ list. IsListOf known turns.site.case.now list.items) handed.lists.items

-- what a run tells of a failed call: the reader has met one
abbrev pub IsRunFault : {P : Type 0} → (P → ℕ) → RunFault P → Type 0
IsRunFault failures (OfCrew fault) = Unit {0}
IsRunFault failures (Read reader) = failures reader ≡ 1

-- the boards of a hall that was closed by passes which had seen the finding of each section
pub record AreClosed (hall : HallOf) (boards : BoardsOf) : Type 0 where
  pub passes : List Pass
  pub gathered : Gathers hall passes boards
  pub own : All (IsPassOf hall) passes
  pub seen : HaveSeenSections hall.of.case passes
