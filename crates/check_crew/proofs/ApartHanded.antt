-- What a worker hands back.
use Rattle.std.proofs.Common.{◌≡◌, ℕ, List, Option, All, Result, Ok, Err}
use Rattle.std.proofs.Common.{ap, subst, sym, true, ◌∙◌}
use Rattle.std.specs.Prelude.{IfOk, MatchOption, OnOk}
use Rattle.std.proofs.lemmas.List.Elements.{All-weaker}
use Rattle.case_core.specs.Case.{CaseOf}
use Rattle.case_core.specs.Target.{Target}
use Rattle.board_hall.specs.declared.pass.Pass.{Pass}
use Rattle.board_hall.specs.declared.view.CutCase.{CutCase}
use Rattle.board_hall.specs.declared.view.View.{View}
use Rattle.board_hall.specs.Clauses.{Stays}
use Rattle.board_hall.specs.Halls.{HallOf, IsPassOf, view_of}
use Rattle.proof_folder.specs.TargetProofs.{Known}
use Rattle.check_crew.specs.Examined.{IsExamined}
use Rattle.byte_flow.specs.Device.{IsDeviceFault}
use Rattle.check_crew.specs.declared.crew.Crew.{Crew}
use Rattle.check_crew.specs.declared.worker.Job.{Job}
use Rattle.check_crew.specs.declared.worker.Shift.{Shift}
use Rattle.check_crew.specs.declared.worker.Turns.{Turns}
use Rattle.check_crew.specs.declared.targets.ExaminedTarget.{ExaminedTarget}
use Rattle.check_crew.specs.Inner.Apart.{IsListOf}
use Rattle.check_crew.specs.Inner.Crew.{HasSeenTurn, IsDealtBy, IsHandedBy, IsShiftOf}
use Rattle.check_crew.proofs.SeenTurns.{section_stays}
use Rattle.cube_jobs.specs.Jobs.{JobPassOf}

-- what a worker has done of sections is done when it has ended well over targets
pub turns_stay : {T E : Type 0} (order : List ℕ) (before after : View) (job_pass : JobPassOf)
    (end : Result T E) → job_pass.found_empty ≡ true
    → All (HasSeenTurn order before) job_pass.claims → OnOk end (Stays before after)
    → OnOk end (job_pass.found_empty ≡ true)
    × OnOk end (All (HasSeenTurn order after) job_pass.claims)
turns_stay order before after job_pass (Ok value) empty seen stays = (
  empty,
  All-weaker (HasSeenTurn order before) (HasSeenTurn order after)
      (λ turn. section_stays before after stays _) job_pass.claims seen,
)
turns_stay order before after job_pass (Err fault) empty seen stays = (tt, tt)

-- each of these workers met a fault of the device just where a call has failed
pub faults_met : {R G P : Type 0} (crew : Crew R G P) (held : P → Known) (failures : P → ℕ)
    (shifts : List (Shift P)) → All (IsHandedBy crew held failures) shifts
    → All (λ shift. MatchOption shift.fault (failures shift.proofs ≡ 0)
    (IsDeviceFault 0 (failures shift.proofs))) shifts
faults_met crew held failures shifts =
    All-weaker (IsHandedBy crew held failures)
    (λ shift. MatchOption shift.fault (failures shift.proofs ≡ 0)
    (IsDeviceFault 0 (failures shift.proofs))) (λ shift handed. handed.is.fault_is) shifts

-- the list of a worker that no fault stopped
pub list_of : (hall : HallOf) (case : CaseOf) (held known : Known) (pass : Pass)
    (examined : List ExaminedTarget) → case ≡ hall.of.case → IsPassOf hall pass
    → All (λ one. IsExamined (held one.target) (view_of pass) one.target one.examined) examined
    → ((target : Target) → held target ≡ known target) → IsListOf known case examined
list_of hall case held known pass examined of own each same = record {
  view = view_of pass;
  of_case = ap (λ (k : CutCase). k.case) own.1 ∙ sym of;
  all =
      All-weaker (λ one. IsExamined (held one.target) (view_of pass) one.target one.examined)
      (λ one. IsExamined (known one.target) (view_of pass) one.target one.examined)
      (λ one.
      subst (λ (k : Option (Option (List ℕ))). IsExamined k (view_of pass) one.target one.examined)
      (same one.target)) examined each;
}

-- what a worker hands back for a job that was dealt
pub handed_by : {R G P : Type 0} (crew : Crew R G P) (held : P → Known) (failures : P → ℕ)
    (job : Job R G P) (shift : Shift P) → IsDealtBy crew failures job
    → IsShiftOf job.turns (held job.proofs) failures shift → IsHandedBy crew held failures shift
handed_by {R} {G} {P} crew held failures job shift dealt is = record {
  reader = job.proofs;
  among = dealt.among;
  is =
      subst (λ (turns : Turns R G). IsShiftOf turns (held job.proofs) failures shift) dealt.turns
      is;
}

pub own_handed_by : {R G P E : Type 0} (crew : Crew R G P) (held : P → Known) (failures : P → ℕ)
    (job : Job R G P) (end : Result (Shift P) E) → IsDealtBy crew failures job
    → IfOk end (IsShiftOf job.turns (held job.proofs) failures)
    → IfOk end (IsHandedBy crew held failures)
own_handed_by crew held failures job (Ok shift) dealt is =
    handed_by crew held failures job shift dealt is
own_handed_by crew held failures job (Err fault) dealt is = tt
