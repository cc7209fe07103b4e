-- What a worker has found of a target whose proof doesn't stand in the case.
use Rattle.std.specs.Prelude.{◌≡◌, ℕ, List, [], Option, None, Some}
use Rattle.case_core.specs.Leaves.{IsTargetAt}
use Rattle.case_core.specs.Target.{Target}
use Rattle.case_core.specs.Judged.{Judged}
use Rattle.case_core.specs.Bundle.{labels_of}
use Rattle.case_core.specs.Case.{proof_for}
use Rattle.case_core.specs.Finding.{IsFoundBy}
use Rattle.board_hall.specs.declared.view.View.{View}
use Rattle.proof_folder.specs.TargetProofs.{IsGiven}
use Rattle.check_crew.specs.Seen.{HasSeenMark}
use Rattle.check_crew.specs.declared.targets.Examined.{Examined}
use Rattle.check_crew.specs.declared.targets.Examined.TheVariants.{Absent, Found, Other}

-- the mark of this judgement is among what was seen, at the node of the target
pub record HasSeenAs (v : View) (target : Target) (judged : Judged) : Type 0 where
  pub node : ℕ
  pub here : IsTargetAt v.of.case.tree node target
  pub mark : HasSeenMark v node judged

-- The proof of a target that was read: it has no label line, the target has no section, and this is
-- the judgement of its bytes, which stands at the target by what was seen.
pub record IsFoundAt (known : Option (Option (List ℕ))) (v : View) (target : Target)
    (judged : Judged) : Type 0 where
  pub text : List ℕ
  pub given : IsGiven known (Some text)
  pub plain : labels_of text ≡ []
  pub free : proof_for v.of.case.sections target ≡ None
  pub found : IsFoundBy v.of.case target text judged
  pub seen : HasSeenAs v target judged

-- what became of a target: there is no proof for it, or this was found of it; of one that the run
-- can't judge by itself nothing is said
abbrev pub IsExamined : Option (Option (List ℕ)) → View → Target → Examined → Type 0
IsExamined known v target Absent = IsGiven known None
IsExamined known v target (Found judged) = IsFoundAt known v target judged
IsExamined known v target Other = Unit {0}
