-- The parts of one step in room that is used again.
use Rattle.std.specs.Prelude.{ℕ, ◌-◌, List, [], map, take, drop}
use Rattle.cnf_text.specs.Literal.{Literal}
use Rattle.lrat_text.specs.Grammar.{HintGroup}
use Rattle.lrat_text.specs.declared.buffer.GroupRun.{GroupRun}

-- the literals and the leading hints of an addition, or the ids of a deletion in the place of the
-- hints, and the groups
pub record StepParts : Type 0 where
  pub literals : List Literal
  pub hints : List ℕ
  pub groups : List HintGroup

abbrev pub no_parts : StepParts
no_parts = record { literals = []; hints = []; groups = [] }

-- the ids from place `start` up to place `end`
abbrev pub ids_between : ℕ → ℕ → List ℕ → List ℕ
ids_between start end ids = take (end - start) (drop start ids)

abbrev pub group_in : List ℕ → GroupRun → HintGroup
group_in ids run = record { candidate = run.candidate; hints = ids_between run.start run.end ids }

abbrev pub groups_in : List ℕ → List GroupRun → List HintGroup
groups_in ids runs = map (group_in ids) runs
