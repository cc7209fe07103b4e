-- What callers see of a hall and of a pass.
use Rattle.std.specs.Prelude.{◌≡◌, ℕ, All, length, List, None}
use Rattle.atomic_table.specs.Seated.{TableId}
use Rattle.board_hall.specs.declared.hall.Hall.{Hall}
use Rattle.board_hall.specs.declared.pass.Pass.{Pass}
use Rattle.board_hall.specs.declared.same_hall.SameHall.{SameHall}
use Rattle.board_hall.specs.declared.table.Core.{Core}
use Rattle.board_hall.specs.declared.view.View.{View}
use Rattle.board_hall.specs.declared.view.CutCase.{CutCase}
use Rattle.board_hall.specs.Hall.{newcomer}
use Rattle.board_hall.specs.Posts.{AreReal}
use Rattle.board_hall.specs.Terms.{case_of}

-- a hall: the table of its boards, its case and cut, and for how many passes it was opened
pub record HallOf : Type 0 where
  pub table : TableId
  pub of : CutCase
  pub passes : ℕ

-- a pass: the table that it has a seat at, and what it knows
pub record PassOf : Type 0 where
  pub table : TableId
  pub view : View

abbrev pub shared_of : Core → HallOf
shared_of core =
    record {
      table = core.table.shared.table_id;
      of = case_of core.table.shared.key;
      passes = core.passes;
    }

-- the case and cut of what threads share
abbrev pub core_of : Core → CutCase
core_of core = (shared_of core).of

abbrev pub hall_of : Hall → HallOf
hall_of hall = shared_of hall.core

abbrev pub pass_of : Pass → PassOf
pass_of pass = record { table = pass.seat.table_id; view = pass.seat.me.0 }

-- what a pass knows
abbrev pub view_of : Pass → View
view_of pass = (pass_of pass).view

-- the pass that a promise was made for
abbrev pub promised : SameHall → Pass
promised promise = promise.pass.value

-- a pass of the hall, which has seen real posts alone
abbrev pub IsPassOf : HallOf → Pass → Type 0
IsPassOf hall pass =
    ((pass_of pass).table ≡ hall.table) × ((view_of pass).of ≡ hall.of)
    × AreReal hall.of (view_of pass).seen

-- a pass of the hall that has posted and seen nothing
abbrev pub IsNewPass : HallOf → Pass → Type 0
IsNewPass hall pass = ((pass_of pass).table ≡ hall.table) × (view_of pass ≡ newcomer hall.of 1)

-- the passes are all that were opened, and none owes the verdict of a part
abbrev pub IsComplete : HallOf → List Pass → Type 0
IsComplete hall passes =
    (length passes ≡ hall.passes) × All (λ pass. (view_of pass).owes ≡ None) passes
