use Rattle.std.proofs.Common.{◌≡◌, None}
use Rattle.board_hall.specs.Halls.{shared_of, view_of, IsPassOf}
use Rattle.own_threads.specs.Inner.Sections.{HasSeenFrom}
use Rattle.own_threads.proofs.sections.post_first_half.Given as goal

abbrev pub invariant-loop-place : goal.invariant-loop-place
invariant-loop-place g l = record {
  same : l.examiner ≡ l.desk.case.now;
  own : IsPassOf (shared_of l.desk.core.now) l.pass;
  free : (view_of l.pass).owes ≡ None;
  seen : HasSeenFrom (view_of l.pass) 0 l.place;
}
