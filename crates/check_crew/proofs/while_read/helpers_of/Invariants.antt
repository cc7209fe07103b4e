use Rattle.std.proofs.Common.{◌≡◌, ◌+◌, ◌≤◌, All, vec_len, vec_capacity}
use Rattle.std.specs.Vec.Iter.{into_iter_items, into_iter_len}
use Rattle.board_hall.specs.Halls.{shared_of, IsNewPass}
use Rattle.check_crew.specs.Inner.WhileRead.{IsHelper}
use Rattle.check_crew.proofs.while_read.helpers_of.Given as goal

abbrev pub invariant-loop-pass : goal.invariant-loop-pass
invariant-loop-pass g l = record {
  made : vec_len l.helpers + into_iter_len l.pass-iterator ≡ vec_len l.fn.passes;
  room : vec_len l.fn.passes ≤ vec_capacity l.helpers;
  worker : l.worker ≡ vec_len l.helpers + 1;
  rest : All (IsNewPass (shared_of l.site.core.now)) (into_iter_items l.pass-iterator);
  free : All (IsHelper g.J.NamesCase.case) l.helpers.items;
}
