use Rattle.std.proofs.Common.{◌≡◌, ◌+◌, [], All, vec_len}
use Rattle.board_hall.specs.Hall.{newcomer}
use Rattle.board_hall.specs.Halls.{core_of, shared_of, IsNewPass}
use Rattle.board_hall.proofs.table.Core.deal.Given as goal

abbrev pub invariant-loop : goal.invariant-loop
invariant-loop l =
    (l.seat.table_id ≡ l.initial.seat.table_id)
    × (l.seat.me ≡ (newcomer (core_of l.fn.self) l.seat.me.0.parts, []))
    × (l.seat.me.0.parts + l.counter ≡ l.fn.self.passes + 1)
    × (vec_len l.all + 1 ≡ l.counter)
    × All (IsNewPass (shared_of l.fn.self)) l.all.items
