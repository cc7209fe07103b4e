use Rattle.std.proofs.Common.{ℕ, ◌<◌}
use Rattle.board_hall.specs.Halls.{core_of}
use Rattle.board_hall.proofs.PostsHomes.{NotIn}
use Rattle.board_hall.proofs.table.Core.board_for.Given as goal

abbrev pub invariant-loop-part : goal.invariant-loop-part
invariant-loop-part l = (i : ℕ) → i < l.part → NotIn (core_of l.fn.self) l.fn.node i
