use Rattle.std.proofs.Common.{◌≡◌, ◌++◌, List, All, None, length, vec_len}
use Rattle.board_hall.specs.declared.pass.Pass.{Pass}
use Rattle.board_hall.specs.Halls.{view_of}
use Rattle.board_hall.specs.Inner.Held.{Gathered}
use Rattle.board_hall.proofs.closing.gather.Given as goal

abbrev pub ghosts-meet : goal.ghosts-meet
ghosts-meet a = record { other = a.other.me.0 }

abbrev pub invariant-loop-pass : goal.invariant-loop-pass
invariant-loop-pass l =
    (l.seat.table_id ≡ l.fn.shared.table_id)
    × ((met : List Pass) × (l.fn.others.items ≡ l.others.items ++ met)
    × Gathered l.fn.first (length met) met l.seat.me)
    × All (λ p. p.seat.table_id ≡ l.fn.shared.table_id) l.others.items
    × All (λ p. (view_of p).owes ≡ None) l.others.items

abbrev pub decreases-loop-pass : goal.decreases-loop-pass
decreases-loop-pass l = vec_len l.others
