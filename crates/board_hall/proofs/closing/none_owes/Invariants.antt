use Rattle.std.proofs.Common.{◌≡◌, ◌<◌, ℕ, None, get_or}
use Rattle.board_hall.specs.Halls.{view_of}
use Rattle.board_hall.specs.declared.pass.Pass.{Pass}
use Rattle.board_hall.proofs.closing.none_owes.Given as goal

abbrev pub invariant-loop-pass : goal.invariant-loop-pass
invariant-loop-pass l =
    (j : ℕ) (d : Pass) → j < l.pass-index → (view_of (get_or l.fn.passes j d)).owes ≡ None
