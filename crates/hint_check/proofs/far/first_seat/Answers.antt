use Rattle.std.proofs.Common.{refl}
use Rattle.hint_check.specs.Inner.Far.{place_of}
use Rattle.hint_check.proofs.far.first_seat.Goals as goal

pub returns : goal.returns
unfolding place_of
returns c = refl
