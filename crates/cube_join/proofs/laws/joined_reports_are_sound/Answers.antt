use Rattle.cube_join.proofs.Bundles.{join_sound}
use Rattle.cube_join.proofs.laws.joined_reports_are_sound.Goals as goal

pub returns : goal.returns
returns c = join_sound
