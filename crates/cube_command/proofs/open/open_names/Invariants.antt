use Rattle.std.proofs.Common.{◌≡◌, map}
use Rattle.std.specs.List.{flat_map}
use Rattle.cube_command.specs.Open.{open_name}
use Rattle.cube_command.proofs.open.open_names.Given as goal

abbrev pub invariant-loop-line : goal.invariant-loop-line
invariant-loop-line l = l.names.items ≡ flat_map open_name (map (λ line. line.now) l.yielded)
