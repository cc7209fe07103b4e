use Rattle.std.proofs.Common.{◌≡◌, map, drop}
use Rattle.devices.specs.Shelf.{bytes_at}
use Rattle.devices.proofs.shelf.bytes_at.Given as goal

abbrev pub invariant-loop-place : goal.invariant-loop-place
invariant-loop-place l =
    bytes_at (map (λ file. (file.0.now, file.1.now)) l.fn.files) l.fn.path
    ≡ bytes_at (map (λ file. (file.0.now, file.1.now)) (drop l.place-index l.fn.files))
    l.fn.path
