use Rattle.std.proofs.Common.{◌≡◌, ◌+◌, ℕ, ap, ◌∙◌, arith}
use Rattle.split_tree.specs.Clash.{cube_at}
use Rattle.split_tree.proofs.LeavesPaths.{cube_path}
use Rattle.split_tree.proofs.laws.cube_path_is_cube.Goals as goal

pub returns : goal.returns
returns c cubes tree node k is within there =
    let r = cube_path tree cubes node (k + 1) is within there in
    let same : r.0 ≡ k = omega (arith, r.1) in
    r.3 ∙ ap (λ (m : ℕ). cube_at cubes m) same
