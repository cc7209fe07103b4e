use Rattle.std.proofs.Common.{◌≤◌, ◌*◌, ◌^◌, arith}
use Rattle.std.proofs.Math.Nat.{mod-le}
use Rattle.std.proofs.Math.Pow.{pow_mono}
use Rattle.tree_map.proofs.cell.width.Goals as goal

pub returns-clause-few : goal.returns-clause-few
returns-clause-few c =
    let few : 2 ^ c.args.level ≤ 2048 = pow_mono c.requires in
    let at_most = mod-le (1 * 2 ^ c.args.level) 4294967296 in
    omega (arith, few, at_most)
