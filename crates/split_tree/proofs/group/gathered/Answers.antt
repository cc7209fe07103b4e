use Rattle.std.proofs.Common.{◌<◌, length, arith}
use Rattle.split_tree.proofs.GroupStretch.{nothing_leads}
use Rattle.split_tree.proofs.group.gathered.Goals as goal

pub returns-then-is_empty : goal.returns-then-is_empty
returns-then-is_empty c =
    let none : length c.shared_by-shared.result.now < 1 = grind (arith) in
    nothing_leads c.shared_by-shared.result.now c.args.cubes.items none
