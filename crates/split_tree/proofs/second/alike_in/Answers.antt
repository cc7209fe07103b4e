use Rattle.std.proofs.Common.{◌≡◌, ◌<◌, length, arith}
use Rattle.split_tree.proofs.GroupStretch.{nothing_leads}
use Rattle.split_tree.proofs.SecondAlike.{all_alike}
use Rattle.split_tree.proofs.second.alike_in.Goals as goal

pub returns-then-is_empty : goal.returns-then-is_empty
returns-then-is_empty c =
    let group = c.args.group.now in
    let none : length group.shared.now < 1 = grind (arith) in
    rw (nothing_leads group.shared.now group.cubes.items none)
    (rw c.deref.ensures.value at c.alike_len.ensures)

pub returns-else-is_empty : goal.returns-else-is_empty
returns-else-is_empty c =
    let group = c.args.group.now in
    let some : 0 < length group.shared.now = grind (arith) in
    let long : c.len.result ≡ length group.cubes.items = omega (arith, group.cubes.ok.0) in
    rw long (all_alike group.shared.now group.cubes.items some)
