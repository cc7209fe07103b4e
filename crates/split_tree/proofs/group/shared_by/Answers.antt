use Rattle.std.proofs.lemmas.List.{take_rest}
use Rattle.split_tree.proofs.GroupStretch.{first_begins}
use Rattle.split_tree.proofs.group.shared_by.Goals as goal

pub returns-in-len1-up : goal.returns-in-len1-up
returns-in-len1-up c =
    first_begins c.args.cubes.now c.shared_len.result c.first-item.result
    c.in-len1-up.len_at_least c.first-item.is
    (rw (take_rest c.args.cubes.now 1) at c.shared_len.ensures.each)
