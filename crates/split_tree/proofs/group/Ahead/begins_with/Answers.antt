use Rattle.split_tree.proofs.GroupStretch.{begins_where}
use Rattle.split_tree.proofs.group.Ahead.begins_with.Goals as goal

pub returns : goal.returns
returns c =
    begins_where c.args.self.now.literals.now c.args.stretch.now c.starts_with.result
    c.starts_with.ensures.value
