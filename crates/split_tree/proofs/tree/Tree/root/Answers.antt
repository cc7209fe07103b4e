use Rattle.split_tree.proofs.NodesCoding.{some_node}
use Rattle.split_tree.proofs.tree.Tree.root.Goals as goal

pub returns-clause-within : goal.returns-clause-within
returns-clause-within c = rw c.new.ensures (some_node c.args.self.now)
