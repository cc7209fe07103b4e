use Rattle.split_tree.proofs.NavigationPaths.{one_node}
use Rattle.split_tree.proofs.laws.paths_are_apart.Goals as goal

pub returns : goal.returns
returns c tree i j first second same = one_node tree i j first second same
