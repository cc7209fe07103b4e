use Rattle.split_tree.proofs.LawsRefuting.{both_refuted}
use Rattle.split_tree.proofs.laws.branches_refute_their_node.Goals as goal

pub returns : goal.returns
returns c formula path v positive negative = both_refuted formula path v positive negative
