use Rattle.split_tree.specs.Inner.Nodes.{tree_of}
use Rattle.split_tree.proofs.nodes.Nodes.of_shapes.Given as goal

abbrev pub ghost-ends_of : goal.ghost-ends_of
ghost-ends_of a = tree_of a.shapes.now
