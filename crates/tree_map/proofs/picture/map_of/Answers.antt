use Rattle.tree_map.proofs.PictureWeights.{whole_some}
use Rattle.tree_map.proofs.picture.map_of.Goals as goal

pub write_title-requires : goal.write_title-requires
write_title-requires c = rw c.total-whole.ensures (whole_some 0 c.tree-tree.result.now)
