use Rattle.tree_map.proofs.picture.+rows.Given as goal

abbrev pub decreases-rows : goal.decreases-rows
decreases-rows l = l.level
