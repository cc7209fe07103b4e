use Rattle.board_hall.proofs.LawsWholeOfLeaves.{whole_of_leaves, none_posted}
use Rattle.board_hall.proofs.laws.free_is_whole_of_leaves.Goals as goal

pub returns-clause-posts : goal.returns-clause-posts
returns-clause-posts c = whole_of_leaves

pub returns-clause-sections : goal.returns-clause-sections
returns-clause-sections c = λ k passes s names.
    whole_of_leaves k passes s (none_posted k s names)
