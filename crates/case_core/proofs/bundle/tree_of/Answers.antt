use Rattle.std.proofs.Common.{ap, ◌∙◌}
use Rattle.split_tree.specs.Clash.{cube_lists}
use Rattle.case_core.proofs.SectionsOneMeaning.{has_tree}
use Rattle.case_core.proofs.bundle.tree_of.Goals as goal

pub returns-clause-ok : goal.returns-clause-ok
returns-clause-ok c items within file =
    has_tree _ items c.deref.result.now within (ap cube_lists c.deref.ensures.value ∙ file.1)
    c.in_ok-build.ensures.tree c.in_ok-build.ensures.total
