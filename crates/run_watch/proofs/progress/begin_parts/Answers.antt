use Rattle.cube_report.proofs.BoardsGathered.{part_listed}
use Rattle.cube_report.proofs.TopPlacesParts.{part_read, part_within}
use Rattle.run_watch.proofs.progress.begin_parts.Goals as goal

pub weight_under-weight-requires : goal.weight_under-weight-requires
weight_under-weight-requires c =
    let cut = c.args.cut in let tree = c.args.tree.now in let roots = c.args.roots.now in
    let number = c.loop-number.number in
    let inside = part_listed cut tree roots c.requires.roots number c.loop-number-test.true in
    rw (part_read cut tree roots number c.index-roots-number.result c.requires.roots inside
    c.index-roots-number.is) (part_within cut tree number inside)
