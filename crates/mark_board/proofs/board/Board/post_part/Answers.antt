use Rattle.std.proofs.Common.{◌<◌}
use Rattle.mark_board.specs.TopPlaces.{part_count}
use Rattle.mark_board.proofs.TopPlacesParts.{place_within}
use Rattle.mark_board.proofs.board.Board.post_part.Goals as goal

pub post_at-requires-clause-row : goal.post_at-requires-clause-row
post_at-requires-clause-row c =
    let within : c.args.verdict.part < part_count c.args.self.now.cut c.args.self.now.case.tree =
    rw (c.requires.case, c.requires.cut) at c.args.verdict.within in
    rw (c.row_of_part-row.ensures, c.part.ensures, c.requires.top)
    (place_within c.args.self.now.cut c.args.self.now.case.tree c.args.verdict.part within)
