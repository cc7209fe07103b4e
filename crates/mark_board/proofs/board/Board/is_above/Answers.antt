use Rattle.std.proofs.Common.{◌≡◌, ◌<◌, true, false, arith}
use Rattle.split_tree.specs.SplitTree.{size}
use Rattle.mark_board.proofs.TopPlacesApart.{place_once}
use Rattle.mark_board.proofs.TopPlacesNodes.{node_within}
use Rattle.mark_board.proofs.BoardRows.{part_not_own, own_place}
use Rattle.mark_board.proofs.board.Board.is_above.Goals as goal

pub returns-in-Some : goal.returns-in-Some
returns-in-Some c =
    let board = c.args.self.now in (
      λ t. let k : false ≡ true = t in absurd (cc),
      λ own.
          let is = c.in-Some.ensures in
          let same =
          place_once board.cut board.case.tree c.args.node own.0 is.0
          (own_place board.cut board.case.tree c.args.node own.0 own.1) is.1 in
          absurd (part_not_own board.cut board.case.tree c.in-Some.field-0 is.0 is.2.0 is.2.1
          (rw same at own.1.inner)),
    )

pub returns-then-number-size : goal.returns-then-number-size
returns-then-number-size c =
    let board = c.args.self.now in (
      λ t. let k : false ≡ true = t in absurd (cc),
      λ own.
          let l : c.args.node < size board.case.tree =
          rw own.1.here at (node_within board.case.tree board.cut own.0 own.1.within) in
          let e : c.size.result ≡ size board.case.tree =
          rw (c.tree.ensures.tree, c.case.ensures) at c.size.ensures in
          absurd (omega (arith, l, e, c.number.ensures, c.if-number-size.true)),
    )
