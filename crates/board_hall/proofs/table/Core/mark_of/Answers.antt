use Rattle.std.proofs.Common.{◌≡◌, ℕ, List, sym, ap, ◌∙◌, subst}
use Rattle.split_tree.specs.SplitTree.{SplitTree}
use Rattle.split_tree.specs.Leaves.{IsTargetAt}
use Rattle.board_hall.specs.declared.view.CutCase.{CutCase}
use Rattle.board_hall.specs.declared.view.Post.{Post}
use Rattle.board_hall.specs.Posts.{mark_in}
use Rattle.board_hall.specs.Hall.{IsBoardOf, IsBoard}
use Rattle.board_hall.specs.Inner.Plays.{Hand}
use Rattle.board_hall.specs.Halls.{core_of}
use Rattle.board_hall.proofs.ClausesCalls.{keeps_all, saw}
use Rattle.board_hall.proofs.HeldPosts.{bound_board, row_on, targets_on}
use Rattle.board_hall.proofs.table.Core.mark_of.Goals as goal

pub returns-clause-own : goal.returns-clause-own
returns-clause-own g c =
    let k : CutCase = core_of c.args.self.now in let r = c.requires.own in let e = c.take.ensures in
    let q = c.give.ensures in let v = c.args.pass.now.seat.me.0 in let me = c.take.new.seat.me in
    let s =
    saw k c.board_for-number.result v me me c.give.new.seat.me
    (ap (λ (m : Hand). m.0.of) e.holds ∙ r.1) (ap (λ (m : Hand). m.0.seen) e.holds) (keeps_all me)
    q.gave r.2 in
    (q.own.0 ∙ (e.own.0 ∙ r.0), s.0, s.1)

pub mark_of-mark-requires : goal.mark_of-mark-requires
mark_of-mark-requires g c =
    let k : CutCase = core_of c.args.self.now in let e = c.take.ensures in
    let n : ℕ = c.board_for-number.result in
    let known : List Post = c.take.new.seat.me.0.known in let node : ℕ = c.node_of_target.result in
    let is : IsBoardOf k n known c.bind-board.result =
    bound_board k c.args.case.now n known c.take.result c.bind-board.result c.requires.of
    c.bind-board.ensures
    (subst (λ z. IsBoard z n known c.take.result) c.requires.own.1 e.board) in (
      node,
      subst (λ (t : SplitTree). IsTargetAt t node c.args.target)
          (c.tree.ensures.tree ∙ ap (λ z. z.tree) (c.requires.of ∙ sym is.is_at.case_is))
          c.node_of_target.ensures.here,
      (
        c.board_for-number.ensures.0,
        targets_on k n known c.bind-board.result is node _ c.board_for-number.ensures.1,
      ),
    )

pub returns-clause-mark : goal.returns-clause-mark
returns-clause-mark g c =
    let k : CutCase = core_of c.args.self.now in let r = c.requires.own in let e = c.take.ensures in
    let q = c.give.ensures in let v = c.args.pass.now.seat.me.0 in let me = c.take.new.seat.me in
    let n : ℕ = c.board_for-number.result in
    let s =
    saw k n v me me c.give.new.seat.me (ap (λ (m : Hand). m.0.of) e.holds ∙ r.1)
    (ap (λ (m : Hand). m.0.seen) e.holds) (keeps_all me) q.gave r.2 in
    let known : List Post = me.0.known in let node : ℕ = c.node_of_target.result in
    let row : ℕ = c.board_for-number.ensures.0 in let home = c.board_for-number.ensures.1 in
    let is : IsBoardOf k n known c.bind-board.result =
    bound_board k c.args.case.now n known c.take.result c.bind-board.result c.requires.of
    c.bind-board.ensures (subst (λ z. IsBoard z n known c.take.result) r.1 e.board) in
    let here : IsTargetAt k.case.tree node c.args.target =
    subst (λ (t : SplitTree). IsTargetAt t node c.args.target)
    (c.tree.ensures.tree ∙ ap (λ z. z.tree) c.requires.of) c.node_of_target.ensures.here in
    let there : IsTargetAt c.bind-board.result.case.tree node c.args.target =
    subst (λ (t : SplitTree). IsTargetAt t node c.args.target)
    (sym (ap (λ z. z.tree) is.is_at.case_is)) here in
    let mark =
    c.mark_of-mark.ensures.mark node row there
    (row_on k n known c.bind-board.result is node row home) in
    let seen : mark_in c.give.new.seat.me.0.seen n row ≡ mark_in known n row =
    (λ i. mark_in (ap (λ (m : Hand). m.0.seen) q.gave.after_is i) n row) ∙ q.gave.gave.marks row in
    record {
      node = node;
      board = n;
      row = row;
      here = here;
      home = home;
      sees = s.2;
      is = mark ∙ (is.marks row ∙ sym seen);
    }
