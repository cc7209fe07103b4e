use Rattle.std.proofs.Common.{◌≡◌, ◌≢◌, ◌<◌, ℕ, List, sym, ap, ◌∙◌, subst}
use Rattle.split_tree.specs.SplitTree.{size}
use Rattle.case_core.specs.Case.{CaseOf}
use Rattle.case_core.specs.Finding.{target_of, IsFinding}
use Rattle.split_tree.specs.Leaves.{IsTargetAt}
use Rattle.split_tree.specs.declared.node.Target.{Target}
use Rattle.mark_board.specs.declared.mark.Mark.TheVariants.{Open}
use Rattle.mark_board.specs.Findings.{mark_as}
use Rattle.mark_board.proofs.BoardsGathered.{target_inside}
use Rattle.board_hall.specs.declared.view.CutCase.{CutCase}
use Rattle.board_hall.specs.declared.view.Post.{Post}
use Rattle.board_hall.specs.Posts.{mark_in}
use Rattle.board_hall.specs.Inner.Plays.{Hand}
use Rattle.board_hall.specs.Halls.{core_of}
use Rattle.board_hall.specs.Clauses.{SeesOwn, HasSectionAt}
use Rattle.case_core.proofs.CaseTables.{one_target}
use Rattle.board_hall.proofs.ClausesCalls.{keeps, saw, becomes}
use Rattle.board_hall.proofs.PostsOneFinding.{one_mark}
use Rattle.board_hall.proofs.table.Core.post.Goals as goal

pub board_for-number-requires-clause-node : goal.board_for-number-requires-clause-node
board_for-number-requires-clause-node g c =
    let f = c.args.finding in
    subst (λ (z : CaseOf). c.node.result < size z.tree) c.requires.case
    (target_inside f.case.now.tree c.node.result (target_of f.leaf f.node) c.node.ensures.here)

pub returns-clause-own : goal.returns-clause-own
returns-clause-own g c =
    let k : CutCase = core_of c.args.self.now in let r = c.requires.own in let e = c.take.ensures in
    let p = c.post_held-answer.ensures in let q = c.give.ensures in
    let v = c.args.pass.now.seat.me.0 in
    let rec = p.recorded in
    let kept =
    keeps k rec.0 c.post_held-answer.result c.take.new.seat.me c.post_held-answer.new.seat.me
    rec.3 in
    let s =
    saw k c.board_for-number.result v c.take.new.seat.me c.post_held-answer.new.seat.me
    c.give.new.seat.me (ap (λ (m : Hand). m.0.of) e.holds ∙ r.1)
    (ap (λ (m : Hand). m.0.seen) e.holds) kept q.gave r.2 in
    (q.own.0 ∙ (p.own.0 ∙ (e.own.0 ∙ r.0)), s.0, s.1)

pub returns-clause-posted : goal.returns-clause-posted
returns-clause-posted g c =
    let k : CutCase = core_of c.args.self.now in let r = c.requires.own in let e = c.take.ensures in
    let p = c.post_held-answer.ensures in let q = c.give.ensures in
    let v = c.args.pass.now.seat.me.0 in
    let rec = p.recorded in let me = c.take.new.seat.me in
    let mid = c.post_held-answer.new.seat.me in
    let kept = keeps k rec.0 c.post_held-answer.result me mid rec.3 in
    let n : ℕ = c.board_for-number.result in
    let s =
    saw k n v me mid c.give.new.seat.me (ap (λ (m : Hand). m.0.of) e.holds ∙ r.1)
    (ap (λ (m : Hand). m.0.seen) e.holds) kept q.gave r.2 in
    let f = c.args.finding in let of : f.case.now ≡ k.case = c.requires.case ∙ c.requires.of in
    let target : Target = target_of f.leaf f.node in
    let seen : List Post = c.give.new.seat.me.0.seen in
    let settles : mark_in seen rec.0.board rec.0.row ≢ Open → HasSectionAt k rec.0 →
    mark_in seen rec.0.board rec.0.row ≡ mark_as rec.0.judged = λ marked has.
    let there : IsTargetAt k.case.tree f.node has.0 =
    subst (λ (n : ℕ). IsTargetAt k.case.tree n has.0) rec.1.home.is_row.here has.1 in
    let same : target ≡ has.0 =
    one_target k.case.tree f.node target has.0
    (subst (λ (z : CaseOf). IsTargetAt z.tree f.node target) of f.here) there in
    one_mark k seen s.1 f.node rec.0.board rec.0.row has.0 f.judged rec.1.home there has.2
    (subst (λ (t : Target). IsFinding k.case t f.judged) same
    (subst (λ (z : CaseOf). IsFinding z target f.judged) of f.is)) marked
    ∙ ap mark_as (sym rec.1.judged_is) in record {
      post = rec.0;
      is_post = rec.1;
      sees = subst (SeesOwn c.give.new.seat.me.0) (sym rec.2) s.2;
      becomes =
          becomes k rec.0 n v me mid c.give.new.seat.me rec.2 (ap (λ (m : Hand). m.0.posts) e.holds)
          (ap (λ (m : Hand). m.0.owes) e.holds) q.gave settles c.post_held-answer.result rec.3;
    }
