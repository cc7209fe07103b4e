use Rattle.std.proofs.Common.{◌≡◌, refl, sym, ap, ◌∙◌, subst}
use Rattle.mark_board.specs.Posting.{posted_answer}
use Rattle.board_hall.specs.declared.view.CutCase.{CutCase}
use Rattle.board_hall.specs.declared.view.Post.{Post}
use Rattle.board_hall.specs.Hall.{IsBoardOf, MayPost, posting}
use Rattle.board_hall.specs.Inner.Plays.{Hand}
use Rattle.board_hall.specs.Halls.{core_of}
use Rattle.board_hall.proofs.HeldPosts.{finding_held, new_of, not_already, fresh, lost}
use Rattle.board_hall.proofs.HeldPosts.{board_new, may, recorded, came_back}
use Rattle.board_hall.proofs.table.Core.post_held.Goals as goal

pub returns-in-Already-clause-recorded : goal.returns-in-Already-clause-recorded
returns-in-Already-clause-recorded c =
    let k : CutCase = core_of c.args.self.now in let r = c.requires in
    let e = c.post-answer.ensures in let me = c.args.seat.now.me in
    let x : Post =
    record { board = c.args.number; row = c.row_of.result; judged = c.judged.result } in
    let held =
    finding_held k me.0.known c.args.board.now c.post-answer.new.self c.args.finding x
    c.node.result (posted_answer c.post-answer.result) r.board r.home.1.inside r.case r.section
    c.node.ensures.value c.judged.ensures.value c.judged.ensures.is c.row_of.ensures e.same e.marks
    e.already e.root in (
      x,
      record { home = held.home; judged_is = c.judged.ensures.value },
      refl,
      came_back k me.0.known c.args.board.now c.post-answer.new.self x r.board held.real
          c.post-answer.result c.in-Already.field-0 c.in-Already.is held.answers me refl,
    )

pub overflow_sub-covered : goal.overflow_sub-covered
overflow_sub-covered c =
    let k : CutCase = core_of c.args.self.now in let r = c.requires in
    let e = c.post-answer.ensures in let me = c.args.seat.now.me in
    let x : Post =
    record { board = c.args.number; row = c.row_of.result; judged = c.judged.result } in
    let held =
    finding_held k me.0.known c.args.board.now c.post-answer.new.self c.args.finding x
    c.node.result (posted_answer c.post-answer.result) r.board r.home.1.inside r.case r.section
    c.node.ensures.value c.judged.ensures.value c.judged.ensures.is c.row_of.ensures e.same e.marks
    e.already e.root in
    let is_new = new_of c.post-answer.result c.in_default.not-Already in
    let new = not_already c.post-answer.result is_new in
    (lost k me.0.known c.args.board.now c.post-answer.new.self x
    (posted_answer c.post-answer.result) r.board held.home.is_row.within held.answers
    c.open_weight-before.result c.open_weight.result new c.open_weight-before.ensures
    c.open_weight.ensures).0

pub note-requires : goal.note-requires
note-requires c =
    let k : CutCase = core_of c.args.self.now in let r = c.requires in
    let e = c.post-answer.ensures in let me = c.args.seat.now.me in
    let x : Post =
    record { board = c.args.number; row = c.row_of.result; judged = c.judged.result } in
    let held =
    finding_held k me.0.known c.args.board.now c.post-answer.new.self c.args.finding x
    c.node.result (posted_answer c.post-answer.result) r.board r.home.1.inside r.case r.section
    c.node.ensures.value c.judged.ensures.value c.judged.ensures.is c.row_of.ensures e.same e.marks
    e.already e.root in
    let is_new = new_of c.post-answer.result c.in_default.not-Already in
    let new = not_already c.post-answer.result is_new in
    record {
      own = r.own;
      named = (refl, refl);
      holds = r.holds.0;
      inside = held.home.inside;
      may =
          subst (MayPost k me.0.known x me.0.owes) (sym c.owed_by.ensures)
          (may k me.0.known c.args.board.now c.post-answer.new.self x r.board held.real
          c.post-answer.result is_new held.answers e.verdict me.0.owes r.holds.1);
      new =
          fresh k me.0.known c.args.board.now c.post-answer.new.self x
          (posted_answer c.post-answer.result) r.board held.home.is_row.within held.answers new;
      weight =
          (lost k me.0.known c.args.board.now c.post-answer.new.self x
          (posted_answer c.post-answer.result) r.board held.home.is_row.within held.answers
          c.open_weight-before.result c.open_weight.result new c.open_weight-before.ensures
          c.open_weight.ensures).1;
    }

pub returns : goal.returns
returns c =
    let k : CutCase = core_of c.args.self.now in let r = c.requires in
    let e = c.post-answer.ensures in let me = c.args.seat.now.me in
    let x : Post =
    record { board = c.args.number; row = c.row_of.result; judged = c.judged.result } in
    let held =
    finding_held k me.0.known c.args.board.now c.post-answer.new.self c.args.finding x
    c.node.result (posted_answer c.post-answer.result) r.board r.home.1.inside r.case r.section
    c.node.ensures.value c.judged.ensures.value c.judged.ensures.is c.row_of.ensures e.same e.marks
    e.already e.root in
    let is_new = new_of c.post-answer.result c.in_default.not-Already in
    let new = not_already c.post-answer.result is_new in
    let after : c.note.new.seat.me ≡ (posting x c.owed_by.result me.0, me.1) =
    c.note.ensures.posts in record {
      own = c.note.ensures.own;
      board =
          subst (λ l. IsBoardOf k c.args.number l c.post-answer.new.self)
          (sym (ap (λ (m : Hand). m.0.known) after))
          (board_new k me.0.known c.args.board.now c.post-answer.new.self x
          (posted_answer c.post-answer.result) r.board held.home.is_row.within held.answers new);
      recorded = (
        x,
        record { home = held.home; judged_is = c.judged.ensures.value },
        refl,
        recorded k me.0.known c.args.board.now c.post-answer.new.self x r.board held.real
            c.post-answer.result is_new held.answers e.verdict me c.note.new.seat.me refl
            (after ∙ (λ i. (posting x (c.owed_by.ensures i) me.0, me.1))),
      );
      back = e.back;
    }
