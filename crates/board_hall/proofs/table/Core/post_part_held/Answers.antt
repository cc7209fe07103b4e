use Rattle.std.proofs.Common.{rules, ◌≡◌, ℕ, List, Some, None, refl, sym, ap, ◌∙◌, subst, arith}
use Rattle.mark_board.specs.Posting.{part_posted_answer}
use Rattle.mark_board.specs.TopPlaces.{part_place}
use Rattle.board_hall.specs.declared.view.CutCase.{CutCase}
use Rattle.board_hall.specs.declared.view.Post.{Post}
use Rattle.board_hall.specs.Posts.{parts_in}
use Rattle.board_hall.specs.Hall.{IsBoardOf, posting, of_part}
use Rattle.board_hall.specs.Inner.Plays.{Hand}
use Rattle.board_hall.specs.Halls.{core_of}
use Rattle.board_hall.proofs.HeldPosts.{lost, board_new, part_at, part_held, part_post}
use Rattle.board_hall.proofs.HeldPosts.{part_recorded}
use Rattle.board_hall.proofs.table.Core.post_part_held.Goals as goal

pub overflow_sub-covered : goal.overflow_sub-covered
overflow_sub-covered c =
    let k : CutCase = core_of c.args.self.now in let r = c.requires in
    let e = c.post_part-answer.ensures in let v = c.args.verdict in
    let top : c.len.result ≡ parts_in k = search rules in
    let held =
    part_held k c.args.seat.now.me.0.known v.part c.args.board.now c.post_part-answer.new.self
    c.len.result c.row_of_part.result c.post_part-answer.result top r.board r.verdict.within
    (c.row_of_part.ensures
    ∙ (λ i. part_place c.args.board.now.cut c.args.board.now.case.tree (c.part.ensures i))) e.same
    e.marks e.already e.root (r.still v.part r.verdict.within r.holds.1) in
    (lost k c.args.seat.now.me.0.known c.args.board.now c.post_part-answer.new.self
    (part_at c.len.result c.row_of_part.result) (part_posted_answer c.post_part-answer.result)
    held.is held.within held.answers c.open_weight-before.result c.open_weight.result
    held.is_new c.open_weight-before.ensures c.open_weight.ensures).0

pub note-requires : goal.note-requires
note-requires c =
    let k : CutCase = core_of c.args.self.now in let r = c.requires in
    let e = c.post_part-answer.ensures in let v = c.args.verdict in
    let top : c.len.result ≡ parts_in k = search rules in
    let held =
    part_held k c.args.seat.now.me.0.known v.part c.args.board.now c.post_part-answer.new.self
    c.len.result c.row_of_part.result c.post_part-answer.result top r.board r.verdict.within
    (c.row_of_part.ensures
    ∙ (λ i. part_place c.args.board.now.cut c.args.board.now.case.tree (c.part.ensures i))) e.same
    e.marks e.already e.root (r.still v.part r.verdict.within r.holds.1) in
    record {
      own = r.own;
      named = (refl, refl);
      holds = r.holds.0 ∙ ap Some (sym top);
      inside = omega (arith, top);
      may =
          of_part record {
            part = v.part;
            real =
                part_post k c.len.result c.row_of_part.result v.part v.cut v.case.now r.verdict.case
                r.verdict.cut top r.verdict.within held.here v.refuted;
            due = r.holds.1;
            owed = refl;
          };
      new = held.unmarked;
      weight =
          (lost k c.args.seat.now.me.0.known c.args.board.now c.post_part-answer.new.self
          (part_at c.len.result c.row_of_part.result) (part_posted_answer c.post_part-answer.result)
          held.is held.within held.answers c.open_weight-before.result c.open_weight.result
          held.is_new c.open_weight-before.ensures c.open_weight.ensures).1;
    }

pub returns : goal.returns
returns c =
    let k : CutCase = core_of c.args.self.now in let r = c.requires in
    let e = c.post_part-answer.ensures in let v = c.args.verdict in
    let top : c.len.result ≡ parts_in k = search rules in
    let held =
    part_held k c.args.seat.now.me.0.known v.part c.args.board.now c.post_part-answer.new.self
    c.len.result c.row_of_part.result c.post_part-answer.result top r.board r.verdict.within
    (c.row_of_part.ensures
    ∙ (λ i. part_place c.args.board.now.cut c.args.board.now.case.tree (c.part.ensures i))) e.same
    e.marks e.already e.root (r.still v.part r.verdict.within r.holds.1) in
    let me = c.args.seat.now.me in
    let x : Post = part_at c.len.result c.row_of_part.result in
    let after : c.note.new.seat.me ≡ (posting x None me.0, me.1) = c.note.ensures.posts in record {
      own = c.note.ensures.own;
      board =
          subst (λ (p : ℕ × List Post). IsBoardOf k p.0 p.1 c.post_part-answer.new.self)
          (λ i. (top i, sym (ap (λ (m : Hand). m.0.known) after) i))
          (board_new k me.0.known c.args.board.now c.post_part-answer.new.self x
          (part_posted_answer c.post_part-answer.result) held.is held.within held.answers
          held.is_new);
      recorded = (
        x,
        part_post k c.len.result c.row_of_part.result v.part v.cut v.case.now r.verdict.case
            r.verdict.cut top r.verdict.within held.here v.refuted,
        part_recorded k me.0.known c.args.board.now c.post_part-answer.new.self x held.is
            held.within c.post_part-answer.result held.answers me c.note.new.seat.me refl
            held.unmarked after,
      );
    }
