use Rattle.std.proofs.Common.{◌≡◌, sym, subst, rules, true}
use Rattle.mark_board.specs.Boards.{BoardsOf}
use Rattle.check_crew.specs.Inner.WhileRead.{AreMarksBut}
use Rattle.check_crew.proofs.WhileReadMarks.{on_ok}
use Rattle.check_crew.proofs.reader.Reader.hand_out.Goals as goal

pub returns-in-Err-clause-marks : goal.returns-in-Err-clause-marks
returns-in-Err-clause-marks g c =
    on_ok _ c.judge_own.result (λ bundle handed.
    let kept : c.keep.result ≡ true = search rules in
    c.judge_own.ensures.marks.marks bundle
    (subst (λ (b : BoardsOf). AreMarksBut b c.keep.new.self.given.items bundle)
    (sym c.keep.ensures.same)
    (handed c.keep.new.self.given.items (c.keep.ensures.kept kept))))
