use Rattle.std.proofs.Common.{All, subst, sym}
use Rattle.case_core.specs.Case.{CaseOf}
use Rattle.board_hall.specs.Halls.{HallOf, IsPassOf, IsNewPass}
use Rattle.check_crew.specs.Seen.{HaveSeenSections}
use Rattle.check_crew.proofs.crew.run.Goals as goal

pub examine_all-examined-requires-clause-new : goal.examine_all-examined-requires-clause-new
examine_all-examined-requires-clause-new g c = λ _ _.
    subst (λ (hall : HallOf). All (IsNewPass hall) c.args.opened.passes.items)
    (sym c.core.ensures) c.requires.new

pub close-requires : goal.close-requires
close-requires g c =
    record {
      own = subst (λ (hall : HallOf). All (IsPassOf hall) c.in_ok-passes.passes.items)
          c.core.ensures c.in_ok-passes.ensures.own;
    }

pub returns-clause-closed : goal.returns-clause-closed
returns-clause-closed g c =
    let passes = c.in_ok-passes.passes.items in record {
      passes = passes;
      gathered = c.in-Ok.ensures.boards;
      own = subst (λ (hall : HallOf). All (IsPassOf hall) passes) c.core.ensures
          c.in_ok-passes.ensures.own;
      seen = subst (λ (case : CaseOf). HaveSeenSections case passes) c.case.ensures
          c.in_ok-passes.ensures.seen;
    }

pub returns-clause-lists : goal.returns-clause-lists
returns-clause-lists g c = rw c.case.ensures at c.in_ok-passes.ensures.lists
