use Rattle.std.proofs.Common.{Some}
use Rattle.std.proofs.lemmas.List.Elements.{All-pop}
use Rattle.board_hall.specs.Halls.{hall_of, IsNewPass}
use Rattle.check_crew.proofs.OneAtWork.{new_at_work}
use Rattle.check_crew.proofs.one.OneWorker.over.Goals as goal

pub invariant_of-result : goal.invariant_of-result
invariant_of-result c =
    let hall = hall_of c.in_ok-hall.hall in
    let new : IsNewPass hall c.in-Some.pass =
    (All-pop (IsNewPass hall) _ _ (Some c.in-Some.pass) c.in-Some.ensures.items
    c.in_ok-hall.ensures.passes).1 in
    new_at_work c.args.case.now _ c.in_ok-examiner.examiner c.in_ok-boards.boards
    c.in_ok-hall.hall c.in-Some.pass c.in_ok-examiner.ensures c.in_ok-boards.ensures.case.0
    c.in_ok-hall.ensures.hall.0 new
