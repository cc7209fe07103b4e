use Rattle.std.proofs.lemmas.List.Elements.{All-push, All-weaker}
use Rattle.board_hall.specs.Halls.{view_of}
use Rattle.check_crew.specs.Inner.Crew.{HasSeenTurn}
use Rattle.check_crew.proofs.SeenTurns.{section_stays}
use Rattle.check_crew.proofs.worker.claim_turn.Goals as goal

pub returns-clause-seen : goal.returns-clause-seen
returns-clause-seen g c =
    let before = HasSeenTurn c.args.turns.order.now (view_of c.args.pass.now) in
    let after = HasSeenTurn c.args.turns.order.now (view_of c.take_turn.new.pass) in
    rw c.in-Some.ensures.claimed
    (All-push after c.args.job_pass.now.claims c.in-Some.turn
    (All-weaker before after (λ turn. section_stays _ _ c.take_turn.ensures.stays _)
    c.args.job_pass.now.claims c.requires.seen) c.in_ok-take_turn.ensures.seen)
