use Rattle.cube_join.proofs.StatusReading.{no_reason}
use Rattle.cube_join.proofs.status.reason_at_front.Goals as goal

pub returns-in_default-behind-7 : goal.returns-in_default-behind-7
returns-in_default-behind-7 c = λ reason rest e.
    no_reason reason c.args.text.now rest c.in_default.ensures c.in_default-behind.ensures
    c.in_default-behind-2.ensures c.in_default-behind-3.ensures c.in_default-behind-4.ensures
    c.in_default-behind-5.ensures c.in_default-behind-6.ensures c.in_default-behind-7.ensures e
