use Rattle.std.proofs.Common.{refl, arith}
use Rattle.hint_check.proofs.TableLeft.{one-put, one-passed}
use Rattle.hint_check.proofs.slots.make_one_far.Goals as goal

pub returns-then-slot-clause-put : goal.returns-then-slot-clause-put
returns-then-slot-clause-put c blocks q =
    one-passed blocks c.args.far.now c.args.far.now c.args.id c.args.slot (omega arith) q

pub returns-clause-put : goal.returns-clause-put
returns-clause-put c blocks q =
    one-put blocks c.args.far.now c.put_far.new.far c.args.id c.args.slot _ refl refl
    (omega arith) c.in_ok-put_far.ensures.put q
