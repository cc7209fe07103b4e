use Rattle.std.proofs.Common.{None, refl}
use Rattle.bundle_files.proofs.FormulaReading.{front_plain}
use Rattle.bundle_files.proofs.WhileRead.{nothing_begun}
use Rattle.bundle_files.proofs.judge.judge_text.Goals as goal

pub read_front-requires-clause-plain : goal.read_front-requires-clause-plain
read_front-requires-clause-plain g c =
    front_plain (λ _ _. Unit {0}) None None c.new.result.items c.new.ensures.items

pub judge_while_read-requires-clause-front : goal.judge_while_read-requires-clause-front
judge_while_read-requires-clause-front g c κs within =
    (_, (c.args.source.now, c.in_ok-front.ensures.front))

pub returns-in_ok-pass_rest-in-Err-clause-fault : goal.returns-in_ok-pass_rest-in-Err-clause-fault
returns-in_ok-pass_rest-in-Err-clause-fault g c =
    rw c.in_ok-fault-in-Err.ensures.ok.0
    (λ of_input.
    nothing_begun (record { text = c.new.result; said = None })
    (g.S.Stream.gives c.args.source.now) c.in-Err.fault c.new.ensures.items refl
    (c.in-Err.ensures.fault _ _ c.in_ok-front.ensures.front of_input))
