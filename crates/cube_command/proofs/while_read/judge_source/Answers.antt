use Rattle.std.proofs.Common.{Bor, List, ℕ, refl}
use Rattle.command_words.proofs.WordsRequests.{handed_on}
use Rattle.command_words.specs.Request.{asked_in}
use Rattle.cube_report.specs.Device.{IsLeft}
use Rattle.cube_report.specs.Faults.{IsInputFault}
use Rattle.bundle_files.specs.WhileRead.{IsBundleBelow, IsRefusedBelow}
use Rattle.cube_command.proofs.ProgramMade.{behind_recorded}
use Rattle.cube_command.proofs.ProgramRuns.{some_mapped}
use Rattle.cube_command.proofs.while_read.judge_source.Goals as goal

pub judge_while_read-requires-clause-front : goal.judge_while_read-requires-clause-front
judge_while_read-requires-clause-front g c = λ κs within.
    (c.args.begun, (c.args.source.now, c.in_ok-front.ensures.front))

pub returns-in_err-outcome-clause-fault : goal.returns-in_err-outcome-clause-fault
returns-in_err-outcome-clause-fault g c =
    handed_on c.from_residual-in_err-outcome.result
    (λ fault. IsInputFault fault
    → IsRefusedBelow c.args.begun (IsLeft (g.S.Source.remaining c.args.source.now)) fault)
    c.in_err-outcome.field-0.0
    (c.in_err-outcome.ensures.fault c.args.begun c.args.source.now c.in_ok-front.ensures.front)
    c.from_residual-in_err-outcome.ensures.1

pub returns-clause-made : goal.returns-clause-made
returns-clause-made g c =
    behind_recorded (IsBundleBelow c.args.begun (IsLeft (g.S.Source.remaining c.args.source.now)))
    (asked_in c.args.call.now.request.now) c.is_some-draws.result
    c.in_ok-outcome.outcome.text.items c.in_ok-outcome.outcome.map.items
    c.in_ok-front.front.icnf.items c.in_ok-outcome.outcome.refuted c.in_ok-bytes.bytes.items
    c.end_record.new.begun.items c.end_record.new.begun.items c.deref.result.now
    (c.in_ok-outcome.ensures.outcome c.args.begun c.args.source.now c.in_ok-front.ensures.front)
    (some_mapped (λ (text : Bor (List ℕ)). text.now) c.args.call.now.request.now.map
    c.is_some-draws.result c.is_some-draws.ensures)
    c.deref.ensures.value refl (rw c.icnf-icnf.ensures at c.in_ok-bytes.ensures)
    c.in_ok-end_record.ensures
