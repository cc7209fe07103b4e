use Rattle.std.proofs.Common.{List, ℕ, Bor, inr}
use Rattle.cube_report.specs.Faults.{IsInputFault}
use Rattle.cube_command.specs.Program.{IsRefusedFrom}
use Rattle.command_words.specs.Request.{asked_in}
use Rattle.cube_command.proofs.ProgramMade.{handed_read, made_of}
use Rattle.cube_command.proofs.ProgramRuns.{some_mapped}
use Rattle.command_words.proofs.WordsRequests.{handed_on}
use Rattle.cube_command.proofs.program.judge_read.Goals as goal

pub returns-in_err-read-clause-fault : goal.returns-in_err-read-clause-fault
returns-in_err-read-clause-fault g c =
    handed_on c.from_residual.result
    (λ fault. IsInputFault fault → IsRefusedFrom (g.D.Store.held c.args.store.now)
    (asked_in c.args.call.now.request.now) (g.I.Source.remaining c.args.input.now) fault)
    c.in_err-read.field-0.0
    (λ input. inr (c.in_err-read.ensures.fault input)) c.from_residual.ensures.1

pub returns-clause-made : goal.returns-clause-made
returns-clause-made g c =
    made_of c.judge_recorded.result (g.D.Store.held c.args.store.now)
    (asked_in c.args.call.now.request.now) (g.I.Source.remaining c.args.input.now)
    c.in_ok-read.read.bundle.items c.is_some.result c.in_ok-read.ensures.bundle
    (some_mapped (λ (text : Bor (List ℕ)). text.now) c.args.call.now.request.now.map
    c.is_some.result c.is_some.ensures)
    (rw c.in_ok-read.ensures.held at c.judge_recorded.ensures.outcome)
    c.judge_recorded.ensures.record

pub returns-clause-handed : goal.returns-clause-handed
returns-clause-handed g c =
    handed_read c.judge_recorded.result g.D.Store.hands (g.D.Store.held c.args.store.now)
    (asked_in c.args.call.now.request.now) (g.I.Source.remaining c.args.input.now)
    c.in_ok-read.read.bundle.items c.is_some.result c.in_ok-read.ensures.handed
    (rw c.in_ok-read.ensures.held at c.judge_recorded.ensures.outcome)
