use Rattle.std.proofs.Common.{Bor, List, ℕ}
use Rattle.command_words.specs.Request.{asked_in}
use Rattle.cube_report.specs.Device.{IsLeft}
use Rattle.cube_command.proofs.OneProofAlone.{made_below}
use Rattle.cube_command.proofs.ProgramRuns.{some_mapped}
use Rattle.cube_command.proofs.one_proof.judge_proof_from.Goals as goal

pub returns-clause-made : goal.returns-clause-made
returns-clause-made g c =
    made_below (IsLeft (g.S.Source.remaining c.args.source.now))
    (asked_in c.args.call.now.request.now) c.args.one.bundle.items c.is_some-draws.result
    c.in_ok-outcome.outcome.text.items
    c.in_ok-outcome.outcome.map.items c.in_ok-bytes.bytes.items c.deref.result.now
    c.in_ok-outcome.outcome.refuted c.in_ok-outcome.ensures.outcome
    (some_mapped (λ (text : Bor (List ℕ)). text.now) c.args.call.now.request.now.map
    c.is_some-draws.result c.is_some-draws.ensures)
    c.deref.ensures.value c.in_ok-bytes.ensures
