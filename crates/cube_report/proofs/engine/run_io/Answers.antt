use Rattle.std.proofs.Common.{List, ℕ, ◌≢◌}
use Rattle.byte_flow.specs.Device.{AppendsBeginning}
use Rattle.cube_report.specs.Correct.{IsReportOn}
use Rattle.cube_report.proofs.CorrectReports.{sound_of, fault_of, begun_of}
use Rattle.cube_report.proofs.engine.run_io.Goals as goal

pub returns-clause-sound : goal.returns-clause-sound
returns-clause-sound g c =
    sound_of _ c.in_ok-input.input.items c.write_report.result c.in_ok-input.ensures.bytes
    c.write_report.ensures.sound

pub returns-clause-fault : goal.returns-clause-fault
returns-clause-fault g c =
    fault_of _ c.in_ok-input.input.items c.write_report.result c.in_ok-input.ensures.bytes
    c.write_report.ensures.fault

pub returns-clause-beginning : goal.returns-clause-beginning
returns-clause-beginning g c =
    begun_of (g.W.Sink.failures c.write_report.new.writer ≢ g.W.Sink.failures c.args.writer.now)
    (λ input. (text : List ℕ) × IsReportOn input text
    × AppendsBeginning (g.W.Sink.contents c.args.writer.now)
    (g.W.Sink.contents c.write_report.new.writer) text)
    _ c.in_ok-input.input.items c.write_report.result c.in_ok-input.ensures.bytes
    c.write_report.ensures.beginning
