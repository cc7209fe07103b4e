use Rattle.std.proofs.Common.{◌∙◌, ap, refl}
use Rattle.cube_report.specs.Bundle.{icnf_text}
use Rattle.cube_command.proofs.ProgramRuns.{whole_record}
use Rattle.cube_command.proofs.program.judge_recorded.Goals as goal

pub returns-clause-record : goal.returns-clause-record
returns-clause-record g c =
    whole_record _ c.args.read.bundle.items c.in_ok-outcome.outcome.text.items _ _
    c.in_ok-made.made.items c.end_record.new.begun.items c.end_record.new.begun.items
    (c.icnf_part.ensures ∙ ap icnf_text c.deref.ensures.value) c.deref-2.ensures.value refl
    c.in_ok-made.ensures c.in_ok-end_record.ensures
