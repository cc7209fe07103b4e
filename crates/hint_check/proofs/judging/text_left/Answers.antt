use Rattle.hint_check.proofs.StepsBlank.{blank_reads}
use Rattle.hint_check.proofs.judging.text_left.Goals as goal

pub returns-in-Blank : goal.returns-in-Blank
returns-in-Blank c = blank_reads c.args.steps.now (c.requires c.in-Blank.is)
