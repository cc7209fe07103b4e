use Rattle.hint_check.proofs.JudgementShort as short
use Rattle.hint_check.proofs.laws.short_judgements.Goals as goal

pub returns-clause-refuted : goal.returns-clause-refuted
returns-clause-refuted c = short.refuted

pub returns-clause-candidate : goal.returns-clause-candidate
returns-clause-candidate c = short.candidate

pub returns-clause-path : goal.returns-clause-path
returns-clause-path c = short.path

pub returns-clause-end : goal.returns-clause-end
returns-clause-end c = short.end
