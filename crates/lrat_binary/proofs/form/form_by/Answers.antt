use Rattle.lrat_binary.proofs.FormParts.{binary_by}
use Rattle.lrat_binary.proofs.form.form_by.Goals as goal

pub returns-in-97-clause-left : goal.returns-in-97-clause-left
returns-in-97-clause-left c = λ rest. binary_by c.args.first rest c.in-97.is
