use Rattle.cnf_text.proofs.DimacsUnique.{read_anyway}
use Rattle.cnf_text.proofs.dimacs.read_problem.Goals as goal

pub returns-clause-only : goal.returns-clause-only
returns-clause-only c =
    read_anyway c.read_counted.result c.args.text.now c.read_counted.ensures.err
