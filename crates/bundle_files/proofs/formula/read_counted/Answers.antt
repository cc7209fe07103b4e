use Rattle.bundle_files.proofs.FormulaReading.{counted_by_case}
use Rattle.bundle_files.proofs.formula.read_counted.Goals as goal

pub returns-in_ok-check_formula-in-Ok-clause-ok : goal.returns-in_ok-check_formula-in-Ok-clause-ok
returns-in_ok-check_formula-in-Ok-clause-ok c =
    counted_by_case c.args.bundle.now c.in-Ok.case c.formula.result.now c.args.said.clauses
    c.in-Ok.ensures.ok c.formula.ensures c.in_ok-check_formula-in-Ok.ensures.ok
