use Rattle.bundle_files.proofs.FormulaReading.{not_counted}
use Rattle.bundle_files.proofs.formula.check_count.Goals as goal

pub returns-in-Err-clause-ok : goal.returns-in-Err-clause-ok
returns-in-Err-clause-ok c =
    not_counted c.memory_alone.result c.in-Err.fault c.icnf_part.result.now c.args.bundle.now
    c.args.said.clauses c.icnf_part.ensures c.in-Err.ensures.only c.memory_alone.ensures.ok
