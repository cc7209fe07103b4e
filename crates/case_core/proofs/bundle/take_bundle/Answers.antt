use Rattle.case_core.proofs.SectionsUniqueCase.{read_only}
use Rattle.case_core.proofs.bundle.take_bundle.Goals as goal

pub returns-clause-only : goal.returns-clause-only
returns-clause-only c =
    read_only c.read_case.result c.args.bundle.items c.read_case.ensures.ok c.read_case.ensures.err
