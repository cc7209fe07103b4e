use Rattle.bundle_files.specs.Files.{may_lie_at}
use Rattle.cube_command.proofs.ProgramMade.{refused_if}
use Rattle.cube_command.proofs.while_read.judge_at.Goals as goal

pub returns-clause-fault : goal.returns-clause-fault
returns-clause-fault g c =
    refused_if c.judge_source-made.result c.args.begun _
    (may_lie_at (g.D.Store.held c.args.store.now) c.args.path.now) c.in_ok-file.ensures.lies
    c.judge_source-made.ensures.fault
