use Rattle.bundle_files.specs.Files.{may_lie_at}
use Rattle.cube_report.specs.Device.{IsLeft}
use Rattle.cube_command.proofs.OneProofAlone.{refused_as}
use Rattle.cube_command.proofs.one_proof.judge_proof_at.Goals as goal

pub returns-clause-fault : goal.returns-clause-fault
returns-clause-fault g c =
    refused_as c.judge_proof_from-made.result
    (IsLeft (g.D.Opened.Source.remaining c.in_ok-file.file))
    (may_lie_at (g.D.Store.held c.args.store.now) c.args.path.now) c.args.one.bundle.items
    c.in_ok-file.ensures.lies c.judge_proof_from-made.ensures.fault
