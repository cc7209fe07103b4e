use Rattle.std.proofs.Common.{◌≡◌, IfErr, List, None, Option, Some, subst, ℕ}
use Rattle.bundle_files.specs.Files.{IsTextAt, may_lie_at}
use Rattle.bundle_files.specs.Judging.{IsRefusedWith}
use Rattle.cube_report.specs.Faults.{IsInputFault}
use Rattle.cube_command.specs.Sources.{file_at}
use Rattle.cube_command.proofs.one_proof.judge_below.Goals as goal

pub returns-in-Some-clause-fault : goal.returns-in-Some-clause-fault
returns-in-Some-clause-fault g c =
    let same : Some c.in-Some.file.now ≡ file_at c.args.path.now = c.in-Some.ensures in
    subst (λ (file : Option (List ℕ)). IfErr c.judge_proof_at.result
    (λ fault. IsInputFault fault → IsRefusedWith
    (IsTextAt (may_lie_at (g.D.Store.held c.args.store.now)) file
    (g.I.Source.remaining c.args.input.now)) c.args.one.bundle.items fault)) same
    c.judge_proof_at.ensures.fault

pub returns-in-None-clause-fault : goal.returns-in-None-clause-fault
returns-in-None-clause-fault g c =
    let same : None ≡ file_at c.args.path.now = c.in-None.ensures in
    subst (λ (file : Option (List ℕ)). IfErr c.judge_proof_from.result
    (λ fault. IsInputFault fault → IsRefusedWith
    (IsTextAt (may_lie_at (g.D.Store.held c.args.store.now)) file
    (g.I.Source.remaining c.args.input.now)) c.args.one.bundle.items fault)) same
    c.judge_proof_from.ensures.fault
