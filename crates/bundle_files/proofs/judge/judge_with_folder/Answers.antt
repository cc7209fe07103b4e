use Rattle.std.proofs.Common.{Some, arith}
use Rattle.cube_report.specs.Faults.{IsInputFault, fault_of_case}
use Rattle.cube_report.proofs.CorrectReports.{told}
use Rattle.proof_folder.specs.Given.{HasFewLeaves}
use Rattle.bundle_files.specs.Judging.{IsRefusedOf}
use Rattle.bundle_files.proofs.JudgingRuns.{apart_outcome, few_leaves, refused_alone}
use Rattle.bundle_files.proofs.JudgingRuns.{refused_with, run_with}
use Rattle.bundle_files.proofs.judge.judge_with_folder.Goals as goal

pub returns-in_err-case-clause-fault : goal.returns-in_err-case-clause-fault
returns-in_err-case-clause-fault g c =
    told c.from_residual.result
    (λ fault. IsInputFault fault → IsRefusedOf (g.D.Store.held c.args.store.now)
    (Some c.args.folder.now) c.args.read.bundle.items fault)
    (fault_of_case c.in_err-case.field-0.0) c.from_residual.ensures.1
    (refused_alone (g.D.Store.held c.args.store.now) c.args.folder.now c.args.read.bundle.items
    c.in_err-case.field-0.0 (rw c.deref.ensures.value at c.in_err-case.ensures.err))

pub returns-in-Some-clause-outcome : goal.returns-in-Some-clause-outcome
returns-in-Some-clause-outcome g c =
    let held = g.D.Store.held c.args.store.now in
    let few : HasFewLeaves c.in_ok-case.case.tree =
    few_leaves c.in_ok-case.case.tree c.cube_count.result c.missing_count.result (omega arith)
    (omega arith)
    (rw c.tree.ensures.tree at c.cube_count.ensures.count)
    (rw c.tree-2.ensures.tree at c.missing_count.ensures) in
    let apart = rw c.in-Some.is at c.in_ok-outcome.ensures.apart in
    apart_outcome held c.args.folder.now c.args.read.bundle.items c.in_ok-case.case apart.0
    c.args.draws c.in-Some.outcome.text.items c.in-Some.outcome.map.items
    c.in-Some.outcome.refuted (rw c.deref.ensures.value at c.in_ok-case.ensures.ok) few apart.1
    apart.2

pub returns-clause-outcome : goal.returns-clause-outcome
returns-clause-outcome g c =
    run_with (g.D.Store.held c.args.store.now) c.args.folder.now c.args.read.bundle.items
    c.in_ok-case.case (g.D.Folder.Stream.gives c.in_ok-text.text)
    (rw c.deref.ensures.value at c.in_ok-case.ensures.ok)
    (rw (c.judge_leaves.ensures.held, c.tree-3.ensures.tree) at c.in_ok-text.ensures.gives)
    c.judge_in_order.result c.args.draws c.judge_in_order.ensures.outcome

pub returns-clause-fault : goal.returns-clause-fault
returns-clause-fault g c =
    refused_with (g.D.Store.held c.args.store.now) c.args.folder.now c.args.read.bundle.items
    c.in_ok-case.case (g.D.Folder.Stream.gives c.in_ok-text.text)
    (rw c.deref.ensures.value at c.in_ok-case.ensures.ok)
    (rw (c.judge_leaves.ensures.held, c.tree-3.ensures.tree) at c.in_ok-text.ensures.gives)
    c.judge_in_order.result c.judge_in_order.ensures.fault
