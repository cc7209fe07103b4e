use Rattle.cube_report.specs.Device.{GrewBy}
use Rattle.cube_report.specs.CrewFaults.{fault_of_read}
use Rattle.cube_report.specs.Faults.{IsInputFault}
use Rattle.cube_report.proofs.CorrectReports.{told}
use Rattle.bundle_files.specs.Judging.{IsJudgingFault}
use Rattle.bundle_files.specs.WhileRead.{IsRefusedBelow}
use Rattle.bundle_files.proofs.JudgingFaults.{told_memory}
use Rattle.bundle_files.proofs.WhileRead.{at_front, front_refused, read_judging, read_refused}
use Rattle.bundle_files.proofs.WhileRead.{run_behind}
use Rattle.bundle_files.proofs.while_read.judge_while_read.Goals as goal

pub returns-in_err-case-clause-fault : goal.returns-in_err-case-clause-fault
returns-in_err-case-clause-fault g c = λ begun start front.
    told c.from_residual.result
    (λ fault. IsInputFault fault → IsRefusedBelow begun (g.S.Stream.gives start) fault)
    c.in_err-case.field-0.0 c.from_residual.ensures.1
    (λ of_input.
    front_refused begun (g.S.Stream.gives start) (g.S.Stream.gives c.args.source.now) c.args.front
    front c.has_text.ensures c.in_err-case.field-0.0 (c.in_err-case.ensures.fault of_input))

pub returns-in_err-boards-clause-fault : goal.returns-in_err-boards-clause-fault
returns-in_err-boards-clause-fault g c = λ begun start front.
    let kind = c.in_err-boards.field-0.0 in
    told c.from_residual-in_err-boards.result
    (λ fault. IsInputFault fault → IsRefusedBelow begun (g.S.Stream.gives start) fault)
    (fault_of_read kind) c.from_residual-in_err-boards.ensures.1
    (read_refused begun (g.S.Stream.gives start) (g.S.Stream.gives c.args.source.now) c.args.front
    front kind
    (c.in_err-boards.ensures.refused c.args.front.icnf.items c.in_ok-case.ensures.case
    (at_front (GrewBy (g.S.Stream.gives start) begun.text.items)
    (g.S.Stream.gives c.args.source.now) c.args.front.text c.args.front.icnf.items front.part))
    c.in_ok-case.ensures.counted)

pub returns-in_err-boards-clause-err : goal.returns-in_err-boards-clause-err
returns-in_err-boards-clause-err g c =
    let kind = c.in_err-boards.field-0.0 in
    told c.from_residual-in_err-boards.result
    (IsJudgingFault (g.S.Stream.failures c.args.source.now)
    (g.S.Stream.failures c.conquer_while_read.new.source)) (fault_of_read kind)
    c.from_residual-in_err-boards.ensures.1
    (read_judging kind (g.S.Stream.failures c.args.source.now)
    (g.S.Stream.failures c.conquer_while_read.new.source) c.in_err-boards.ensures.err)

pub returns-in_err-written_by-clause-fault : goal.returns-in_err-written_by-clause-fault
returns-in_err-written_by-clause-fault g c = λ begun start front.
    told_memory c.from_residual-in_err-written_by.result
    (IsRefusedBelow begun (g.S.Stream.gives start)) c.from_residual-in_err-written_by.ensures.1

pub returns-clause-outcome : goal.returns-clause-outcome
returns-clause-outcome g c = λ begun start front.
    run_behind begun (g.S.Stream.gives start) (g.S.Stream.gives c.args.source.now) c.args.front
    front c.in_ok-boards.boards c.args.draws c.in_ok-written_by.field-0.text.items
    c.in_ok-written_by.field-0.map.items c.in_ok-written_by.field-0.refuted
    (c.in_ok-boards.ensures.boards c.args.front.icnf.items c.in_ok-case.ensures.case
    (at_front (GrewBy (g.S.Stream.gives start) begun.text.items)
    (g.S.Stream.gives c.args.source.now) c.args.front.text c.args.front.icnf.items front.part))
    c.in_ok-case.ensures.counted c.in_ok-written_by.ensures
