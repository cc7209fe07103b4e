use Rattle.std.proofs.Common.{◌≡◌, arith, map, refl, true}
use Rattle.cube_command.proofs.StatusTold.{above_one, below_five, below_two, with_fault, with_one}
use Rattle.cube_command.proofs.StatusTold.{with_zero}
use Rattle.join_command.specs.Headline.{IsJoinedAsHanded}
use Rattle.join_command.specs.Words.{join_asked_of}
use Rattle.join_command.proofs.ProgramRuns.{device_five, device_join, fault_above, fault_join}
use Rattle.join_command.proofs.ProgramRuns.{memory_allowed, memory_join, published_join, sound_join}
use Rattle.join_command.specs.Program.{IsJoinWritten}
use Rattle.cube_report.specs.Fault.TheVariants as Fault
use Rattle.join_command.specs.declared.fault.JoinFault.TheVariants as JoinFault
use Rattle.join_command.proofs.program.join_command.Goals as goal

pub tell_join-requires-clause-memory : goal.tell_join-requires-clause-memory
tell_join-requires-clause-memory g c =
    memory_allowed (g.E.Sink.allows c.args.errors.now) (g.D.Store.held c.args.store.now)
    (join_asked_of (map g.S.AsStr.text c.args.words.now)) c.requires.faults

pub tell_refused-requires-clause-memory : goal.tell_refused-requires-clause-memory
tell_refused-requires-clause-memory g c =
    memory_allowed (g.E.Sink.allows c.args.errors.now) (g.D.Store.held c.args.store.now)
    (join_asked_of (map g.S.AsStr.text c.args.words.now)) c.requires.faults

pub returns-in-Ok-clause-refuted : goal.returns-in-Ok-clause-refuted
returns-in-Ok-clause-refuted g c = λ zero.
    with_zero
    (IsJoinWritten (g.D.Store.held c.args.store.now)
    (join_asked_of (map g.S.AsStr.text c.args.words.now)) (g.O.Sink.contents c.args.output.now)
    (g.O.Sink.contents c.run_request-run.new.output))
    c.run_request-run.result c.tell_join.result _ _ (fault_above _ _ _ _ _)
    c.tell_join.ensures.told (rw c.in-Ok.ensures.asked at c.run_request-run.ensures.written) zero

pub returns-in-Ok-clause-open : goal.returns-in-Ok-clause-open
returns-in-Ok-clause-open g c = λ one.
    with_one
    (IsJoinWritten (g.D.Store.held c.args.store.now)
    (join_asked_of (map g.S.AsStr.text c.args.words.now)) (g.O.Sink.contents c.args.output.now)
    (g.O.Sink.contents c.run_request-run.new.output))
    c.run_request-run.result c.tell_join.result _ _ (fault_above _ _ _ _ _)
    c.tell_join.ensures.told (rw c.in-Ok.ensures.asked at c.run_request-run.ensures.written) one

pub returns-in-Ok-clause-sound : goal.returns-in-Ok-clause-sound
returns-in-Ok-clause-sound g c = λ zero.
    sound_join (g.D.Store.held c.args.store.now)
    (join_asked_of (map g.S.AsStr.text c.args.words.now))
    _ _ (returns-in-Ok-clause-refuted g c zero)

pub returns-in-Ok-clause-published : goal.returns-in-Ok-clause-published
returns-in-Ok-clause-published g c = λ zero.
    published_join (g.D.Store.held c.args.store.now)
    (join_asked_of (map g.S.AsStr.text c.args.words.now))
    (join_asked_of (map g.S.AsStr.text c.args.words.now)).formula _ _ refl
    (returns-in-Ok-clause-refuted g c zero)

pub returns-in-Ok-clause-handed : goal.returns-in-Ok-clause-handed
returns-in-Ok-clause-handed g c = λ zero.
    with_zero
    (λ refuted. refuted ≡ true → IsJoinedAsHanded g.D.Store.hands
    (join_asked_of (map g.S.AsStr.text c.args.words.now)))
    c.run_request-run.result c.tell_join.result _ _ (fault_above _ _ _ _ _)
    c.tell_join.ensures.told (rw c.in-Ok.ensures.asked at c.run_request-run.ensures.handed) zero
    refl

pub returns-in-Ok-clause-quiet : goal.returns-in-Ok-clause-quiet
returns-in-Ok-clause-quiet g c =
    below_two c.run_request-run.result c.tell_join.result _ _ (fault_above _ _ _ _ _)
    c.tell_join.ensures.told

pub returns-in-Ok-clause-nothing : goal.returns-in-Ok-clause-nothing
returns-in-Ok-clause-nothing g c =
    below_five _ c.run_request-run.result c.tell_join.result _ _ (JoinFault.Run Fault.Device)
    (device_five _ _ _ _ _) c.tell_join.ensures.told c.run_request-run.ensures.nothing

pub returns-in-Ok-clause-beginning : goal.returns-in-Ok-clause-beginning
returns-in-Ok-clause-beginning g c = λ five.
    with_fault _ c.run_request-run.result c.tell_join.result _ _ c.tell_join.ensures.told
    (rw c.in-Ok.ensures.asked at c.run_request-run.ensures.beginning) (omega (arith, five))

pub returns-in-Ok-clause-fault : goal.returns-in-Ok-clause-fault
returns-in-Ok-clause-fault g c = λ three.
    let found =
    above_one c.run_request-run.result c.tell_join.result _ _ c.tell_join.ensures.told
    (omega (arith, three)) in
    rw c.in-Ok.ensures.asked at
    (fault_join (g.D.Store.held c.args.store.now) _ found.0 c.tell_join.result _ _ _ _ _ _
    found.2 (rw found.1 at c.run_request-run.ensures.err) three)

pub returns-in-Ok-clause-memory : goal.returns-in-Ok-clause-memory
returns-in-Ok-clause-memory g c = λ four.
    let found =
    above_one c.run_request-run.result c.tell_join.result _ _ c.tell_join.ensures.told
    (omega (arith, four)) in
    memory_join (g.D.Store.held c.args.store.now) _ found.0 c.tell_join.result _ _ _ _ _ _
    found.2 (rw found.1 at c.run_request-run.ensures.err) four

pub returns-in-Ok-clause-device : goal.returns-in-Ok-clause-device
returns-in-Ok-clause-device g c = λ five.
    let found =
    above_one c.run_request-run.result c.tell_join.result _ _ c.tell_join.ensures.told
    (omega (arith, five)) in
    device_join (g.D.Store.held c.args.store.now) _ found.0 c.tell_join.result _ _ _ _ _ _
    found.2 (rw found.1 at c.run_request-run.ensures.err) five
