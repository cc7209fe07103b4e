use Rattle.std.proofs.Common.{◌≡◌, arith, map, refl, subst, sym, true, IfOk}
use Rattle.cube_report.specs.Fault.TheVariants as Fault
use Rattle.cube_command.specs.Words.{HaveTwoPaths, Asked, asked_of, GoesWith, IsElsewhere}
use Rattle.cube_command.specs.Headline.{IsRefutedAsHanded}
use Rattle.cube_command.specs.Program.{AllowsPicturesFor, AllowsRecordsFor, AllowsReportsFor}
use Rattle.cube_command.specs.Program.{IsReported}
use Rattle.command_words.proofs.WordsPaths.{input_apart}
use Rattle.command_words.proofs.WordsRequests.{none_asked, nothing_taken}
use Rattle.cube_command.proofs.ProgramRuns.{device_five, device_run, fault_above, fault_asked}
use Rattle.cube_command.proofs.ProgramRuns.{fault_run, memory_asked, memory_run, published_run}
use Rattle.cube_command.proofs.ProgramRuns.{sound_run}
use Rattle.cube_command.proofs.StatusTold.{above_one, below_five, below_two, with_fault, with_one}
use Rattle.cube_command.proofs.StatusTold.{with_zero}
use Rattle.cube_command.proofs.program.command.Goals as goal

pub run_request-run-requires-clause-reports : goal.run_request-run-requires-clause-reports
run_request-run-requires-clause-reports g c = λ κs within.
    subst
    (λ (a : Asked). AllowsReportsFor (g.O.Sink.allows c.args.output.now)
    (g.D.Store.held c.args.store.now) a (g.I.Source.remaining c.args.input.now))
    (sym c.in-Ok.ensures.asked) c.requires.reports

pub run_request-run-requires-clause-pictures : goal.run_request-run-requires-clause-pictures
run_request-run-requires-clause-pictures g c = λ κs within.
    subst
    (λ (a : Asked). AllowsPicturesFor (g.D.Store.allows c.args.store.now)
    (g.D.Store.held c.args.store.now) a (g.I.Source.remaining c.args.input.now))
    (sym c.in-Ok.ensures.asked) c.requires.pictures

pub run_request-run-requires-clause-records : goal.run_request-run-requires-clause-records
run_request-run-requires-clause-records g c = λ κs within.
    subst
    (λ (a : Asked). AllowsRecordsFor (g.D.Store.allows c.args.store.now)
    (g.D.Store.held c.args.store.now) a (g.I.Source.remaining c.args.input.now))
    (sym c.in-Ok.ensures.asked) c.requires.records

pub run_request-run-requires-clause-alone : goal.run_request-run-requires-clause-alone
run_request-run-requires-clause-alone g c = λ κs within.
    subst (λ (a : Asked). GoesWith a.proof a.formula a.file a.folder) (sym c.in-Ok.ensures.asked)
    c.in-Ok.ensures.taken.1.0

pub run_request-run-requires-clause-apart : goal.run_request-run-requires-clause-apart
run_request-run-requires-clause-apart g c = λ κs within.
    subst (λ (a : Asked). HaveTwoPaths a.picture a.out) (sym c.in-Ok.ensures.asked)
    c.in-Ok.ensures.taken.1.1.0

pub tell_run-status-requires-clause-fault : goal.tell_run-status-requires-clause-fault
tell_run-status-requires-clause-fault g c =
    fault_asked (g.E.Sink.allows c.args.errors.now) (g.D.Store.held c.args.store.now)
    (asked_of (map g.S.AsStr.text c.args.words.now)) _ (g.I.Source.remaining c.args.input.now)
    c.run_request-run.result c.in-Ok.ensures.asked c.requires.faults
    c.run_request-run.ensures.fault

pub tell_run-status-requires-clause-memory : goal.tell_run-status-requires-clause-memory
tell_run-status-requires-clause-memory g c =
    memory_asked (g.E.Sink.allows c.args.errors.now) _ _ _ c.requires.faults

pub tell_refused-requires-clause-memory : goal.tell_refused-requires-clause-memory
tell_refused-requires-clause-memory g c =
    memory_asked (g.E.Sink.allows c.args.errors.now) _ _ _ c.requires.faults

pub tell_refused-requires-clause-words : goal.tell_refused-requires-clause-words
tell_refused-requires-clause-words g c =
    λ other. c.requires.words (λ taken. other (c.in-Err.ensures.refused taken))

pub returns-in-Ok-clause-refuted : goal.returns-in-Ok-clause-refuted
returns-in-Ok-clause-refuted g c = λ zero.
    with_zero
    (IsReported (g.D.Store.held c.args.store.now) (g.D.Store.held c.run_request-run.new.store)
    (asked_of (map g.S.AsStr.text c.args.words.now)) (g.I.Source.remaining c.args.input.now)
    (g.O.Sink.contents c.args.output.now) (g.O.Sink.contents c.run_request-run.new.output))
    c.run_request-run.result c.tell_run-status.result _ _ (fault_above _ _ _ _ _)
    c.tell_run-status.ensures.told
    (rw c.in-Ok.ensures.asked at c.run_request-run.ensures.report) zero

pub returns-in-Ok-clause-open : goal.returns-in-Ok-clause-open
returns-in-Ok-clause-open g c = λ one.
    with_one
    (IsReported (g.D.Store.held c.args.store.now) (g.D.Store.held c.run_request-run.new.store)
    (asked_of (map g.S.AsStr.text c.args.words.now)) (g.I.Source.remaining c.args.input.now)
    (g.O.Sink.contents c.args.output.now) (g.O.Sink.contents c.run_request-run.new.output))
    c.run_request-run.result c.tell_run-status.result _ _ (fault_above _ _ _ _ _)
    c.tell_run-status.ensures.told
    (rw c.in-Ok.ensures.asked at c.run_request-run.ensures.report) one

pub returns-in-Ok-clause-sound : goal.returns-in-Ok-clause-sound
returns-in-Ok-clause-sound g c = λ zero.
    sound_run (g.D.Store.held c.args.store.now) _ (asked_of (map g.S.AsStr.text c.args.words.now))
    (g.I.Source.remaining c.args.input.now) _ _ (returns-in-Ok-clause-refuted g c zero)

pub returns-in-Ok-clause-handed : goal.returns-in-Ok-clause-handed
returns-in-Ok-clause-handed g c = λ zero.
    with_zero
    (λ refuted. refuted ≡ true → IsRefutedAsHanded g.D.Store.hands
    (asked_of (map g.S.AsStr.text c.args.words.now)) (g.I.Source.remaining c.args.input.now))
    c.run_request-run.result c.tell_run-status.result _ _ (fault_above _ _ _ _ _)
    c.tell_run-status.ensures.told
    (subst
    (λ (a : Asked). IfOk c.run_request-run.result (λ refuted. refuted ≡ true
    → IsRefutedAsHanded g.D.Store.hands a (g.I.Source.remaining c.args.input.now)))
    c.in-Ok.ensures.asked c.run_request-run.ensures.handed) zero refl

pub returns-in-Ok-clause-published : goal.returns-in-Ok-clause-published
returns-in-Ok-clause-published g c = λ zero.
    published_run (g.D.Store.held c.args.store.now) _
    (asked_of (map g.S.AsStr.text c.args.words.now)) (g.I.Source.remaining c.args.input.now)
    _ _ (asked_of (map g.S.AsStr.text c.args.words.now)).formula refl
    (returns-in-Ok-clause-refuted g c zero)

pub returns-in-Ok-clause-quiet : goal.returns-in-Ok-clause-quiet
returns-in-Ok-clause-quiet g c =
    below_two c.run_request-run.result c.tell_run-status.result _ _ (fault_above _ _ _ _ _)
    c.tell_run-status.ensures.told

pub returns-in-Ok-clause-undrawn : goal.returns-in-Ok-clause-undrawn
returns-in-Ok-clause-undrawn g c =
    below_five _ c.run_request-run.result c.tell_run-status.result _ _ Fault.Device
    (device_five _ _ _ _ _) c.tell_run-status.ensures.told c.run_request-run.ensures.undrawn

pub returns-in-Ok-clause-nothing : goal.returns-in-Ok-clause-nothing
returns-in-Ok-clause-nothing g c =
    below_five _ c.run_request-run.result c.tell_run-status.result _ _ Fault.Device
    (device_five _ _ _ _ _) c.tell_run-status.ensures.told c.run_request-run.ensures.nothing

pub returns-in-Ok-clause-beginning : goal.returns-in-Ok-clause-beginning
returns-in-Ok-clause-beginning g c = λ five.
    with_fault _ c.run_request-run.result c.tell_run-status.result _ _
    c.tell_run-status.ensures.told
    (rw c.in-Ok.ensures.asked at c.run_request-run.ensures.beginning) (omega (arith, five))

pub returns-in-Ok-clause-fault : goal.returns-in-Ok-clause-fault
returns-in-Ok-clause-fault g c = λ three.
    let found =
    above_one c.run_request-run.result c.tell_run-status.result _ _ c.tell_run-status.ensures.told
    (omega (arith, three)) in
    fault_run (g.D.Store.held c.args.store.now) (asked_of (map g.S.AsStr.text c.args.words.now)) _
    (g.I.Source.remaining c.args.input.now) found.0 c.tell_run-status.result _ _ _ _
    c.in-Ok.ensures.asked found.2 (rw found.1 at c.run_request-run.ensures.fault) three

pub returns-in-Ok-clause-memory : goal.returns-in-Ok-clause-memory
returns-in-Ok-clause-memory g c = λ four.
    let found =
    above_one c.run_request-run.result c.tell_run-status.result _ _ c.tell_run-status.ensures.told
    (omega (arith, four)) in
    memory_run found.0 c.tell_run-status.result _ _ _ _ found.2 four

pub returns-in-Ok-clause-device : goal.returns-in-Ok-clause-device
returns-in-Ok-clause-device g c = λ five.
    let found =
    above_one c.run_request-run.result c.tell_run-status.result _ _ c.tell_run-status.ensures.told
    (omega (arith, five)) in
    device_run found.0 c.tell_run-status.result _ _ _ _ found.2 five

pub returns-in-Ok-clause-kept : goal.returns-in-Ok-clause-kept
returns-in-Ok-clause-kept g c = λ path input.
    c.run_request-run.ensures.elsewhere path
    (subst (λ (a : Asked). IsElsewhere a path) (sym c.in-Ok.ensures.asked)
    (input_apart (asked_of (map g.S.AsStr.text c.args.words.now)) path c.in-Ok.ensures.taken.1.1
    input))

pub returns-in-Err-clause-none : goal.returns-in-Err-clause-none
returns-in-Err-clause-none g c = λ empty.
    let four : c.tell_refused.result ≡ 4 =
    c.tell_refused.ensures.usage (c.in-Err.ensures.refused (nothing_taken _ _ empty)) in
    (λ two. omega (arith, four, two), none_asked g.S.AsStr.text c.args.words.now empty)
