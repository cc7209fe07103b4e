use Rattle.std.proofs.Common.{◌∙◌, ap, refl, subst, sym}
use Rattle.std.specs.Prelude.{is_some}
use Rattle.command_words.specs.Request.{asked_in}
use Rattle.cube_report.proofs.CorrectReports.{report_on}
use Rattle.cube_command.specs.Open.{open_names}
use Rattle.cube_command.proofs.ProgramRuns.{picture_on, reported, begun_of, shown_for}
use Rattle.cube_command.proofs.program.run_sparing.Goals as goal

pub write_outcome-requires-clause-report : goal.write_outcome-requires-clause-report
write_outcome-requires-clause-report g c = λ _ _.
    let made = c.in_ok-made.ensures.made in
    let given = shown_for (asked_in c.args.call.now.request.now)
    c.args.call.now.request.now.list_open c.deref-2.result.now c.deref-3.result.now
    c.in_ok-made.made.outcome.text.items c.shown-given.result.now refl c.deref-2.ensures.value
    (λ says. c.deref-3.ensures.value ∙ c.in_ok-names.ensures says
    ∙ ap open_names c.deref.ensures.value) c.shown-given.ensures in
    subst (g.O.Sink.allows c.args.output.now) (sym given)
    (c.requires.reports made.read made.whole made.bundle c.in_ok-made.made.outcome.text.items
    (report_on _ _ _ made.outcome.correct))

pub write_outcome-requires-clause-picture : goal.write_outcome-requires-clause-picture
write_outcome-requires-clause-picture g c = λ _ _ path is.
    let made = c.in_ok-made.ensures.made in
    c.in_ok-made.ensures.allowed path c.in_ok-made.made.outcome.map.items
    (c.requires.pictures path made.read made.whole is made.bundle
    c.in_ok-made.made.outcome.map.items
    (picture_on made.whole c.in_ok-made.made.outcome.text.items
    c.in_ok-made.made.outcome.map.items path (asked_in c.args.call.now.request.now).picture
    (is_some (asked_in c.args.call.now.request.now).picture) c.in_ok-made.made.outcome.refuted refl
    is made.outcome))

pub write_outcome-requires-clause-recorded : goal.write_outcome-requires-clause-recorded
write_outcome-requires-clause-recorded g c = λ _ _ path is.
    let made = c.in_ok-made.ensures.made in
    c.in_ok-made.ensures.allowed path c.in_ok-made.made.bytes.items
    (c.requires.records path made.read made.whole is made.bundle c.in_ok-made.made.bytes.items (
      c.in_ok-made.made.outcome.text.items,
      report_on _ _ _ made.outcome.correct,
      made.recorded path is,
    ))

pub returns-in_err-write_outcome-clause-beginning :
    goal.returns-in_err-write_outcome-clause-beginning
returns-in_err-write_outcome-clause-beginning g c =
    let made = c.in_ok-made.ensures.made in
    let given = shown_for (asked_in c.args.call.now.request.now)
    c.args.call.now.request.now.list_open c.deref-2.result.now c.deref-3.result.now
    c.in_ok-made.made.outcome.text.items c.shown-given.result.now refl c.deref-2.ensures.value
    (λ says. c.deref-3.ensures.value ∙ c.in_ok-names.ensures says
    ∙ ap open_names c.deref.ensures.value) c.shown-given.ensures in
    begun_of c.from_residual-in_err-write_outcome.result (g.D.Store.held c.args.store.now)
    (asked_in c.args.call.now.request.now)
    (g.I.Source.remaining c.args.input.now) (g.O.Sink.contents c.args.output.now)
    (g.O.Sink.contents c.write_outcome.new.output) made.read made.whole
    c.in_ok-made.made.outcome.text.items c.shown-given.result.now
    (g.O.Sink.failures c.args.output.now) (g.O.Sink.failures c.write_outcome.new.output)
    made.bundle (report_on _ _ _ made.outcome.correct) given
    c.in_err-write_outcome.ensures.beginning

pub returns-clause-report : goal.returns-clause-report
returns-clause-report g c =
    let made = c.in_ok-made.ensures.made in
    let given = shown_for (asked_in c.args.call.now.request.now)
    c.args.call.now.request.now.list_open c.deref-2.result.now c.deref-3.result.now
    c.in_ok-made.made.outcome.text.items c.shown-given.result.now refl c.deref-2.ensures.value
    (λ says. c.deref-3.ensures.value ∙ c.in_ok-names.ensures says
    ∙ ap open_names c.deref.ensures.value) c.shown-given.ensures in
    reported (g.D.Store.held c.args.store.now) (g.D.Store.held c.write_outcome.new.store)
    (asked_in c.args.call.now.request.now) (g.I.Source.remaining c.args.input.now)
    (g.O.Sink.contents c.args.output.now)
    (g.O.Sink.contents c.write_outcome.new.output) made.read made.whole
    c.in_ok-made.made.outcome.text.items c.in_ok-made.made.outcome.map.items
    c.in_ok-made.made.bytes.items c.shown-given.result.now
    (is_some (asked_in c.args.call.now.request.now).picture) c.in_ok-made.made.outcome.refuted
    made.bundle made.outcome refl made.recorded given
    c.in_ok-write_outcome.ensures.written c.in_ok-write_outcome.ensures.drawn
    c.in_ok-write_outcome.ensures.recorded

pub returns-clause-handed : goal.returns-clause-handed
returns-clause-handed g c = c.in_ok-made.ensures.handed
