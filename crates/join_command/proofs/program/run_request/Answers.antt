use Rattle.join_command.specs.Inner.Words.{asked_in}
use Rattle.join_command.proofs.ProgramFiles.{far_known, join_begun, join_of, join_written}
use Rattle.join_command.proofs.ProgramRuns.{join_handed}
use Rattle.join_command.proofs.program.run_request.Goals as goal

pub write_all-requires-clause-allowed : goal.write_all-requires-clause-allowed
write_all-requires-clause-allowed g c =
    let parts = join_of (g.D.Store.held c.args.store.now) (asked_in c.args.request.now)
    c.in_ok-bundle.bundle.items c.in_ok-line.line.items c.in_ok-joined.joined.text.items
    c.in_ok-joined.joined.refuted c.in_ok-bundle.ensures.bundle
    (rw c.deref.ensures.value at c.in_ok-line.ensures)
    (far_known (g.D.Store.held c.args.store.now) g.D.Store.hands
    (asked_in c.args.request.now).records c.in_ok-line.line.items
    c.in_ok-bundle.bundle.items c.in_ok-joined.joined.text.items c.in_ok-joined.joined.refuted
    (rw (c.read_asked.ensures.held, c.deref-2.ensures.value, c.deref-3.ensures.value) at
    c.in_ok-joined.ensures.joined)) in
    rw c.deref-4.ensures.value
    (c.requires.reports c.in_ok-bundle.bundle.items parts.0 c.in_ok-joined.joined.text.items
    parts.1 (c.in_ok-joined.joined.refuted, parts.2))

pub returns-in_err-write_all-clause-beginning : goal.returns-in_err-write_all-clause-beginning
returns-in_err-write_all-clause-beginning g c =
    join_begun c.from_residual-in_err-write_all.result (g.D.Store.held c.args.store.now)
    (asked_in c.args.request.now) c.in_ok-bundle.bundle.items c.in_ok-line.line.items
    c.in_ok-joined.joined.text.items c.in_ok-joined.joined.refuted
    (g.O.Sink.contents c.args.output.now) (g.O.Sink.contents c.write_all.new.writer)
    (g.O.Sink.failures c.args.output.now) (g.O.Sink.failures c.write_all.new.writer)
    c.in_ok-bundle.ensures.bundle (rw c.deref.ensures.value at c.in_ok-line.ensures)
    (far_known (g.D.Store.held c.args.store.now) g.D.Store.hands
    (asked_in c.args.request.now).records c.in_ok-line.line.items
    c.in_ok-bundle.bundle.items c.in_ok-joined.joined.text.items c.in_ok-joined.joined.refuted
    (rw (c.read_asked.ensures.held, c.deref-2.ensures.value, c.deref-3.ensures.value) at
    c.in_ok-joined.ensures.joined))
    (rw c.deref-4.ensures.value at c.in_err-write_all.ensures.beginning)
    c.in_err-write_all.ensures.err.1

pub returns-clause-written : goal.returns-clause-written
returns-clause-written g c =
    join_written (g.D.Store.held c.args.store.now) (asked_in c.args.request.now)
    c.in_ok-bundle.bundle.items c.in_ok-line.line.items c.in_ok-joined.joined.text.items
    c.in_ok-joined.joined.refuted (g.O.Sink.contents c.args.output.now)
    (g.O.Sink.contents c.write_all.new.writer) c.in_ok-bundle.ensures.bundle
    (rw c.deref.ensures.value at c.in_ok-line.ensures)
    (far_known (g.D.Store.held c.args.store.now) g.D.Store.hands
    (asked_in c.args.request.now).records c.in_ok-line.line.items
    c.in_ok-bundle.bundle.items c.in_ok-joined.joined.text.items c.in_ok-joined.joined.refuted
    (rw (c.read_asked.ensures.held, c.deref-2.ensures.value, c.deref-3.ensures.value) at
    c.in_ok-joined.ensures.joined))
    (rw c.deref-4.ensures.value at c.in_ok-write_all.ensures.ok)

pub returns-clause-handed : goal.returns-clause-handed
returns-clause-handed g c =
    join_handed (g.D.Store.held c.args.store.now) g.D.Store.hands (asked_in c.args.request.now)
    c.in_ok-bundle.bundle.items c.in_ok-line.line.items c.in_ok-joined.joined.text.items
    c.in_ok-joined.joined.refuted c.in_ok-bundle.ensures.handed
    (rw c.deref.ensures.value at c.in_ok-line.ensures)
    (rw (c.read_asked.ensures.held, c.deref-2.ensures.value, c.deref-3.ensures.value) at
    c.in_ok-joined.ensures.joined)
