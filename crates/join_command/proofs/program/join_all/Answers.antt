use Rattle.std.proofs.Common.{◌∙◌, List, ℕ, map, Bor, sym}
use Rattle.cube_join.proofs.JoinedLegible.{legible_in}
use Rattle.join_command.specs.Inner.Files.{lies_handed}
use Rattle.join_command.proofs.ProgramFiles.{bundle_fault, joined_on, memory_fault}
use Rattle.join_command.proofs.ProgramFiles.{records_fault}
use Rattle.join_command.proofs.program.join_all.Goals as goal

pub returns-in_err-tree-clause-err : goal.returns-in_err-tree-clause-err
returns-in_err-tree-clause-err g c =
    bundle_fault (g.D.Store.held c.args.store.now) c.args.bundle.items c.args.line.now
    (map {A = Bor (List ℕ)} {B = List ℕ} (λ path. path.now) c.args.paths.now)
    (g.D.Store.failures c.args.store.now) c.in_err-tree.field-0.0 c.from_residual.result
    (rw c.deref.ensures.value at c.in_err-tree.ensures.err) c.from_residual.ensures.1

pub join_files-requires-clause-legible : goal.join_files-requires-clause-legible
join_files-requires-clause-legible g c = λ κs within.
    let read = rw c.deref.ensures.value at c.in_ok-tree.ensures.ok in
    rw (c.in_ok-join.ensures.tree ∙ sym read.2)
    (legible_in c.args.bundle.items read.0 read.1)

pub returns-clause-joined : goal.returns-clause-joined
returns-clause-joined g c =
    let read = rw c.deref.ensures.value at c.in_ok-tree.ensures.ok in
    joined_on (lies_handed (g.D.Store.held c.args.store.now) g.D.Store.hands)
    (map {A = Bor (List ℕ)} {B = List ℕ} (λ path. path.now) c.args.paths.now) c.args.line.now
    c.args.bundle.items
    read.0 c.join_files.new.join.tree c.join_files.new.join.marks
    c.in_ok-report.field-0.text.items c.in_ok-report.field-0.refuted read.1
    (c.join_files.ensures.tree ∙ (c.in_ok-join.ensures.tree ∙ sym read.2))
    (rw c.join_files.ensures.tree c.in_ok-join_files.ensures.joined)
    c.in_ok-report.ensures.text c.in_ok-report.ensures.refuted

pub returns-in_err-join_files-clause-err : goal.returns-in_err-join_files-clause-err
returns-in_err-join_files-clause-err g c =
    let read = rw c.deref.ensures.value at c.in_ok-tree.ensures.ok in
    records_fault (g.D.Store.held c.args.store.now) c.args.bundle.items c.args.line.now
    (map {A = Bor (List ℕ)} {B = List ℕ} (λ path. path.now) c.args.paths.now)
    (g.D.Store.failures c.args.store.now) (g.D.Store.failures c.join_files.new.store)
    read.0 c.in_ok-join.join.tree c.in_err-join_files.field-0.0
    c.from_residual-in_err-join_files.result read.1
    (c.in_ok-join.ensures.tree ∙ sym read.2) c.in_err-join_files.ensures.err
    c.from_residual-in_err-join_files.ensures.1

pub returns-in_err-report-clause-err : goal.returns-in_err-report-clause-err
returns-in_err-report-clause-err g c =
    memory_fault (g.D.Store.held c.args.store.now) c.args.bundle.items c.args.line.now
    (map {A = Bor (List ℕ)} {B = List ℕ} (λ path. path.now) c.args.paths.now)
    (g.D.Store.failures c.args.store.now) (g.D.Store.failures c.join_files.new.store)
    c.from_residual-in_err-report.result c.in_ok-join_files.ensures.ok
    c.from_residual-in_err-report.ensures.1
