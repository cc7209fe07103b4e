use Rattle.std.proofs.Common.{List, ℕ, option_map, Bor}
use Rattle.cube_report.specs.Faults.{IsInputFault}
use Rattle.file_store.specs.Files.{may_lie_at}
use Rattle.bundle_files.specs.Formula.{IsFormulaFault}
use Rattle.bundle_files.proofs.FormulaReading.{bundle_read, count_refused, handed_on, other_count}
use Rattle.bundle_files.proofs.formula.read_from.Goals as goal

pub returns-in_err-case-clause-fault : goal.returns-in_err-case-clause-fault
returns-in_err-case-clause-fault g c =
    let begun = c.in_ok-text.field-0 in
    handed_on c.from_residual-in_err-case.result
    (λ fault. IsInputFault fault → IsFormulaFault (g.D.Store.held c.args.store.now)
    (option_map {T = Bor (List ℕ)} {U = List ℕ} (λ path. path.now) c.args.formula)
    (option_map {T = Bor (List ℕ)} {U = List ℕ} (λ path. path.now) c.args.file)
    (g.I.Source.remaining c.args.input.now) fault) c.in_err-case.field-0.0
    (λ of_input.
    count_refused (g.D.Store.held c.args.store.now) _ begun.said begun.text.items
    c.append_given.new.bytes.items _ _ c.in_err-case.field-0.0 c.in_ok-text.ensures.read
    (rw c.in_ok-text.ensures.held at c.in_ok-append_given.ensures.appended)
    (other_count begun.said c.append_given.new.bytes.items c.in_err-case.field-0.0
    (rw c.deref.ensures.value at c.in_err-case.ensures.err) of_input))
    c.from_residual-in_err-case.ensures.1

pub returns-clause-bundle : goal.returns-clause-bundle
returns-clause-bundle g c =
    let begun = c.in_ok-text.field-0 in
    bundle_read (may_lie_at (g.D.Store.held c.args.store.now)) _ begun.said begun.text.items
    c.append_given.new.bytes.items _ _ c.in_ok-text.ensures.read
    (rw c.in_ok-text.ensures.held at c.in_ok-append_given.ensures.appended)
    (rw c.deref.ensures.value at c.in_ok-case.ensures.ok)

pub returns-clause-handed : goal.returns-clause-handed
returns-clause-handed g c =
    let begun = c.in_ok-text.field-0 in
    bundle_read g.D.Store.hands _ begun.said begun.text.items c.append_given.new.bytes.items _ _
    c.in_ok-text.ensures.handed c.in_ok-append_given.ensures.handed
    (rw c.deref.ensures.value at c.in_ok-case.ensures.ok)
