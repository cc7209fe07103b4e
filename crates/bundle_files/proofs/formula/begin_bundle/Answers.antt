use Rattle.std.proofs.Common.{None, Some}
use Rattle.file_store.specs.Files.{may_lie_at}
use Rattle.bundle_files.proofs.FormulaReading.{faulty_if, front_plain, plain_if}
use Rattle.bundle_files.proofs.formula.begin_bundle.Goals as goal

pub returns-in-Some-clause-plain : goal.returns-in-Some-clause-plain
returns-in-Some-clause-plain g c =
    plain_if c.read_formula.result (may_lie_at (g.D.Store.held c.args.store.now))
    (Some c.in-Some.path.now) c.read_formula.ensures.read

pub returns-in-Some-clause-fault : goal.returns-in-Some-clause-fault
returns-in-Some-clause-fault g c =
    rw c.in-Some.is
    (faulty_if c.read_formula.result (g.D.Store.held c.args.store.now) c.in-Some.path.now
    c.read_formula.ensures.fault)

pub returns-in-None-clause-plain : goal.returns-in-None-clause-plain
returns-in-None-clause-plain g c =
    front_plain g.D.Store.hands None None c.new.result.items c.new.ensures.items
