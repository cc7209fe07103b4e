use Rattle.std.proofs.Common.{List, ℕ, None, option_map, Bor}
use Rattle.bundle_files.specs.Files.{may_lie_at}
use Rattle.join_command.proofs.BundleRead.{read_anyhow, unread_bundle}
use Rattle.join_command.proofs.files.read_asked.Goals as goal

pub returns-in-Ok-clause-bundle : goal.returns-in-Ok-clause-bundle
returns-in-Ok-clause-bundle g c =
    read_anyhow (may_lie_at (g.D.Store.held c.args.store.now))
    (option_map {T = Bor (List ℕ)} {U = List ℕ} (λ path. path.now) c.args.formula) c.args.file.now _
    None c.in-Ok.read.bundle.items c.in-Ok.ensures.bundle

pub returns-in-Err-clause-err : goal.returns-in-Err-clause-err
returns-in-Err-clause-err g c =
    unread_bundle (g.D.Store.held c.args.store.now)
    (option_map {T = Bor (List ℕ)} {U = List ℕ} (λ path. path.now) c.args.formula) c.args.file.now _
    (g.D.Store.failures c.args.store.now) (g.D.Store.failures c.read_from.new.store) _ _
    c.in-Err.fault c.fault_of_reading.result c.in-Err.ensures.fault c.in-Err.ensures.err
    (cc c.read_from.ensures.kept) c.fault_of_reading.ensures.thread c.fault_of_reading.ensures.other

pub returns-in-Ok-clause-handed : goal.returns-in-Ok-clause-handed
returns-in-Ok-clause-handed g c =
    read_anyhow g.D.Store.hands
    (option_map {T = Bor (List ℕ)} {U = List ℕ} (λ path. path.now) c.args.formula) c.args.file.now _
    None c.in-Ok.read.bundle.items c.in-Ok.ensures.handed
