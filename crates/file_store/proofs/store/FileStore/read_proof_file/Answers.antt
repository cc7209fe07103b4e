use Rattle.std.proofs.Common.{rules, ◌≡◌, length}
use Rattle.file_store.specs.Files.{held_if}
use Rattle.file_store.proofs.ProofsTurned.{found_longer, none_turned, found_turned}
use Rattle.file_store.proofs.store.FileStore.read_proof_file.Goals as goal

pub turn_from-requires : goal.turn_from-requires
turn_from-requires g c =
    let begin : c.len-begin.result ≡ length c.args.text.now.items = search rules in
    rw begin (found_longer (held_if (g.F.Opener.knows c.args.self.now.opener)
    (g.F.Opener.files c.args.self.now.opener c.args.path.now)) c.args.text.now.items
    c.read_file.new.bytes.items c.in_ok-read_file.field-0 c.in_ok-read_file.ensures.found)

pub returns-then-not-branch-clause-found : goal.returns-then-not-branch-clause-found
returns-then-not-branch-clause-found g c =
    none_turned (held_if (g.F.Opener.knows c.args.self.now.opener)
    (g.F.Opener.files c.args.self.now.opener c.args.path.now)) c.args.text.now.items
    c.read_file.new.bytes.items c.in_ok-read_file.field-0 (search rules)
    c.in_ok-read_file.ensures.found

pub returns-clause-found : goal.returns-clause-found
returns-clause-found g c =
    found_turned (held_if (g.F.Opener.knows c.args.self.now.opener)
    (g.F.Opener.files c.args.self.now.opener c.args.path.now)) c.args.text.now.items
    c.read_file.new.bytes.items c.turn_from.new.text.items c.in_ok-read_file.field-0
    c.len-begin.result (search rules) (search rules) c.in_ok-read_file.ensures.found
    c.in_ok-turn_from.ensures
