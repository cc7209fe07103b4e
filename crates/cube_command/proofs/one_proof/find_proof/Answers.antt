use Rattle.std.proofs.Common.{◌≡◌, List, None, Option, Some, subst, ℕ}
use Rattle.bundle_files.specs.Files.{IsTextAt, may_lie_at}
use Rattle.cube_command.specs.Sources.{file_at}
use Rattle.cube_command.proofs.OneProofAlone.{some_input, some_text}
use Rattle.cube_command.proofs.one_proof.find_proof.Goals as goal

pub returns-in_ok-file-clause-found : goal.returns-in_ok-file-clause-found
returns-in_ok-file-clause-found g c = λ input.
    let has = may_lie_at (g.D.Store.held c.args.store.now) in
    let same : Some c.in-Some.path.now ≡ file_at c.args.path.now = c.in-Some.ensures in
    subst (λ (file : Option (List ℕ)). (bytes : List ℕ) × IsTextAt has file input bytes) same
    (some_text (has c.in-Some.path.now) (g.D.Opened.Source.remaining c.in_ok-file.file)
    c.in_ok-file.ensures.lies)

pub returns-in_default-clause-found : goal.returns-in_default-clause-found
returns-in_default-clause-found g c = λ input.
    let has = may_lie_at (g.D.Store.held c.args.store.now) in
    let same : None ≡ file_at c.args.path.now = c.in_default.ensures in
    subst (λ (file : Option (List ℕ)). (bytes : List ℕ) × IsTextAt has file input bytes) same
    (some_input input)
