use Rattle.std.proofs.Common.{◌≡◌, ap, inr, List, ℕ, Option, None, Some, Bor}
use Rattle.std.specs.Prelude.{option_map}
use Rattle.command_words.proofs.WordsRequests.{handed_on}
use Rattle.command_words.specs.Request.{asked_in}
use Rattle.cube_report.specs.Device.{IsLeft}
use Rattle.cube_report.specs.Faults.{IsInputFault}
use Rattle.bundle_files.specs.Files.{may_lie_at}
use Rattle.cube_command.specs.Program.{IsRefusedFrom}
use Rattle.cube_command.proofs.ProgramMade.{fault_below, handed_below, made_below, of_file}
use Rattle.cube_command.proofs.ProgramMade.{of_input}
use Rattle.cube_command.proofs.while_read.judge_once.Goals as goal

abbrev pub path_of : Option (Bor (List ℕ)) → Option (List ℕ)
path_of file = option_map (λ (path : Bor (List ℕ)). path.now) file

pub returns-in_err-begun-clause-fault : goal.returns-in_err-begun-clause-fault
returns-in_err-begun-clause-fault g c =
    let held = g.D.Store.held c.args.store.now in
    let asked = asked_in c.args.call.now.request.now in
    let input = g.I.Source.remaining c.args.input.now in
    handed_on c.from_residual.result
    (λ fault. IsInputFault fault → IsRefusedFrom held asked input fault)
    c.in_err-begun.field-0.0
    (λ of_fault. inr (c.in_err-begun.ensures.fault of_fault asked.file input))
    c.from_residual.ensures.1

-- ---- a file

pub returns-in-Some-clause-made : goal.returns-in-Some-clause-made
returns-in-Some-clause-made g c =
    let held = g.D.Store.held c.args.store.now in
    let asked = asked_in c.args.call.now.request.now in
    let input = g.I.Source.remaining c.args.input.now in
    let path = c.in-Some.path.now in
    let is : asked.file ≡ Some path = ap path_of c.in-Some.is in
    made_below held asked input c.in_ok-begun.begun
    (λ text. may_lie_at held path text × g.D.Store.hands path text) c.requires.alone
    c.in_ok-begun.ensures.read
    (λ text given. of_file (may_lie_at held) asked.file input text path is given.0)
    c.judge_at.result (rw c.in_ok-begun.ensures.held at c.judge_at.ensures.made)

pub returns-in-Some-clause-handed : goal.returns-in-Some-clause-handed
returns-in-Some-clause-handed g c =
    let held = g.D.Store.held c.begin_bundle.new.store in
    let asked = asked_in c.args.call.now.request.now in
    let input = g.I.Source.remaining c.args.input.now in
    let path = c.in-Some.path.now in
    let is : asked.file ≡ Some path = ap path_of c.in-Some.is in
    handed_below c.judge_at.result g.D.Store.hands asked input c.in_ok-begun.begun
    (λ text. may_lie_at held path text × g.D.Store.hands path text) c.in_ok-begun.ensures.handed
    (λ text given. of_file g.D.Store.hands asked.file input text path is given.1)
    c.judge_at.ensures.made

pub returns-in-Some-clause-fault : goal.returns-in-Some-clause-fault
returns-in-Some-clause-fault g c =
    let held = g.D.Store.held c.args.store.now in
    let asked = asked_in c.args.call.now.request.now in
    let input = g.I.Source.remaining c.args.input.now in
    let path = c.in-Some.path.now in
    let is : asked.file ≡ Some path = ap path_of c.in-Some.is in
    fault_below held asked input c.in_ok-begun.begun (may_lie_at held path) c.requires.alone
    c.in_ok-begun.ensures.read
    (λ text given. of_file (may_lie_at held) asked.file input text path is given)
    c.judge_at.result (rw c.in_ok-begun.ensures.held at c.judge_at.ensures.fault)

-- ---- the input

pub returns-in-None-clause-made : goal.returns-in-None-clause-made
returns-in-None-clause-made g c =
    let held = g.D.Store.held c.args.store.now in
    let asked = asked_in c.args.call.now.request.now in
    let input = g.I.Source.remaining c.args.input.now in
    let is : asked.file ≡ None = ap path_of c.in-None.is in
    made_below held asked input c.in_ok-begun.begun (IsLeft input) c.requires.alone
    c.in_ok-begun.ensures.read
    (λ text given. of_input (may_lie_at held) asked.file input text is given)
    c.judge_source.result c.judge_source.ensures.made

pub returns-in-None-clause-handed : goal.returns-in-None-clause-handed
returns-in-None-clause-handed g c =
    let asked = asked_in c.args.call.now.request.now in
    let input = g.I.Source.remaining c.args.input.now in
    let is : asked.file ≡ None = ap path_of c.in-None.is in
    handed_below c.judge_source.result g.D.Store.hands asked input c.in_ok-begun.begun
    (IsLeft input) c.in_ok-begun.ensures.handed
    (λ text given. of_input g.D.Store.hands asked.file input text is given)
    c.judge_source.ensures.made

pub returns-in-None-clause-fault : goal.returns-in-None-clause-fault
returns-in-None-clause-fault g c =
    let held = g.D.Store.held c.args.store.now in
    let asked = asked_in c.args.call.now.request.now in
    let input = g.I.Source.remaining c.args.input.now in
    let is : asked.file ≡ None = ap path_of c.in-None.is in
    fault_below held asked input c.in_ok-begun.begun (IsLeft input) c.requires.alone
    c.in_ok-begun.ensures.read
    (λ text given. of_input (may_lie_at held) asked.file input text is given)
    c.judge_source.result c.judge_source.ensures.fault
