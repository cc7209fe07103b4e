use Rattle.command_words.specs.Request.{asked_in}
use Rattle.cube_command.proofs.OneProofAlone.{given_at, handed_alone, made_alone, refused_alone}
use Rattle.cube_command.proofs.OneProofAlone.{refused_before}
use Rattle.cube_command.proofs.one_proof.judge_one.Goals as goal

pub returns-in-Ok-clause-made : goal.returns-in-Ok-clause-made
returns-in-Ok-clause-made g c =
    made_alone c.judge_below.result (g.D.Store.held c.args.store.now)
    (asked_in c.args.call.now.request.now) c.args.path.now (g.I.Source.remaining c.args.input.now)
    c.in-Ok.one.bundle.items c.requires.alone.0 c.requires.alone.1 c.in-Ok.ensures.read
    (rw c.in-Ok.ensures.held at c.judge_below.ensures.made)

pub returns-in-Ok-clause-handed : goal.returns-in-Ok-clause-handed
returns-in-Ok-clause-handed g c =
    handed_alone c.judge_below.result g.D.Store.hands
    (given_at (g.D.Store.held c.args.store.now) c.args.path.now
    (g.I.Source.remaining c.args.input.now)) (asked_in c.args.call.now.request.now)
    c.in-Ok.one.bundle.items c.in-Ok.one.case c.requires.alone.0 c.in-Ok.ensures.handed
    c.in-Ok.ensures.case (rw c.in-Ok.ensures.held at c.judge_below.ensures.made)

pub returns-in-Ok-clause-fault : goal.returns-in-Ok-clause-fault
returns-in-Ok-clause-fault g c =
    refused_alone c.judge_below.result (g.D.Store.held c.args.store.now)
    (asked_in c.args.call.now.request.now) c.args.path.now (g.I.Source.remaining c.args.input.now)
    c.in-Ok.one.bundle.items c.requires.alone.0 c.requires.alone.1 c.in-Ok.ensures.read
    (rw c.in-Ok.ensures.held at c.judge_below.ensures.fault)

pub returns-in_ok-find_proof-in-Err-clause-fault :
    goal.returns-in_ok-find_proof-in-Err-clause-fault
returns-in_ok-find_proof-in-Err-clause-fault g c =
    let input = g.I.Source.remaining c.args.input.now in
    rw c.in_ok-fault-in-Err.ensures.ok.0
    (λ of_input.
    refused_before (g.D.Store.held c.args.store.now) (asked_in c.args.call.now.request.now)
    c.args.path.now input c.in-Err.fault c.requires.alone.0 c.requires.alone.1
    (c.in-Err.ensures.fault of_input)
    (rw c.in-Err.ensures.held at c.in_ok-find_proof-in-Err.ensures.found input))
