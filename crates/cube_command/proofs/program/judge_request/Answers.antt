use Rattle.std.proofs.Common.{◌≡◌, Option, List, ℕ, Bor, IfOk, IfErr, sym, subst, true}
use Rattle.std.specs.Prelude.{option_map}
use Rattle.command_words.specs.Request.{asked_in}
use Rattle.cube_report.specs.Faults.{IsInputFault}
use Rattle.cube_command.specs.Headline.{IsRefutedFrom}
use Rattle.cube_command.specs.Program.{IsRefusedFrom}
use Rattle.cube_command.specs.Sources.{IsSoBy, input_handed}
use Rattle.cube_command.specs.Inner.Recorded.{IsRecordedFrom}
use Rattle.cube_command.proofs.OneProofGiven.{recorded_for}
use Rattle.cube_command.proofs.program.judge_request.Goals as goal

pub returns-in-Some-clause-made : goal.returns-in-Some-clause-made
returns-in-Some-clause-made g c =
    recorded_for c.judge_one.result (g.D.Store.held c.args.store.now)
    (asked_in c.args.call.now.request.now) (g.I.Source.remaining c.args.input.now)
    (subst
    (λ (proof : Option (Bor (List ℕ))). IfOk c.judge_one.result
    (λ made. IsSoBy (g.D.Store.held c.args.store.now) (option_map (λ path. path.now) proof)
    (g.I.Source.remaining c.args.input.now) (λ given. IsRecordedFrom
    (g.D.Store.held c.args.store.now) (asked_in c.args.call.now.request.now) given
    made.outcome.text.items made.outcome.map.items made.outcome.refuted made.bytes.items)))
    (sym c.in-Some.is) c.judge_one.ensures.made)

pub returns-in-Some-clause-handed : goal.returns-in-Some-clause-handed
returns-in-Some-clause-handed g c =
    subst
    (λ (proof : Option (Bor (List ℕ))). IfOk c.judge_one.result
    (λ made. made.outcome.refuted ≡ true → IsRefutedFrom g.D.Store.hands
    (asked_in c.args.call.now.request.now) (input_handed (option_map (λ path. path.now) proof)
    (g.I.Source.remaining c.args.input.now)))) (sym c.in-Some.is) c.judge_one.ensures.handed

pub returns-in-Some-clause-fault : goal.returns-in-Some-clause-fault
returns-in-Some-clause-fault g c =
    subst
    (λ (proof : Option (Bor (List ℕ))). IfErr c.judge_one.result
    (λ fault. IsInputFault fault → IsSoBy (g.D.Store.held c.args.store.now)
    (option_map (λ path. path.now) proof) (g.I.Source.remaining c.args.input.now)
    (λ given. IsRefusedFrom (g.D.Store.held c.args.store.now) (asked_in c.args.call.now.request.now)
    given fault))) (sym c.in-Some.is) c.judge_one.ensures.fault

pub returns-in-None-clause-made : goal.returns-in-None-clause-made
returns-in-None-clause-made g c =
    recorded_for c.judge_cubes.result (g.D.Store.held c.args.store.now)
    (asked_in c.args.call.now.request.now)
    (g.I.Source.remaining c.args.input.now)
    (subst
    (λ (proof : Option (Bor (List ℕ))). IfOk c.judge_cubes.result
    (λ made. IsSoBy (g.D.Store.held c.args.store.now) (option_map (λ path. path.now) proof)
    (g.I.Source.remaining c.args.input.now) (λ given. IsRecordedFrom
    (g.D.Store.held c.args.store.now) (asked_in c.args.call.now.request.now) given
    made.outcome.text.items made.outcome.map.items made.outcome.refuted made.bytes.items)))
    (sym c.in-None.is) c.judge_cubes.ensures.made)

pub returns-in-None-clause-handed : goal.returns-in-None-clause-handed
returns-in-None-clause-handed g c =
    subst
    (λ (proof : Option (Bor (List ℕ))). IfOk c.judge_cubes.result
    (λ made. made.outcome.refuted ≡ true → IsRefutedFrom g.D.Store.hands
    (asked_in c.args.call.now.request.now) (input_handed (option_map (λ path. path.now) proof)
    (g.I.Source.remaining c.args.input.now)))) (sym c.in-None.is) c.judge_cubes.ensures.handed

pub returns-in-None-clause-fault : goal.returns-in-None-clause-fault
returns-in-None-clause-fault g c =
    subst
    (λ (proof : Option (Bor (List ℕ))). IfErr c.judge_cubes.result
    (λ fault. IsInputFault fault → IsSoBy (g.D.Store.held c.args.store.now)
    (option_map (λ path. path.now) proof) (g.I.Source.remaining c.args.input.now)
    (λ given. IsRefusedFrom (g.D.Store.held c.args.store.now) (asked_in c.args.call.now.request.now)
    given fault))) (sym c.in-None.is) c.judge_cubes.ensures.fault
