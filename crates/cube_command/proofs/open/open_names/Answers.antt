use Rattle.std.proofs.Common.{◌∙◌, ap, rules, tests, nat_eq}
use Rattle.std.specs.List.{flat_map}
use Rattle.std.proofs.lemmas.Iterator.Consumers.{YieldsList-end}
use Rattle.std.proofs.lemmas.Iterator.Splits.{YieldsList-from_slice_split}
use Rattle.cube_command.specs.Open.{open_name}
use Rattle.cube_command.proofs.open.open_names.Goals as goal

pub returns : goal.returns
returns c =
    let all = YieldsList-end
    (YieldsList-from_slice_split _ (λ b. nat_eq b 10) c.args.report.now
    (search rules) (search rules) (search rules) (λ x b q k. search (rules, tests)))
    c.loop-line.yielded _ c.loop-line.yielded_by _ _ c.in-None.is c.next.ensures.steps in
    c.loop-line.invariant ∙ ap (flat_map open_name) all.0
