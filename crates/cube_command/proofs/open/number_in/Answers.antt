use Rattle.std.proofs.Common.{rules, tests, refl}
use Rattle.std.proofs.lemmas.Iterator.{YieldsList-from_slice}
use Rattle.std.proofs.lemmas.Iterator.Search.{position_from_yields_List}
use Rattle.cube_command.specs.Open.{is_space}
use Rattle.cube_command.proofs.OpenNames.{number_up_to}
use Rattle.cube_command.proofs.open.number_in.Goals as goal

pub returns : goal.returns
returns c =
    let found = position_from_yields_List is_space _ _ c.position-end.result
    c.position-end.ensures.ran (YieldsList-from_slice _ c.iter.ensures.rest)
    (λ x b q k. search (rules, tests)) in
    number_up_to c.args.line.now _ c.position-end.result c.unwrap_or.result refl found
    c.unwrap_or.ensures
