use Rattle.std.proofs.Common.{◌≡◌, ◌≤◌, ◌∙◌, arith, true}
use Rattle.cube_join.proofs.FieldsPaths.{zero_field}
use Rattle.cube_join.proofs.fields.literal_at_front.Goals as goal

pub returns-clause-end : goal.returns-clause-end
returns-clause-end c = λ rest ends e.
    let sign = c.in_ok-positive.ensures.sign (record { variable = 0; positive = true }) rest
    (omega arith) (e ∙ zero_field rest) in
    let zero = c.number_at_front-variable.ensures.read 0 rest (omega arith) ends sign.1 in
    let none : c.number_at_front-variable.result.0 ≡ 0 = zero.0 in
    let some : 1 ≤ c.number_at_front-variable.result.0 = c.in_ok-literal_of.ensures.0.0 in
    absurd (omega (arith, none, some))
