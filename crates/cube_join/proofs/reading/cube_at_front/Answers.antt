use Rattle.std.proofs.Common.{◌∷◌, ◌++◌, ◌∙◌, decimal}
use Rattle.node_fields.specs.Fields.{status_fields}
use Rattle.cube_join.proofs.ReadingFronts.{cube_text, cube_status}
use Rattle.cube_join.proofs.reading.cube_at_front.Goals as goal

pub returns-in_default : goal.returns-in_default
returns-in_default c = λ number mark rest small step e.
    c.in_default.ensures (decimal number ++ (status_fields mark ++ 10 ∷ rest))
    (e ∙ cube_text number mark rest)

pub returns : goal.returns
returns c = λ number mark rest small step e.
    c.status_at_front.ensures mark rest step
    (cube_status number mark c.args.text.now c.in-Some.number.now _ rest _ small c.in-Some.ensures
    c.number_at_front.ensures.read e)
