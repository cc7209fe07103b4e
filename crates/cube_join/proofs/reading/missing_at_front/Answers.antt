use Rattle.std.proofs.Common.{◌∷◌, ◌++◌, ◌∙◌, decimal}
use Rattle.node_fields.specs.Fields.{status_fields}
use Rattle.cube_join.specs.Inner.Fields.{path_text}
use Rattle.cube_join.proofs.ReadingFronts.{missing_text, missing_path, status_ends}
use Rattle.cube_join.proofs.reading.missing_at_front.Goals as goal

pub returns-in_default : goal.returns-in_default
returns-in_default c = λ number path mark rest small are step e.
    c.in_default.ensures (decimal number ++ path_text path (status_fields mark ++ 10 ∷ rest))
    (e ∙ missing_text number path mark rest)

pub returns-in_default-2 : goal.returns-in_default-2
returns-in_default-2 c = λ number path mark rest small are step e.
    let read = c.in_ok-status.ensures path (status_fields mark ++ 10 ∷ rest) are
    (status_ends mark (10 ∷ rest))
    (missing_path number path mark c.args.text.now c.in-Some.number.now _ rest _ small
    c.in-Some.ensures c.number_at_front.ensures.read e) in
    rw c.in_default-2.is at read

pub returns : goal.returns
returns c = λ number path mark rest small are step e.
    let read = c.in_ok-status.ensures path (status_fields mark ++ 10 ∷ rest) are
    (status_ends mark (10 ∷ rest))
    (missing_path number path mark c.args.text.now c.in-Some.number.now _ rest _ small
    c.in-Some.ensures c.number_at_front.ensures.read e) in
    let both = rw c.in-Some-2.is at read in
    c.status_at_front.ensures mark rest step both.1
