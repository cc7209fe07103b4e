use Rattle.std.proofs.Common.{Some, sym, ◌∙◌, ap, arith}
use Rattle.std.proofs.lemmas.Bool.{iff_false}
use Rattle.case_core.proofs.LabelNames.{no_great_cube, no_cube, at_least}
use Rattle.case_core.proofs.label.cube_named.Goals as goal

pub returns-in_default-try_from-clause-err : goal.returns-in_default-try_from-clause-err
returns-in_default-try_from-clause-err c =
    no_great_cube _ _ c.in-Some.value c.requires (sym c.in-Some.is ∙ c.digits_value.ensures)
    (at_least _ _ c.in_default-try_from.ensures)

pub returns-then-not-has_leaf-clause-err : goal.returns-then-not-has_leaf-clause-err
returns-then-not-has_leaf-clause-err c =
    no_cube _ _ c.in-Ok.number
    (ap Some c.in-Ok.ensures.1 ∙ sym c.in-Some.is ∙ c.digits_value.ensures)
    (omega (arith, c.in-Ok.ensures.0, c.in-Ok.ensures.1))
    (iff_false c.has_leaf.ensures c.if-not-has_leaf.true)
