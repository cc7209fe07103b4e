use Rattle.std.proofs.Common.{sym, ◌∙◌, arith}
use Rattle.std.proofs.lemmas.Bool.{iff_false}
use Rattle.case_core.proofs.LabelNames.{no_great_missing, no_missing}
use Rattle.case_core.proofs.label.missing_named.Goals as goal

pub returns-then-value-from-clause-err : goal.returns-then-value-from-clause-err
returns-then-value-from-clause-err c =
    no_great_missing _ _ c.in-Some.value (sym c.in-Some.is ∙ c.digits_value.ensures) (omega arith)

pub returns-then-not-has_leaf-clause-err : goal.returns-then-not-has_leaf-clause-err
returns-then-not-has_leaf-clause-err c =
    no_missing _ _ c.in-Some.value (sym c.in-Some.is ∙ c.digits_value.ensures) (omega arith)
    (iff_false c.has_leaf.ensures c.if-not-has_leaf.true)
