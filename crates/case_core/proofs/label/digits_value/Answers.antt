use Rattle.std.proofs.Common.{sym, ◌∙◌, arith}
use Rattle.std.proofs.lemmas.Bool.{eqb-true, eqb-false}
use Rattle.case_core.proofs.LabelNames.{minus_first, digits_read, no_digits, nothing_first}
use Rattle.case_core.proofs.LabelNames.{some_bytes}
use Rattle.case_core.proofs.label.digits_value.Goals as goal
use Rattle.case_core.proofs.label.digits_value.Goals.{else-not-is_empty-via-then-not-is_empty+else-word-eq45}
use Rattle.case_core.proofs.label.digits_value.Goals.{else-not-is_empty-via-else-not-is_empty}

pub returns-then-word-eq45 : goal.returns-then-word-eq45
returns-then-word-eq45 c =
    minus_first c.args.word.now
    (some_bytes _ (eqb-false _ _ (sym c.is_empty.ensures ∙ c.if-not-is_empty.true)))
    c.if-word-eq45.true

pub returns-in_default : goal.returns-in_default
returns-in_default c =
    no_digits c.args.word.now
    (elim c.else-not-is_empty.branch [
      | else-not-is_empty-via-then-not-is_empty+else-word-eq45 w ↦ w.if-word-eq45.false
      | else-not-is_empty-via-else-not-is_empty w ↦ nothing_first _ 45 (omega arith)
          (eqb-true _ _ (sym c.is_empty.ensures ∙ w.if-not-is_empty.false))
    ]) (sym c.in_default.is ∙ c.read_number.ensures.value)

pub returns : goal.returns
returns c =
    digits_read c.args.word.now c.in-Some.number
    (elim c.else-not-is_empty.branch [
      | else-not-is_empty-via-then-not-is_empty+else-word-eq45 w ↦ w.if-word-eq45.false
      | else-not-is_empty-via-else-not-is_empty w ↦ nothing_first _ 45 (omega arith)
          (eqb-true _ _ (sym c.is_empty.ensures ∙ w.if-not-is_empty.false))
    ]) (sym c.in-Some.is ∙ c.read_number.ensures.value)
