use Rattle.std.proofs.Common.{[], ◌∷◌, ◌++◌, sym, ◌∙◌, ap, arith}
use Rattle.cnf_text.proofs.NumbersDigits.{large_number, other_symbol}
use Rattle.case_core.proofs.LabelNames.{literal_read, large_read, first_symbol, small_number}
use Rattle.case_core.proofs.label.read_path.Goals as goal

pub loop-word-preserved-then-number-from : goal.loop-word-preserved-then-number-from
loop-word-preserved-then-number-from c =
    let large =
    large_number _ c.in-Some-read_number.number
    (sym c.in-Some-read_number.is ∙ c.read_number.ensures.value) (omega arith) in
    large_read _ _ _ _ _ large.0 c.loop-word.invariant
    (first_symbol _ _ c.in-Some.word.now large.0 c.in-Some.ensures
    (other_symbol c.in-Some.word.now (sym (rw c.as_slice.ensures at c.eq.ensures) ∙ c.if-eq.false)
    ∙ large.1)) large.2

pub loop-word-preserved : goal.loop-word-preserved
loop-word-preserved c =
    literal_read _ _ _ _ _ _ _ c.loop-word.invariant
    (first_symbol _ _ c.in-Some.word.now _ c.in-Some.ensures
    (other_symbol c.in-Some.word.now (sym (rw c.as_slice.ensures at c.eq.ensures) ∙ c.if-eq.false)
    ∙ small_number _ c.in-Some-read_number.number
    (sym c.in-Some-read_number.is ∙ c.read_number.ensures.value) c.if-number-eq0.false
    (omega arith)))
    (c.in_ok-push.ensures.items ∙ ap (λ l. c.loop-word.path.items ++ l ∷ []) c.from_parts.ensures)
