use Rattle.std.proofs.Common.{sym, ◌∙◌, arith}
use Rattle.std.proofs.lemmas.Bool.{ne_eqb}
use Rattle.cnf_text.proofs.WordsLeft.{none_left, behind_end, behind_blank}
use Rattle.cnf_text.proofs.words.next_in_lines.Goals as goal

pub returns-in_default : goal.returns-in_default
returns-in_default c =
    sym c.loop-left.invariant ∙ none_left c.loop-left.left.now c.in_default.len_below

pub loop-left-preserved-then-first-eq10 : goal.loop-left-preserved-then-first-eq10
loop-left-preserved-then-first-eq10 c =
    c.uncommented-left.ensures.words
    ∙ behind_end c.loop-left.left.now (omega arith) c.if-first-eq10.true ∙ c.loop-left.invariant

pub loop-left-preserved : goal.loop-left-preserved
loop-left-preserved c =
    behind_blank c.loop-left.left.now (omega arith)
    (sym c.is_blank.ensures ∙ c.if-not-is_blank.false) (ne_eqb _ 10 c.if-first-eq10.false)
    ∙ c.loop-left.invariant
