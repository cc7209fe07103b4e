use Rattle.std.proofs.Common.{sym, ◌∙◌, arith}
use Rattle.std.proofs.lemmas.Bool.{eqb-true}
use Rattle.std.proofs.lemmas.List.{take_rest}
use Rattle.case_core.proofs.LabelNames.{leaf_missing, leaf_cube, nothing_first}
use Rattle.case_core.proofs.label.leaf_named.Goals as goal
use Rattle.case_core.proofs.label.leaf_named.Goals.{else-not-is_empty-via-then-not-is_empty+else-word-eq109}
use Rattle.case_core.proofs.label.leaf_named.Goals.{else-not-is_empty-via-else-not-is_empty}

pub returns-then-word-eq109-clause-ok : goal.returns-then-word-eq109-clause-ok
returns-then-word-eq109-clause-ok c =
    rw (leaf_missing c.args.word.now c.if-word-eq109.true)
    (rw take_rest at c.missing_named.ensures.ok)

pub returns-then-word-eq109-clause-err : goal.returns-then-word-eq109-clause-err
returns-then-word-eq109-clause-err c =
    rw (leaf_missing c.args.word.now c.if-word-eq109.true)
    (rw take_rest at c.missing_named.ensures.err)

pub returns-else-not-is_empty-clause-ok : goal.returns-else-not-is_empty-clause-ok
returns-else-not-is_empty-clause-ok c = rw (leaf_cube c.args.word.now (
    elim c.else-not-is_empty.branch [
      | else-not-is_empty-via-then-not-is_empty+else-word-eq109 w ↦ w.if-word-eq109.false
      | else-not-is_empty-via-else-not-is_empty w ↦ nothing_first _ 109 (omega arith)
          (eqb-true _ _ (sym c.is_empty.ensures ∙ w.if-not-is_empty.false))
    ])) c.cube_named.ensures.ok

pub returns-else-not-is_empty-clause-err : goal.returns-else-not-is_empty-clause-err
returns-else-not-is_empty-clause-err c = rw (leaf_cube c.args.word.now (
    elim c.else-not-is_empty.branch [
      | else-not-is_empty-via-then-not-is_empty+else-word-eq109 w ↦ w.if-word-eq109.false
      | else-not-is_empty-via-else-not-is_empty w ↦ nothing_first _ 109 (omega arith)
          (eqb-true _ _ (sym c.is_empty.ensures ∙ w.if-not-is_empty.false))
    ])) c.cube_named.ensures.err
