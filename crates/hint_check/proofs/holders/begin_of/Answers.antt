use Rattle.std.proofs.Common.{◌-◌, ap, arith, ltb, rules}
use Rattle.std.proofs.lemmas.Bool.{ltb-true}
use Rattle.std.proofs.lemmas.List.{get_or_default}
use Rattle.std.proofs.lemmas.List.Sorted.{IsPartitionPoint-from_clause, IsPartitionedBy-ltb}
use Rattle.hint_check.proofs.holders.begin_of.Goals as goal
use Rattle.hint_check.proofs.holders.begin_of.Goals.{else-begin-gt0-via-else-begin-gt0}
use Rattle.hint_check.proofs.holders.begin_of.Goals.{else-begin-gt0-via-then-begin-gt0+else-list-begin}

pub returns-then-list-begin-clause-before : goal.returns-then-list-begin-clause-before
returns-then-list-begin-clause-before c = λ holder some.
    let is = IsPartitionPoint-from_clause (λ h. ltb h.number c.args.number) _ _
    c.partition_point.ensures.partitioned
    (IsPartitionedBy-ltb (λ h. h.number) _ c.args.number c.requires)
    (λ a r q k. search rules) in
    ltb-true _ _ (is.0 (c.partition_point.result - 1) holder (omega arith) (omega arith))

pub returns-clause-before : goal.returns-clause-before
returns-clause-before c = λ holder some.
    elim c.else-begin-gt0.branch [
      | else-begin-gt0-via-then-begin-gt0+else-list-begin w ↦ omega (
        arith,
        w.if-list-begin.false,
        ap (λ h. h.number) (get_or_default c.args.list.now (c.min-begin.result - 1) holder
            (record { number = 0; id = 0 }) (omega arith)),
      )
      | else-begin-gt0-via-else-begin-gt0 w ↦ absurd (omega (arith, some, w.if-begin-gt0.false))
    ]
