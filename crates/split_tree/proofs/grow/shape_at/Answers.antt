use Rattle.std.proofs.Common.{arith}
use Rattle.split_tree.proofs.GroupStretch.{some_led, shared_splits, nothing_shared}
use Rattle.split_tree.proofs.grow.shape_at.Goals as goal

pub returns-in-Some-clause-shape : goal.returns-in-Some-clause-shape
returns-in-Some-clause-shape c =
    let group = c.args.group.now in
    rw c.variable-variable.ensures.value (
      some_led group.shared.now group.cubes.items (λ none. grind (arith)),
      shared_splits group.shared.now group.cubes.items c.in-Some.next.now c.in-Some.ensures.value,
    )

pub returns-in-None-clause-shape : goal.returns-in-None-clause-shape
returns-in-None-clause-shape c =
    let group = c.args.group.now in
    rw (nothing_shared group.shared.now group.cubes.items c.in-None.ensures.value)
    (rw c.deref.ensures.value at c.shape_of.ensures.shape)
