use Rattle.std.proofs.Common.{◌≡◌, true, false, refl}
use Rattle.split_tree.specs.Inner.Grow.{cubes_ahead}
use Rattle.split_tree.proofs.GrowWays.{some_ahead, alone, ended_clash, all_split, first_ahead}
use Rattle.split_tree.proofs.grow.shape_of.Goals as goal

pub returns-then-cubes-eq1-clause-shape : goal.returns-then-cubes-eq1-clause-shape
returns-then-cubes-eq1-clause-shape c =
    alone c.args.cubes.now c.in-Some.first.now c.in-Some.ensures.value
    c.in_default-first.ensures.value c.if-cubes-eq1.true

pub returns-else-cubes-eq1-clause-shape : goal.returns-else-cubes-eq1-clause-shape
returns-else-cubes-eq1-clause-shape c =
    ended_clash c.args.cubes.now c.in-Some.first.now c.in-Some.ensures.value
    c.in_default-first.ensures.value c.if-cubes-eq1.false

pub returns-then-all_split_on-clause-shape : goal.returns-then-all_split_on-clause-shape
returns-then-all_split_on-clause-shape c = (
  some_ahead c.args.cubes.now c.in-Some.first.now c.in-Some.ensures.value,
  c.if-all_split_on.ensures.0 refl,
)

pub returns-else-all_split_on-clause-shape : goal.returns-else-all_split_on-clause-shape
returns-else-all_split_on-clause-shape c fit =
    let k : false ≡ true = c.if-all_split_on.ensures.1
    (rw c.variable-variable.ensures.value
    (all_split (cubes_ahead c.args.cubes.now) _ c.in-Some-first.literal.now
    (first_ahead c.args.cubes.now c.in-Some.first.now c.in-Some.ensures.value)
    c.in-Some-first.ensures.value fit)) in
    cc
