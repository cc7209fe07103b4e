use Rattle.std.proofs.Common.{arith, inl, inr}
use Rattle.split_tree.specs.SplitTree.{SplitsOn}
use Rattle.split_tree.specs.Inner.Grow.{cubes_ahead}
use Rattle.split_tree.proofs.GrowWays.{first_ahead}
use Rattle.split_tree.proofs.SecondAlike.{apart_from_first, ahead_length, ahead_take, ahead_at}
use Rattle.split_tree.proofs.SecondAlike.{nothing_first}
use Rattle.split_tree.proofs.second.alike_len.Goals as goal

pub returns-in_default : goal.returns-in_default
returns-in_default c = record {
  within = omega arith;
  alike = inl (omega arith);
  next = λ d h. absurd (nothing_first c.args.cubes.now d c.in_default.ensures.value h);
}

pub returns-in-Some-first : goal.returns-in-Some-first
returns-in-Some-first c = record {
  within = omega (arith, ahead_length c.args.cubes.now, c.split_len.ensures.within);
  alike = inr (
    c.variable.result,
    rw (ahead_take c.split_len.result c.args.cubes.now) c.split_len.ensures.split,
  );
  next = λ d h.
      apart_from_first (cubes_ahead c.args.cubes.now) c.split_len.result _ d
      c.in-Some-first.literal.now
      (first_ahead c.args.cubes.now c.in-Some.first.now c.in-Some.ensures.value)
      c.in-Some-first.ensures.value h
      (ahead_at (SplitsOn c.in-Some-first.literal.now.variable) c.args.cubes.now
      c.split_len.result d h
      (λ a found split. c.split_len.ensures.next a found (rw c.variable.ensures.value split)));
}
