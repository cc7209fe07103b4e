use Rattle.std.proofs.Common.{◌∙◌, arith}
use Rattle.own_threads.proofs.Halves.{forwards}
use Rattle.own_threads.proofs.sections.post_first_half.Goals as goal

pub loop-place-preserved : goal.loop-place-preserved
loop-place-preserved g c = record {
  same = c.post_section.ensures.same ∙ c.loop-place.invariant.same;
  own = c.post_section.ensures.own;
  free = c.post_section.ensures.free;
  seen = forwards _ _ 0 c.loop-place.place c.post_section.ensures.stays c.loop-place.invariant.seen
      c.in_ok-post_section.ensures.seen;
}

pub returns : goal.returns
returns g c = record {
  own = c.loop-place.invariant.own;
  free = c.loop-place.invariant.free;
  seen = λ place from end.
      c.loop-place.invariant.seen place from (omega (arith, end, c.loop-place-test.false));
}
