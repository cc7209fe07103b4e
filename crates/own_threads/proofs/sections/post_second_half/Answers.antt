use Rattle.std.proofs.Common.{◌-◌, ◌∙◌, length, arith}
use Rattle.board_hall.specs.Halls.{shared_of}
use Rattle.check_crew.proofs.SeenSections.{as_many}
use Rattle.own_threads.proofs.Halves.{none_posted, backwards}
use Rattle.own_threads.proofs.sections.post_second_half.Goals as goal

pub loop-place-preserved : goal.loop-place-preserved
loop-place-preserved g c = record {
  same = c.post_section.ensures.same ∙ c.loop-place.invariant.same;
  own = c.post_section.ensures.own;
  free = c.post_section.ensures.free;
  seen =
      backwards _ _ (c.loop-place.place - 1) c.loop-place.place _
      (omega (arith, c.loop-place-test.true))
      c.post_section.ensures.stays c.loop-place.invariant.seen c.in_ok-post_section.ensures.seen;
}

pub loop-place-init : goal.loop-place-init
loop-place-init g c =
    let posted = none_posted (shared_of c.args.desk.core.now) (length c.sections-place.result.now)
    (length c.args.desk.case.now.sections) c.args.pass c.requires.pass
    (as_many c.args.desk.case.now c.sections-place.result.now
    c.sections-place.ensures.targets_are) in
    record {
      same = c.in_ok-examiner.ensures;
      own = posted.own;
      free = posted.free;
      seen = posted.seen;
    }

pub returns : goal.returns
returns g c = record {
  own = c.loop-place.invariant.own;
  free = c.loop-place.invariant.free;
  seen = λ place from end.
      c.loop-place.invariant.seen place (omega (arith, from, c.loop-place-test.false)) end;
}
