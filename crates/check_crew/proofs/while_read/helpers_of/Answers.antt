use Rattle.std.proofs.Common.{arith, rules}
use Rattle.std.proofs.lemmas.List.Elements.{All-nil, All-push, All-rest}
use Rattle.board_hall.specs.Halls.{shared_of, IsNewPass}
use Rattle.check_crew.specs.Inner.WhileRead.{IsHelper}
use Rattle.check_crew.proofs.WhileReadRun.{new_free}
use Rattle.check_crew.proofs.while_read.helpers_of.Goals as goal

pub loop-pass-init : goal.loop-pass-init
loop-pass-init g c = record {
  made = search rules;
  room = search rules;
  worker = search rules;
  rest = rw c.into_iter-pass-iterator.ensures.into_iter_gives.0 c.requires.passes;
  free = rw c.in_ok-helpers.ensures.items (All-nil _);
}

pub loop-pass-preserved : goal.loop-pass-preserved
loop-pass-preserved g c =
    let was = c.loop-pass.invariant in let next = c.in-Some.ensures.steps in
    let new = (rw next.0 at was.rest) 0 c.in-Some.pass (omega arith) in record {
      made = omega (arith, c.push_reserved.ensures.len, next.1, was.made);
      room = omega (arith, c.push_reserved.ensures.capacity, was.room);
      worker = omega (arith, c.push_reserved.ensures.len, was.worker);
      rest = All-rest (IsNewPass (shared_of c.args.site.core.now)) _ _ _ next.0 was.rest;
      free =
          rw c.push_reserved.ensures.items
          (All-push (IsHelper g.J.NamesCase.case) _ _ was.free (record {
            site = c.requires.site;
            free = new_free c.args.site c.in-Some.pass new;
          }));
    }
