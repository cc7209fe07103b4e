use Rattle.std.proofs.Common.{◌≡◌, All, arith, rules, Contains, Some}
use Rattle.std.proofs.lemmas.List.Elements.{All-nil, All-pop, All-push, All-rest}
use Rattle.std.proofs.lemmas.List.Elements.{All-contains_itself}
use Rattle.cube_jobs.specs.Jobs.{JobPassOf, new_pass}
use Rattle.board_hall.specs.Halls.{shared_of, IsNewPass}
use Rattle.check_crew.specs.Inner.Crew.{IsDealtBy}
use Rattle.check_crew.proofs.crew.deal.Goals as goal

pub loop-one-init : goal.loop-one-init
loop-one-init g c =
    let all : All (Contains c.args.crew.readers.now.value.items) c.args.proofs.items =
    rw c.requires.readers (All-contains_itself c.args.proofs.items) in record {
      passes_left = search rules;
      job_passes_left = search rules;
      dealt = search rules;
      room = search rules;
      worker = search rules;
      passes = c.requires.passes;
      job_passes = c.requires.job_passes;
      fresh = rw c.into_iter-one-iterator.ensures.into_iter_gives.0 c.requires.fresh;
      among = rw c.into_iter-one-iterator.ensures.into_iter_gives.0 all;
      jobs = rw c.in_ok-jobs.ensures.items (All-nil _);
    }

pub loop-one-preserved : goal.loop-one-preserved
loop-one-preserved g c =
    let was = c.loop-one.invariant in let next = c.in-Some.ensures.steps in
    let crew = c.args.crew in
    let pass =
    All-pop (IsNewPass (shared_of crew.turns.site.core.now)) _ _ (Some c.in-Some-pop.pass)
    c.in-Some-pop.ensures.items was.passes in
    let job_pass =
    All-pop (λ (pass : JobPassOf). pass ≡ new_pass crew.turns.jobs.now) _ _
    (Some c.in-Some-pop-2.job_pass) c.in-Some-pop-2.ensures.items was.job_passes in record {
      passes_left = omega (arith, c.in-Some-pop.ensures.len, next.1, was.passes_left);
      job_passes_left = omega (arith, c.in-Some-pop-2.ensures.len, next.1, was.job_passes_left);
      dealt = omega (arith, c.push_reserved.ensures.len, next.1, was.dealt);
      room = omega (arith, c.push_reserved.ensures.capacity, was.room);
      worker = omega (arith, next.1, was.worker);
      passes = pass.0;
      job_passes = job_pass.0;
      fresh = All-rest (λ one. g.P.TargetProofs.failures one ≡ 0) _ _ _ next.0 was.fresh;
      among = All-rest (Contains crew.readers.now.value.items) _ _ _ next.0 was.among;
      jobs =
          rw c.push_reserved.ensures.items
          (All-push (IsDealtBy crew g.P.TargetProofs.failures) _ _ was.jobs (record {
            is = record {
              ready = c.requires.ready;
              pass = pass.1;
              job_pass = job_pass.1;
              fresh = (rw next.0 at was.fresh) 0 c.in-Some.one (omega arith);
            };
            turns = search rules;
            among = (rw next.0 at was.among) 0 c.in-Some.one (omega arith);
          }));
    }
