use Rattle.std.proofs.Common.{◌≡◌, None, arith, rules, true}
use Rattle.std.proofs.lemmas.List.Elements.{All-contains, All-push, All-rest}
use Rattle.case_core.specs.Target.{Target}
use Rattle.cube_jobs.specs.Jobs as queue
use Rattle.cube_jobs.specs.Jobs.{JobPassOf}
use Rattle.board_hall.specs.declared.pass.Pass.{Pass}
use Rattle.board_hall.specs.Halls.{shared_of, view_of, IsPassOf}
use Rattle.check_crew.specs.Inner.Apart.{IsListOf}
use Rattle.check_crew.specs.Inner.Crew.{IsHandedBy}
use Rattle.check_crew.proofs.ApartHanded.{list_of}
use Rattle.check_crew.proofs.SeenFindings.{claims_more}
use Rattle.check_crew.proofs.crew.hand_in.Goals as goal

pub loop-shift-preserved : goal.loop-shift-preserved
loop-shift-preserved g c =
    let was = c.loop-shift.invariant in let next = c.in-Some.ensures.steps in
    let step = c.in_ok-add.ensures in let handed = c.loop-shift.handed in
    let crew = c.args.crew in let turns = crew.turns in let site = turns.site in
    let shift = c.in-Some.shift in
    let mine : IsHandedBy crew g.P.TargetProofs.held g.P.TargetProofs.failures shift =
    (rw next.0 at was.rest) 0 shift (omega arith) in record {
      passes_count = omega (arith, step.count.0, next.1, was.passes_count);
      job_passes_count = omega (arith, step.count.1, next.1, was.job_passes_count);
      rest =
          All-rest (IsHandedBy crew g.P.TargetProofs.held g.P.TargetProofs.failures) _ _ _ next.0
          was.rest;
      own =
          rw step.passes
          (All-push (IsPassOf (shared_of turns.site.core.now)) _ _ was.own mine.is.own);
      free =
          rw step.passes
          (All-push (λ (pass : Pass). (view_of pass).owes ≡ None) _ _ was.free mine.is.owes);
      jobs =
          rw step.job_passes
          (All-push (queue.IsJobPassOf turns.jobs.now) _ _ was.jobs mine.is.of_jobs);
      empty =
          rw step.job_passes
          (All-push (λ (pass : JobPassOf). pass.found_empty ≡ true) _ _ was.empty
          (mine.is.empty step.fault));
      seen = rw (step.passes, step.job_passes)
          (claims_more turns.order.now handed.passes.items handed.job_passes.items
          shift.pass shift.job_pass was.seen (mine.is.seen step.fault));
      lists = λ known all.
          rw step.lists
          (All-push (λ list. IsListOf known site.case.now list.items) _ _ (was.lists known all)
          (list_of (shared_of site.core.now) site.case.now (g.P.TargetProofs.held mine.reader) known
          shift.pass shift.examined.items c.requires.ready.case_is mine.is.own
          (mine.is.each step.fault)
          (All-contains
          (λ one. (target : Target) → g.P.TargetProofs.held one target ≡ known target) _
          mine.reader all mine.among)));
    }

pub returns : goal.returns
returns g c =
    let was = c.loop-shift.invariant in record {
      passes_count = search rules;
      job_passes_count = search rules;
      own = was.own;
      free = was.free;
      jobs = was.jobs;
      empty = was.empty;
      seen = was.seen;
      lists = was.lists;
    }
