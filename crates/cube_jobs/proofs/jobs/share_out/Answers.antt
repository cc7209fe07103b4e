use Rattle.std.proofs.Common.{◌≡◌, ap, arith, rules, ◌∙◌}
use Rattle.std.proofs.lemmas.List.Elements.{All-push}
use Rattle.crossbeam_deque.specs.Injected.{injector_view}
use Rattle.cube_jobs.specs.Jobs.{JobPassOf, new_pass}
use Rattle.cube_jobs.proofs.RuleSteps.{shares}
use Rattle.cube_jobs.proofs.RulePasses.{new_is}
use Rattle.cube_jobs.proofs.jobs.share_out.Goals as goal

pub another-other-requires-clause-rule : goal.another-other-requires-clause-rule
another-other-requires-clause-rule c =
    shares _ _ (omega (arith, c.loop.invariant.shares, c.loop-test.true))

pub loop-preserved : goal.loop-preserved
loop-preserved c =
    let known = c.another-other.ensures.rule in let was = c.loop.invariant in record {
      seat = search rules;
      all_shares = ap (λ v. v.all_shares) known.0 ∙ was.all_shares;
      shares = omega (arith, ap (λ v. v.shares) known.0, was.shares, c.loop-test.true);
      sections = ap (λ v. v.sections) known.0 ∙ was.sections;
      claims = ap (λ v. v.claims) known.0 ∙ was.claims;
      count = omega (arith, c.push_reserved.ensures.len, was.count);
      room = omega (arith, c.push_reserved.ensures.capacity, was.room);
      new =
          rw c.push_reserved.ensures.items
          (All-push (λ (p : JobPassOf). p
          ≡ new_pass record {
            queue = c.args.queue.now.queue;
            sections = (injector_view c.args.seat).sections;
            passes = c.args.passes;
          }) _ _ was.new
          (new_is _ _ _ _ _ c.unused.ensures (ap (λ v. v.sections) known.1 ∙ was.sections)
          (ap (λ v. v.all_shares) known.1 ∙ was.all_shares) c.another-other.ensures.same.2.0.0
          c.another-other.ensures.same.2.0.1));
    }

pub returns-clause-new : goal.returns-clause-new
returns-clause-new c =
    rw c.push_reserved-2.ensures.items
    (All-push (λ (p : JobPassOf). p
    ≡ new_pass record {
      queue = c.args.queue.now.queue;
      sections = (injector_view c.args.seat).sections;
      passes = c.args.passes;
    }) _ _ c.loop.invariant.new
    (new_is _ _ _ _ _ c.unused-2.ensures c.loop.invariant.sections c.loop.invariant.all_shares
    c.loop.invariant.seat.0.0 c.loop.invariant.seat.0.1))
