use Rattle.std.proofs.Common.{false, refl, sym, ap, ◌∙◌, drop, ◌+◌, arith}
use Rattle.std.proofs.lemmas.List.{at_drop_all, at_drop_more}
use Rattle.hint_check.specs.Inner.Assignment.{set_of}
use Rattle.hint_check.specs.Inner.Blocks.{clause_of}
use Rattle.hint_check.specs.Inner.Needed.{seen_after}
use Rattle.hint_check.proofs.AdditionCandidates.{seen-start, seen-met, seen-end}
use Rattle.hint_check.proofs.tautology.holds_with_none_true.Goals as goal

pub loop-block-init : goal.loop-block-init
loop-block-init c = record {
  seen = sym (ap (seen_after (set_of c.args.reached.now) c.args.lit false false)
      c.blocks-2.ensures ∙ seen-start (set_of c.args.reached.now) c.args.lit c.args.clause.now);
  none = refl;
}

pub returns-then-seen : goal.returns-then-seen
returns-then-seen c =
    let set = set_of c.args.reached.now in
    let lit = c.args.lit in
    let before = c.loop-block.seen in
    let found = c.seen_with-seen-in-loop-block-3.result in
    let blocks = c.blocks-2.result.list.now in
    let i = c.loop-block.block-index in
    let rest = clause_of (drop (i + 1) blocks) in
    sym (c.loop-block.invariant.seen
    ∙ at_drop_more (λ bs. seen_after set lit before.held before.met (clause_of bs)) blocks i _
    c.loop-block-test.true
    ∙ sym (c.seen_with-seen-in-loop-block-3.ensures rest
    ∙ c.seen_with-seen-in-loop-block-2.ensures _ ∙ c.seen_with-seen-in-loop-block.ensures _
    ∙ c.seen_with-seen.ensures _)
    ∙ ap (λ met. seen_after set lit found.held met rest) c.if-seen.true
    ∙ seen-met set lit found.held rest)

pub returns : goal.returns
returns c =
    let set = set_of c.args.reached.now in
    let lit = c.args.lit in
    let held = c.loop-block.seen.held in
    sym (c.loop-block.invariant.seen
    ∙ ap (λ met. seen_after set lit held met
    (clause_of (drop c.loop-block.block-index c.blocks-2.result.list.now)))
    c.loop-block.invariant.none
    ∙ at_drop_all (λ blocks. seen_after set lit held false (clause_of blocks))
    c.blocks-2.result.list.now c.loop-block.block-index (omega arith)
    ∙ seen-end set lit held)
