use Rattle.std.proofs.Common.{sym, ap, ◌∙◌, arith}
use Rattle.std.proofs.lemmas.List.{at_drop_all}
use Rattle.hint_check.specs.Propagation.{unfalsified}
use Rattle.hint_check.specs.Inner.Stamps.{is_shown}
use Rattle.hint_check.specs.Inner.Blocks.{clause_of, kept}
use Rattle.hint_check.proofs.PropagationSteps.{unfalsified-none}
use Rattle.hint_check.proofs.propagate.count_left.Goals as goal

pub count_block-tally-requires-clause-within : goal.count_block-tally-requires-clause-within
count_block-tally-requires-clause-within c =
    c.requires.within c.loop-block.block-index _ c.loop-block-test.true

pub returns-clause-none : goal.returns-clause-none
returns-clause-none c = λ none.
    let set = is_shown c.args.at_hand.stamps.now c.args.at_hand.epoch in
    sym (c.loop-block.invariant.counts.none none)
    ∙ at_drop_all (λ blocks. unfalsified set (clause_of blocks)) c.args.blocks.now
    c.loop-block.block-index (omega arith)
    ∙ unfalsified-none set

pub returns-clause-one : goal.returns-clause-one
returns-clause-one c = λ one.
    let set = is_shown c.args.at_hand.stamps.now c.args.at_hand.epoch in
    sym (c.loop-block.invariant.counts.one one)
    ∙ ap (kept c.loop-block.tally.last)
    (at_drop_all (λ blocks. unfalsified set (clause_of blocks)) c.args.blocks.now
    c.loop-block.block-index (omega arith)
    ∙ unfalsified-none set)
