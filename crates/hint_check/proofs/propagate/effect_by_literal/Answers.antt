use Rattle.std.proofs.Common.{[], sym, ap, ◌∙◌, arith}
use Rattle.std.proofs.lemmas.List.{at_drop_all}
use Rattle.hint_check.specs.Inner.Assignment.{set_of}
use Rattle.hint_check.specs.Inner.Blocks.{clause_of}
use Rattle.hint_check.specs.Inner.Propagate.{effect_open}
use Rattle.hint_check.proofs.PropagationSteps.{effect_open-start, effect_open-none, effect_open-one}
use Rattle.hint_check.proofs.PropagationSteps.{effect_open-many}
use Rattle.hint_check.proofs.propagate.effect_by_literal.Goals as goal

pub loop-block-init : goal.loop-block-init
loop-block-init c = sym
    (effect_open-start (set_of c.args.assignment.now) (clause_of c.args.blocks.now))

pub returns-in-None : goal.returns-in-None
returns-in-None c =
    let set = set_of c.args.assignment.now in
    sym (c.loop-block.invariant
    ∙ at_drop_all (λ blocks. effect_open set c.loop-block.left (clause_of blocks)) c.args.blocks.now
    c.loop-block.block-index (omega arith)
    ∙ ap (λ state. effect_open set state []) c.in-None.is ∙ effect_open-none set)

pub returns-in-One : goal.returns-in-One
returns-in-One c =
    let set = set_of c.args.assignment.now in
    sym (c.loop-block.invariant
    ∙ at_drop_all (λ blocks. effect_open set c.loop-block.left (clause_of blocks)) c.args.blocks.now
    c.loop-block.block-index (omega arith)
    ∙ ap (λ state. effect_open set state []) c.in-One.is ∙ effect_open-one set c.in-One.lit)

pub returns-in-More : goal.returns-in-More
returns-in-More c =
    let set = set_of c.args.assignment.now in
    sym (c.loop-block.invariant
    ∙ at_drop_all (λ blocks. effect_open set c.loop-block.left (clause_of blocks)) c.args.blocks.now
    c.loop-block.block-index (omega arith)
    ∙ ap (λ state. effect_open set state []) c.in-More.is ∙ effect_open-many set)
