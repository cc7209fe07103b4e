use Rattle.std.proofs.Common.{List, ℕ, subst}
use Rattle.byte_flow.specs.Lines.{IsBegunFurther}
use Rattle.byte_flow.specs.Inner.Lines.{IsReadBehind}
use Rattle.byte_flow.proofs.LinesFilled.{room_last}
use Rattle.byte_flow.proofs.lines.LineBuffer.refill.Goals as goal

pub returns-then-count-eq0-clause-block : goal.returns-then-count-eq0-clause-block
returns-then-count-eq0-clause-block g c =
    let first = g.S.Stream.gives c.args.source.now in
    let before = g.S.Stream.gives c.loop-count.source in
    let after = g.S.Stream.gives c.read_more.new.source in
    room_last first before after c.args.self.now.begun c.self.inside.room.items
    c.self.inside.block c.self.inside.filled c.loop-count.self c.read_more.new.self
    c.self.invariant.0 c.self.invariant.1 c.self.view_is
    (subst (λ (begun : List ℕ). IsBegunFurther first before begun c.loop-count.self)
    c.leave_block.ensures.begun c.loop-count.invariant.read)
    (subst (λ (count : ℕ). IsReadBehind before after c.loop-count.self c.read_more.new.self count)
    c.if-count-eq0.true c.in_ok-count.ensures.read)
