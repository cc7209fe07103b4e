use Rattle.std.proofs.Common.{◌≡◌, ◌∙◌, ◌+◌, [], List, ℕ, length, take, rules, sym, ap, subst}
use Rattle.std.proofs.lemmas.List.{with_items_is}
use Rattle.byte_flow.specs.Device.{HasGiven}
use Rattle.byte_flow.specs.Lines.{IsBegunFurther}
use Rattle.byte_flow.specs.Inner.Lines.{IsReadBehind}
use Rattle.byte_flow.proofs.DeviceGiven.{given_none}
use Rattle.byte_flow.proofs.LinesFilled.{as_lines, begun_behind, begun_same}
use Rattle.byte_flow.proofs.lines.LineBuffer.read_more.Goals as goal

pub returns-in_err-make_room-clause-kept : goal.returns-in_err-make_room-clause-kept
returns-in_err-make_room-clause-kept g c =
    let at = g.S.Stream.gives c.args.source.now in
    let is : IsBegunFurther at at c.args.self.now.begun
    (as_lines c.make_room.new.room.items c.self.inside.block c.self.inside.filled) =
    begun_same at at c.self.inside.room.items c.make_room.new.room.items c.self.inside.block
    c.self.inside.filled c.args.self.now c.self.invariant.0 c.self.invariant.1 c.self.view_is
    c.requires.none (given_none at) c.make_room.ensures.same in search (rules, is)

pub returns-in_err-count-clause-kept : goal.returns-in_err-count-clause-kept
returns-in_err-count-clause-kept g c =
    let before = g.S.Stream.gives c.args.source.now in
    let after = g.S.Stream.gives c.read_at.new.source in
    let filled = c.self.inside.filled in
    let long : length c.read_at.new.room ≡ c.make_room.new.room.len = search rules in
    let kept : HasGiven before after []
    × (take filled c.read_at.new.room ≡ take filled c.deref_mut.result.now) = search rules in
    let same : take filled c.read_at.new.room ≡ take filled c.self.inside.room.items =
    kept.1 ∙ ap (take filled) c.deref_mut.ensures.value ∙ c.make_room.ensures.same in
    let is =
    subst (λ (room : List ℕ). IsBegunFurther before after c.args.self.now.begun
    (as_lines room c.self.inside.block filled))
    (sym (with_items_is c.make_room.new.room c.read_at.new.room long))
    (begun_same before after c.self.inside.room.items c.read_at.new.room c.self.inside.block filled
    c.args.self.now c.self.invariant.0 c.self.invariant.1 c.self.view_is c.requires.none kept.0
    same) in search (rules, is)

pub returns-clause-read : goal.returns-clause-read
returns-clause-read g c =
    let before = g.S.Stream.gives c.args.source.now in
    let after = g.S.Stream.gives c.read_at.new.source in
    let filled = c.self.inside.filled in
    let long : length c.read_at.new.room ≡ c.make_room.new.room.len = search rules in
    subst (λ (room : List ℕ). IsReadBehind before after c.args.self.now
    (as_lines room c.self.inside.block (filled + c.in_ok-count.count)) c.in_ok-count.count)
    (sym (with_items_is c.make_room.new.room c.read_at.new.room long))
    (begun_behind before after c.self.inside.room.items c.deref_mut.result.now
    c.read_at.new.room c.self.inside.block filled c.in_ok-count.count c.args.self.now
    c.self.invariant.0 c.self.invariant.1 c.self.view_is c.requires.none
    (ap (take filled) c.deref_mut.ensures.value ∙ c.make_room.ensures.same) (search rules)
    c.in_ok-count.ensures.read)
