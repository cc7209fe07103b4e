use Rattle.std.proofs.Common.{◌≡◌, ◌++◌, List, None, Some, nat_eq, cond, refl, sym, ap, ◌∙◌, subst}
use Rattle.hint_check.specs.declared.far.Known.{Known}
use Rattle.hint_check.specs.Inner.Far.{placed, Apart}
use Rattle.hint_check.specs.Inner.Table.{SpansEndBy}
use Rattle.hint_check.proofs.FarSpans.{spans-change, Apart-change, SpansEndBy-change}
use Rattle.hint_check.proofs.TableEntries.{updated, SpansEndBy-put}
use Rattle.hint_check.proofs.far.put_far.Goals as goal

-- ---- in a seat

pub invariant_of-far : goal.invariant_of-far
invariant_of-far c =
    let seats = placed c.far.inside.known.items in
    let apart = Apart-change seats (placed c.stand.new.known.items) c.far.inside.map.entries
    c.remove-removed.new.map.entries _ c.far.view_is c.args.id (Some c.args.span) None
    c.in-Some.ensures.put c.remove-removed.ensures.removed refl c.far.invariant.1.1 in
    (c.far.invariant.0, (c.stand.ensures.in_place, apart))

pub returns-in-Some-clause-put : goal.returns-in-Some-clause-put
returns-in-Some-clause-put c q =
    spans-change (placed c.far.inside.known.items) (placed c.stand.new.known.items)
    c.far.inside.map.entries c.remove-removed.new.map.entries _ c.far.view_is c.args.id
    (Some c.args.span) None c.in-Some.ensures.put c.remove-removed.ensures.removed q
    ∙ ap (cond (nat_eq c.args.id q) (Some c.args.span)) (c.make_places.ensures.same q)

pub returns-in-Some-clause-ends : goal.returns-in-Some-clause-ends
returns-in-Some-clause-ends c count h ordered within =
    SpansEndBy-change (placed c.far.inside.known.items) (placed c.stand.new.known.items)
    c.far.inside.map.entries c.remove-removed.new.map.entries _ c.far.view_is count
    (λ k. c.stand.ensures.ends count k within) (c.remove-removed.ensures.ends count)
    (c.make_places.ensures.ends count h)

-- ---- in the map

-- nothing else was put in a seat
view : (c : goal.After-saturating_add-in-None) →
    placed c.stand.new.known.items ++ c.far.inside.map.entries ≡ c.make_places.new.self
view c =
    ap (λ (ks : List Known). placed ks ++ c.far.inside.map.entries) (c.in-None.ensures.none refl)
    ∙ c.far.view_is

pub invariant_of-far-in-None : goal.invariant_of-far-in-None
invariant_of-far-in-None c =
    let before = c.far.inside.map.entries in
    let after = c.insert.new.self.entries in
    let apart = Apart-change (placed c.stand.new.known.items) (placed c.leave-left.new.known.items)
    before after _ (view c) c.args.id None (Some c.args.span) c.leave-left.ensures.left
    (updated before after c.args.id (Some c.args.span) c.in_ok-replaced-in-None.ensures.updates.0)
    tt (subst (λ (ks : List Known). Apart (placed ks) before) (sym (c.in-None.ensures.none refl))
    c.far.invariant.1.1) in
    (c.far.invariant.0, (c.leave-left.ensures.in_place, apart))

pub returns-in_ok-replaced-in-None-clause-put : goal.returns-in_ok-replaced-in-None-clause-put
returns-in_ok-replaced-in-None-clause-put c q =
    let before = c.far.inside.map.entries in
    let after = c.insert.new.self.entries in
    spans-change (placed c.stand.new.known.items) (placed c.leave-left.new.known.items) before
    after _ (view c) c.args.id None (Some c.args.span) c.leave-left.ensures.left
    (updated before after c.args.id (Some c.args.span) c.in_ok-replaced-in-None.ensures.updates.0) q
    ∙ ap (cond (nat_eq c.args.id q) (Some c.args.span)) (c.make_places.ensures.same q)

pub returns-in_ok-replaced-in-None-clause-ends : goal.returns-in_ok-replaced-in-None-clause-ends
returns-in_ok-replaced-in-None-clause-ends c count h ordered within =
    let before = c.far.inside.map.entries in
    SpansEndBy-change (placed c.stand.new.known.items) (placed c.leave-left.new.known.items) before
    c.insert.new.self.entries _ (view c) count (c.leave-left.ensures.ends count)
    (λ k. subst (λ es. SpansEndBy es count) (sym c.in_ok-replaced-in-None.ensures.entries)
    (SpansEndBy-put before c.args.id c.args.span count k ordered within))
    (c.make_places.ensures.ends count h)
