use Rattle.std.proofs.Common.{◌≡◌, ℕ, None, nat_eq, cond}
use Rattle.std.specs.Map.{lookup}
use Rattle.hint_check.specs.Inner.Far.{placed}
use Rattle.hint_check.proofs.FarKnown.{none-left}
use Rattle.hint_check.proofs.FarSpans.{spans-change, Apart-change, Apart-absent, SpansEndBy-change}
use Rattle.hint_check.proofs.far.take_from_some.Goals as goal

-- ---- out of its seat

-- it was not in the map
absent : (c : goal.After-span_len) → (q : ℕ) →
    lookup (nat_eq q) c.far.inside.map.entries
    ≡ cond (nat_eq c.args.id q) None (lookup (nat_eq q) c.far.inside.map.entries)
absent c =
    let inside = c.far.inside in
    none-left (λ q. lookup (nat_eq q) inside.map.entries) c.args.id
    (Apart-absent (placed inside.known.items) inside.map.entries c.args.id c.in-Some.span
    c.in-Some.ensures.known c.far.invariant.1.1)

pub invariant_of-far : goal.invariant_of-far
invariant_of-far c =
    let seats = placed c.far.inside.known.items in
    let entries = c.far.inside.map.entries in
    let apart = Apart-change seats (placed c.leave.new.known.items) entries entries
    c.args.far.now c.far.view_is c.args.id None None c.leave.ensures.left (absent c) tt
    c.far.invariant.1.1 in
    (c.far.invariant.0, (c.leave.ensures.in_place, apart))

pub returns-in-Some-clause-taken : goal.returns-in-Some-clause-taken
returns-in-Some-clause-taken c =
    let entries = c.far.inside.map.entries in
    spans-change (placed c.far.inside.known.items) (placed c.leave.new.known.items) entries entries
    c.args.far.now c.far.view_is c.args.id None None c.leave.ensures.left (absent c)

pub returns-in-Some-clause-ends : goal.returns-in-Some-clause-ends
returns-in-Some-clause-ends c count =
    let entries = c.far.inside.map.entries in
    SpansEndBy-change (placed c.far.inside.known.items) (placed c.leave.new.known.items) entries
    entries c.args.far.now c.far.view_is count (c.leave.ensures.ends count) (λ k. k)

-- ---- out of the map

pub invariant_of-far-in-None : goal.invariant_of-far-in-None
invariant_of-far-in-None c =
    let seats = placed c.far.inside.known.items in
    let apart = Apart-change seats (placed c.leave.new.known.items) c.far.inside.map.entries
    c.remove.new.map.entries c.args.far.now c.far.view_is c.args.id None None c.leave.ensures.left
    c.remove.ensures.removed tt c.far.invariant.1.1 in
    (c.far.invariant.0, (c.leave.ensures.in_place, apart))

pub returns-in-None-clause-taken : goal.returns-in-None-clause-taken
returns-in-None-clause-taken c =
    spans-change (placed c.far.inside.known.items) (placed c.leave.new.known.items)
    c.far.inside.map.entries c.remove.new.map.entries c.args.far.now c.far.view_is c.args.id None
    None c.leave.ensures.left c.remove.ensures.removed

pub returns-in-None-clause-ends : goal.returns-in-None-clause-ends
returns-in-None-clause-ends c count =
    SpansEndBy-change (placed c.far.inside.known.items) (placed c.leave.new.known.items)
    c.far.inside.map.entries c.remove.new.map.entries c.args.far.now c.far.view_is count
    (c.leave.ensures.ends count) (c.remove.ensures.ends count)
