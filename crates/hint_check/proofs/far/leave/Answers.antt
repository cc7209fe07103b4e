use Rattle.std.proofs.Common.{◌≡◌, None, Some, nat_eq, cond, refl}
use Rattle.std.proofs.Common.{sym, ap, ◌∙◌}
use Rattle.std.specs.Map.{lookup}
use Rattle.hint_check.specs.declared.far.Known.{Known}
use Rattle.hint_check.specs.Inner.Far.{nothing, placed}
use Rattle.hint_check.proofs.FarKnown.{nothing-told, span-nothing, by_none, seat-lookup, lookup-set}
use Rattle.hint_check.proofs.FarKnown.{InPlace-set, ends-set, none-left}
use Rattle.hint_check.proofs.far.leave.Goals as goal

abbrev none : Known
none = record { id = 0; span = record { start = 0; end = 0 } }

pub returns-in-Some-clause-known : goal.returns-in-Some-clause-known
returns-in-Some-clause-known c =
    let own = rw c.deref.ensures.value at c.in-Some.ensures.own in
    ap (λ (k : Known). Some k.span) c.index.ensures
    ∙ seat-lookup c.args.known.now.items c.args.shift c.args.id c.in-Some.seat c.index.result.now
    own

pub returns-in-Some-clause-left : goal.returns-in-Some-clause-left
returns-in-Some-clause-left c q =
    let known = c.args.known.now.items in
    let own = rw c.deref.ensures.value at c.in-Some.ensures.own in
    lookup-set known c.args.shift c.args.id c.in-Some.seat nothing own.0 nothing-told q
    ∙ ap (λ o. cond (nat_eq c.args.id q) o (lookup (nat_eq q) (placed known)))
    (span-nothing c.args.id)

pub returns-in-Some-clause-in_place : goal.returns-in-Some-clause-in_place
returns-in-Some-clause-in_place c =
    let own = rw c.deref.ensures.value at c.in-Some.ensures.own in
    InPlace-set c.args.known.now.items c.args.shift c.args.id c.in-Some.seat nothing own.0
    nothing-told c.requires.in_place

pub returns-in-Some-clause-ends : goal.returns-in-Some-clause-ends
returns-in-Some-clause-ends c count =
    ends-set c.args.known.now.items c.in-Some.seat nothing count nothing-told

absent : (c : goal.In-None) → lookup (nat_eq c.args.id) (placed c.args.known.now.items) ≡ None
absent c =
    by_none c.args.known.now.items c.args.id
    (rw c.deref.ensures.value at (c.in-None.ensures.none refl))

pub returns-in-None-clause-known : goal.returns-in-None-clause-known
returns-in-None-clause-known c = sym (absent c)

pub returns-in-None-clause-left : goal.returns-in-None-clause-left
returns-in-None-clause-left c =
    none-left (λ q. lookup (nat_eq q) (placed c.args.known.now.items)) c.args.id (absent c)
