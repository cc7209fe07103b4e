use Rattle.std.proofs.Common.{ap, ◌∙◌, nat_eq, cond, refl}
use Rattle.std.specs.Map.{lookup}
use Rattle.hint_check.specs.Inner.Far.{placed}
use Rattle.hint_check.proofs.FarKnown.{span-own, lookup-set, InPlace-set, ends-set}
use Rattle.hint_check.proofs.far.stand.Goals as goal

pub returns-in-Some-clause-put : goal.returns-in-Some-clause-put
returns-in-Some-clause-put c q =
    let known = c.args.known.now.items in
    let one = c.args.one in
    let may = rw c.deref.ensures.value at c.in-Some.ensures in
    lookup-set known c.args.shift one.id c.in-Some.seat one may.1 (λ told. refl) q
    ∙ ap (λ o. cond (nat_eq one.id q) o (lookup (nat_eq q) (placed known)))
    (span-own one one.id may.0 refl)

pub returns-in-Some-clause-in_place : goal.returns-in-Some-clause-in_place
returns-in-Some-clause-in_place c =
    let may = rw c.deref.ensures.value at c.in-Some.ensures in
    InPlace-set c.args.known.now.items c.args.shift c.args.one.id c.in-Some.seat c.args.one may.1
    (λ told. refl) c.requires.in_place

pub returns-in-Some-clause-ends : goal.returns-in-Some-clause-ends
returns-in-Some-clause-ends c count h within =
    ends-set c.args.known.now.items c.in-Some.seat c.args.one count (λ told. within) h
