use Rattle.std.proofs.Common.{◌≡◌, ◌+◌, ◌-◌, ℕ, List, nat_eq, sym, ap, ◌∙◌, subst, arith}
use Rattle.std.specs.Map.{lookup}
use Rattle.hint_check.specs.declared.far.Known.{Known}
use Rattle.hint_check.specs.declared.far.Span.{Span}
use Rattle.hint_check.specs.Inner.Far.{placed, InPlace}
use Rattle.hint_check.specs.Inner.Table.{SpansEndBy}
use Rattle.hint_check.proofs.FarSpans.{Apart-same, lookup-both, SpansEndBy-change}
use Rattle.hint_check.proofs.far.Far.make_more.Goals as goal

pub doubled-requires-clause-in_place : goal.doubled-requires-clause-in_place
doubled-requires-clause-in_place c =
    subst (λ (ks : List Known). InPlace ks (c.self.inside.shift - 1 + 1))
    (sym c.deref.ensures.value)
    (subst (InPlace c.self.inside.known.items)
    (let e : c.self.inside.shift ≡ c.self.inside.shift - 1 + 1 = omega arith in e)
    c.self.invariant.1.0)

same : (c : goal.After-self-1) (q : ℕ) →
    lookup (nat_eq q) (placed c.in_ok-self-inside.field-0.items)
    ≡ lookup (nat_eq q) (placed c.self.inside.known.items)
same c q =
    c.in_ok-self-inside.ensures.same q
    ∙ ap (λ ks. lookup (nat_eq q) (placed ks)) c.deref.ensures.value

pub invariant_of-self : goal.invariant_of-self
invariant_of-self c =
    let apart = Apart-same (placed c.self.inside.known.items) _ c.self.inside.map.entries (same c)
    c.self.invariant.1.1 in
    (omega arith, (c.in_ok-self-inside.ensures.in_place, apart))

pub returns-clause-same : goal.returns-clause-same
returns-clause-same c q =
    lookup-both (placed c.self.inside.known.items) (placed c.in_ok-self-inside.field-0.items)
    c.self.inside.map.entries (same c) q
    ∙ ap (λ (es : List (ℕ × Span)). lookup (nat_eq q) es) c.self.view_is

pub returns-clause-ends : goal.returns-clause-ends
returns-clause-ends c count =
    let entries = c.self.inside.map.entries in
    SpansEndBy-change (placed c.self.inside.known.items)
    (placed c.in_ok-self-inside.field-0.items) entries entries c.args.self.now c.self.view_is count
    (λ k. c.in_ok-self-inside.ensures.ends count
    (subst (λ ks. SpansEndBy (placed ks) count) (sym c.deref.ensures.value) k)) (λ k. k)
