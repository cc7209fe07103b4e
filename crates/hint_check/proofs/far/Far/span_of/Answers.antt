use Rattle.std.proofs.Common.{Option, Some, ℕ, List, nat_eq, refl, sym, ap, ◌∙◌}
use Rattle.std.specs.Option.{option_or}
use Rattle.std.specs.Map.{lookup}
use Rattle.hint_check.specs.declared.far.Known.{Known}
use Rattle.hint_check.specs.declared.far.Span.{Span}
use Rattle.hint_check.specs.Inner.Far.{placed}
use Rattle.hint_check.proofs.FarKnown.{by_none, seat-lookup}
use Rattle.hint_check.proofs.FarSpans.{lookup-append}
use Rattle.hint_check.proofs.far.Far.span_of.Goals as goal

pub returns-in-Some : goal.returns-in-Some
returns-in-Some c =
    let id = c.args.id in
    let inside = c.self.inside in
    let own = rw c.deref.ensures.value at c.in-Some.ensures.own in
    ap (λ (o : Option Span). option_or o (lookup (nat_eq id) inside.map.entries))
    (ap (λ (k : Known). Some k.span) c.index.ensures
    ∙ seat-lookup inside.known.items inside.shift id c.in-Some.seat c.index.result.now own)
    ∙ sym (lookup-append (placed inside.known.items) inside.map.entries id)
    ∙ ap (λ (es : List (ℕ × Span)). lookup (nat_eq id) es) c.self.view_is

pub returns-in-None : goal.returns-in-None
returns-in-None c =
    let id = c.args.id in
    let inside = c.self.inside in
    let none = rw c.deref.ensures.value at (c.in-None.ensures.none refl) in
    c.found.ensures
    ∙ ap (λ (o : Option Span). option_or o (lookup (nat_eq id) inside.map.entries))
    (sym (by_none inside.known.items id none))
    ∙ sym (lookup-append (placed inside.known.items) inside.map.entries id)
    ∙ ap (λ (es : List (ℕ × Span)). lookup (nat_eq id) es) c.self.view_is
