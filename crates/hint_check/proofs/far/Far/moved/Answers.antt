use Rattle.std.proofs.Common.{ℕ, List, ◌++◌, sym, subst, length}
use Rattle.hint_check.specs.declared.far.Known.{Known}
use Rattle.hint_check.specs.declared.far.Span.{Span}
use Rattle.hint_check.specs.Inner.Far.{placed, SeatsMove}
use Rattle.hint_check.specs.Inner.Table.{SpansEndBy, SpansMove}
use Rattle.hint_check.proofs.FarSpans.{SpansEndBy-parts}
use Rattle.hint_check.proofs.FarMoved.{SeatsMove-spans, SeatsMove-InPlace, Apart-moved}
use Rattle.hint_check.proofs.TableMoved.{GrowsFrom-both, SpansMove-both, SpansMove-grown}
use Rattle.hint_check.proofs.far.Far.moved.Goals as goal

pub moved_seats-requires : goal.moved_seats-requires
moved_seats-requires c =
    let count = length c.args.blocks.now in
    subst (λ (ks : List Known). SpansEndBy (placed ks) count) (sym c.deref.ensures.value)
    (SpansEndBy-parts (placed c.self.inside.known.items) c.self.inside.map.entries count
    (subst (λ (es : List (ℕ × Span)). SpansEndBy es count) (sym c.self.view_is) c.requires)).0

pub moved_map-requires : goal.moved_map-requires
moved_map-requires c =
    let count = length c.args.blocks.now in
    (SpansEndBy-parts (placed c.self.inside.known.items) c.self.inside.map.entries count
    (subst (λ (es : List (ℕ × Span)). SpansEndBy es count) (sym c.self.view_is) c.requires)).1

pub invariant_of-result : goal.invariant_of-result
invariant_of-result c =
    let blocks = c.args.blocks.now in
    let before = c.moved_seats.new.list.items in
    let after = c.moved_map.new.list.items in
    let known = c.self.inside.known.items in
    let known' = c.in_ok-known.known.items in
    let seats : SeatsMove blocks before known known' =
    subst (λ (ks : List Known). SeatsMove blocks before ks known') c.deref.ensures.value
    c.in_ok-known.ensures.moved in (
      c.self.invariant.0,
      (
        SeatsMove-InPlace blocks before known known' c.self.inside.shift seats
            c.self.invariant.1.0,
        Apart-moved blocks after (placed known) (placed known') c.self.inside.map.entries
            c.in_ok-map.map.entries
            (SpansMove-grown blocks before after (placed known) (placed known')
            c.in_ok-map.ensures.grown (SeatsMove-spans blocks before known known' seats))
            c.in_ok-map.ensures.moved c.self.invariant.1.1,
      ),
    )

pub returns : goal.returns
returns c =
    let blocks = c.args.blocks.now in
    let before = c.moved_seats.new.list.items in
    let after = c.moved_map.new.list.items in
    let known = c.self.inside.known.items in
    let known' = c.in_ok-known.known.items in
    let seats : SeatsMove blocks before known known' =
    subst (λ (ks : List Known). SeatsMove blocks before ks known') c.deref.ensures.value
    c.in_ok-known.ensures.moved in
    record {
      grown = GrowsFrom-both blocks c.args.list.now.items before after c.in_ok-known.ensures.grown
          c.in_ok-map.ensures.grown;
      moved =
          subst (λ (es : List (ℕ × Span)).
          SpansMove blocks after es (placed known' ++ c.in_ok-map.map.entries)) c.self.view_is
          (SpansMove-both blocks after (placed known) (placed known') c.self.inside.map.entries
          c.in_ok-map.map.entries
          (SpansMove-grown blocks before after (placed known) (placed known')
          c.in_ok-map.ensures.grown (SeatsMove-spans blocks before known known' seats))
          c.in_ok-map.ensures.moved);
    }
