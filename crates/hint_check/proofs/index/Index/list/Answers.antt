use Rattle.std.proofs.Common.{◌-◌, ◌++◌, ap, ◌∙◌, arith, subst, sym}
use Rattle.std.proofs.lemmas.List.{get_or_default}
use Rattle.cnf_text.specs.Literal.{literal_number}
use Rattle.hint_check.specs.Inner.Index.{ids_at, no_link}
use Rattle.hint_check.specs.Inner.Stamps.{stamp_at}
use Rattle.hint_check.proofs.IndexChains.{Walks, Walks-start, Walks-end, Walks-smaller, Walks-step}
use Rattle.hint_check.proofs.index.Index.list.Goals as goal

pub loop-place-init : goal.loop-place-init
loop-place-init c =
    let inside = c.self.inside in
    Walks-start inside.links.items inside.heads (literal_number c.args.lit) c.get-place.result
    c.args.ids.now.items c.self.invariant.1
    (c.get-place.ensures ∙ ap (stamp_at inside.heads) c.number.ensures.value)

pub index-link-requires : goal.index-link-requires
index-link-requires c =
    let walks = c.loop-place.invariant in
    let fits = c.self.inside.links.ok.0 in
    omega (arith, walks.0, fits, c.loop-place-test.true)

pub loop-place-smaller : goal.loop-place-smaller
loop-place-smaller c =
    Walks-smaller c.self.inside.links.items (literal_number c.args.lit) c.args.ids.now.items
    c.loop-place.ids.items c.loop-place.place
    c.index-link.result.now c.self.invariant.0 c.loop-place-test.true c.loop-place.invariant
    (c.index-link.ensures
    ∙ get_or_default c.self.inside.links.items (c.loop-place.place - 1) c.index-link.result.now
    no_link (omega (arith, c.loop-place.invariant.0, c.loop-place-test.true)))

pub loop-place-preserved : goal.loop-place-preserved
loop-place-preserved c =
    let links = c.self.inside.links.items in
    let n = literal_number c.args.lit in
    subst (λ ids. Walks links n c.args.ids.now.items ids c.index-link.result.now.before)
    (sym c.in_ok-push.ensures.items)
    (Walks-step links n c.args.ids.now.items c.loop-place.ids.items c.loop-place.place
    c.index-link.result.now c.self.invariant.0 c.loop-place-test.true c.loop-place.invariant
    (c.index-link.ensures
    ∙ get_or_default c.self.inside.links.items (c.loop-place.place - 1) c.index-link.result.now
    no_link (omega (arith, c.loop-place.invariant.0, c.loop-place-test.true))))

pub returns : goal.returns
returns c =
    Walks-end c.self.inside.links.items (literal_number c.args.lit) c.args.ids.now.items
    c.loop-place.ids.items c.loop-place.place
    (omega (arith, c.loop-place-test.false)) c.loop-place.invariant
    ∙ ap (λ links. c.args.ids.now.items ++ ids_at links (literal_number c.args.lit)) c.self.view_is
