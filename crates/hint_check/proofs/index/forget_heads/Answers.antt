use Rattle.std.proofs.Common.{◌+◌, ◌≡◌, take, ◌++◌, ◌∷◌, [], get_or, sym, ap, ◌∙◌, subst, arith}
use Rattle.std.proofs.lemmas.List.{take_more, take_all, map-append}
use Rattle.hint_check.specs.declared.index.Link.{Link}
use Rattle.hint_check.specs.Inner.Index.{no_link, numbers_of}
use Rattle.hint_check.specs.Inner.Stamps.{Forgets}
use Rattle.hint_check.proofs.StampsSets.{Forgets-push}
use Rattle.hint_check.proofs.index.forget_heads.Goals as goal

pub loop-link-preserved : goal.loop-link-preserved
loop-link-preserved c =
    let links = c.args.links.now in
    let i = c.loop-link.link-index in
    let link = get_or links i no_link in
    let more : numbers_of (take i links) ++ link.number ∷ [] ≡ numbers_of (take (i + 1) links) =
    sym (ap numbers_of (take_more links i no_link c.loop-link-test.true)
    ∙ map-append (λ (l : Link). l.number) (take i links) (link ∷ [])) in
    subst (λ done. Forgets done c.args.heads.now c.forget.new.self) more
    (Forgets-push (numbers_of (take i links)) link.number c.args.heads.now c.loop-link.heads
    c.forget.new.self c.loop-link.invariant c.forget.ensures)

pub returns : goal.returns
returns c =
    subst (λ done. Forgets (numbers_of done) c.args.heads.now c.loop-link.heads)
    (take_all c.loop-link.link-index c.args.links.now (omega arith)) c.loop-link.invariant
