use Rattle.std.proofs.Common.{◌≡◌, ℕ, ◌++◌, ◌∷◌, [], length, refl, sym, ap, ◌∙◌, subst}
use Rattle.std.proofs.Common.{append_assoc, append-nil}
use Rattle.hint_check.specs.declared.far.Span.{Span}
use Rattle.hint_check.specs.Inner.Table.{SpansEndBy, SpansMove}
use Rattle.hint_check.proofs.TableEntries.{SpansEndBy-head, SpansEndBy-tail}
use Rattle.hint_check.proofs.FarMoved.{put-last}
use Rattle.hint_check.proofs.TableMoved.{GrowsFrom-none, GrowsFrom-range, GrowsFrom-both}
use Rattle.hint_check.proofs.TableMoved.{SpanMoves-range, SpansMove-none, SpansMove-one}
use Rattle.hint_check.proofs.TableMoved.{SpansMove-both, SpansMove-grown}
use Rattle.hint_check.proofs.far.moved_map.Goals as goal

pub loop-id-init : goal.loop-id-init
loop-id-init c =
    let blocks = c.args.blocks.now in
    let list = c.args.list.now.items in
    let same : c.into_iter-id-iterator.result ≡ c.args.map.now.entries =
    c.into_iter-id-iterator.ensures.into_iter_gives.0 in
    record {
      ends = subst (λ far. SpansEndBy far (length blocks)) (sym same) c.requires;
      grown = GrowsFrom-none blocks list list refl;
      moved = (
        [],
        sym same,
        subst (SpansMove blocks list []) (sym c.new-moved.ensures.empty)
            (SpansMove-none blocks list),
      );
    }

pub push_blocks-requires : goal.push_blocks-requires
push_blocks-requires c =
    let low =
    SpansEndBy-head (c.in-Some.id.now, c.in-Some.span.now) c.next.new.self
    (length c.args.blocks.now)
    (subst (λ far. SpansEndBy far (length c.args.blocks.now)) c.in-Some.ensures.steps
    c.loop-id.invariant.ends) in
    record { ordered = low.0; within = low.1 }

pub loop-id-preserved : goal.loop-id-preserved
loop-id-preserved c =
    let blocks = c.args.blocks.now in
    let e : ℕ × Span = (c.in-Some.id.now, c.in-Some.span.now) in
    let list = c.loop-id.list.items in
    let grown = c.push_blocks.new.list.items in
    let was = c.loop-id.invariant in
    let next = c.next.new.self in
    let low =
    SpansEndBy-head e next (length blocks)
    (subst (λ far. SpansEndBy far (length blocks)) c.in-Some.ensures.steps was.ends) in
    let span : Span = record { start = c.in_ok-start.start; end = c.len-end.result } in
    let is : c.args.map.now.entries ≡ was.moved.0 ++ e ∷ next =
    was.moved.1 ∙ ap (λ es. was.moved.0 ++ es) c.in-Some.ensures.steps in
    let grows = GrowsFrom-range blocks list grown e.1.start e.1.end c.in_ok-start.ensures.grown in
    record {
      ends = SpansEndBy-tail e next (length blocks)
          (subst (λ far. SpansEndBy far (length blocks)) c.in-Some.ensures.steps was.ends);
      grown = GrowsFrom-both blocks c.args.list.now.items list grown was.grown grows;
      moved = (
        was.moved.0 ++ e ∷ [],
        is ∙ sym (append_assoc was.moved.0 (e ∷ []) next),
        subst (SpansMove blocks grown (was.moved.0 ++ e ∷ []))
            (sym (c.in_ok-insert.ensures.entries
            ∙ put-last blocks list c.args.map.now.entries was.moved.0 c.loop-id.moved.entries e
            next span c.into_iter-id-iterator.ensures.into_iter_gives.5 is was.moved.2))
            (SpansMove-both blocks grown was.moved.0 c.loop-id.moved.entries (e ∷ [])
            ((e.0, span) ∷ [])
            (SpansMove-grown blocks list grown was.moved.0 c.loop-id.moved.entries grows
            was.moved.2)
            (SpansMove-one blocks grown e (e.0, span) refl
            (SpanMoves-range blocks list grown e.1 span c.in_ok-start.ensures.grown low.0 low.1
            c.in_ok-start.ensures.begins
            (c.len-end.ensures ∙ c.push_blocks.new.list.ok.0)))),
      );
    }

pub returns : goal.returns
returns c =
    let was = c.loop-id.invariant in
    record {
      grown = was.grown;
      moved =
          subst (λ es. SpansMove c.args.blocks.now c.loop-id.list.items es
          c.loop-id.moved.entries)
          (sym (was.moved.1 ∙ ap (λ es. was.moved.0 ++ es) c.in-None.ensures.steps.0
          ∙ append-nil was.moved.0)) was.moved.2;
    }
