use Rattle.std.proofs.Common.{◌≡◌, ℕ, ◌++◌, List, length, sym, ap, subst}
use Rattle.cnf_text.specs.Literal.{Literal}
use Rattle.hint_check.specs.Inner.Index.{Lists, Awaits, indexed_part}
use Rattle.hint_check.specs.declared.far.Span.{Span}
use Rattle.hint_check.specs.Inner.Table.{far_entries, span_clause, SpansEndBy}
use Rattle.hint_check.proofs.IndexIds.{Awaits-next}
use Rattle.hint_check.proofs.TableEntries.{ListsAll-end, SpansEndBy-head, SpansEndBy-tail}
use Rattle.hint_check.proofs.table.list_spans.Goals as goal

pub loop-id-init : goal.loop-id-init
loop-id-init c =
    let blocks = c.args.blocks.list.now in
    let same : c.into_iter-id-iterator.result ≡ c.args.map.now.entries =
    c.into_iter-id-iterator.ensures.into_iter_gives.0 in
    record {
      ends = subst (λ far. SpansEndBy far (length blocks)) (sym same) c.requires;
      listed =
          λ rest all h.
          subst (λ far. Awaits c.args.index.now (far_entries blocks far ++ rest) all) (sym same) h;
    }

pub new-clause-requires : goal.new-clause-requires
new-clause-requires c =
    SpansEndBy-head (c.in-Some.id.now, c.in-Some.span.now) c.next.new.self
    (length c.args.blocks.list.now)
    (subst (λ far. SpansEndBy far (length c.args.blocks.list.now)) c.in-Some.ensures.steps
    c.loop-id.invariant.ends)

pub loop-id-preserved : goal.loop-id-preserved
loop-id-preserved c =
    let blocks = c.args.blocks.list.now in
    let e : ℕ × Span = (c.in-Some.id.now, c.in-Some.span.now) in
    let before = c.loop-id.index in
    let after = c.list_clause.new.index in
    record {
      ends = SpansEndBy-tail e c.next.new.self (length blocks)
          (subst (λ far. SpansEndBy far (length blocks)) c.in-Some.ensures.steps
          c.loop-id.invariant.ends);
      listed = λ rest all h.
          Awaits-next before after (e.0, span_clause blocks e.1)
          (far_entries blocks c.next.new.self ++ rest) all
          (subst (λ far. Awaits before (far_entries blocks far ++ rest) all) c.in-Some.ensures.steps
          (c.loop-id.invariant.listed rest all h))
          (subst (λ (part : List Literal). Lists before after part e.0)
          (ap indexed_part c.new-clause.ensures)
          c.in_ok-list_clause.ensures);
    }

pub returns : goal.returns
returns c =
    let blocks = c.args.blocks.list.now in
    ListsAll-end c.args.index.now c.loop-id.index (far_entries blocks c.args.map.now.entries)
    (λ rest all h. subst
    (λ far. Awaits c.loop-id.index (far_entries blocks far ++ rest) all) c.in-None.ensures.steps.0
    (c.loop-id.invariant.listed rest all h))
