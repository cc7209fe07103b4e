use Rattle.std.proofs.Common.{ℕ, List, length, sym, subst}
use Rattle.hint_check.specs.declared.far.Span.{Span}
use Rattle.hint_check.specs.Inner.Far.{placed}
use Rattle.hint_check.specs.Inner.Table.{far_entries, SpansEndBy, ListsAll}
use Rattle.hint_check.proofs.FarSpans.{SpansEndBy-parts}
use Rattle.hint_check.proofs.LiveParts.{OnOk-weaker}
use Rattle.hint_check.proofs.TableEntries.{ListsAll-both}
use Rattle.hint_check.proofs.table.list_far.Goals as goal

pub list_known-requires : goal.list_known-requires
list_known-requires c =
    let count = length c.args.blocks.list.now in
    (SpansEndBy-parts (placed c.parts.result.0.now) c.parts.result.1.now.entries count
    (subst (λ (es : List (ℕ × Span)). SpansEndBy es count) (sym c.parts.ensures)
    c.requires)).0

pub list_spans-requires : goal.list_spans-requires
list_spans-requires c =
    let count = length c.args.blocks.list.now in
    (SpansEndBy-parts (placed c.parts.result.0.now) c.parts.result.1.now.entries count
    (subst (λ (es : List (ℕ × Span)). SpansEndBy es count) (sym c.parts.ensures)
    c.requires)).1

pub returns : goal.returns
returns c =
    let blocks = c.args.blocks.list.now in
    let known = placed c.parts.result.0.now in
    let entries = c.parts.result.1.now.entries in
    let middle = c.list_known.new.index in
    let rows = c.list_spans.new.index in
    OnOk-weaker c.list_spans.result (ListsAll middle rows (far_entries blocks entries))
    (ListsAll c.args.index.now rows (far_entries blocks c.args.far.now))
    (λ second. subst (λ (es : List (ℕ × Span)).
    ListsAll c.args.index.now rows (far_entries blocks es)) c.parts.ensures
    (ListsAll-both c.args.index.now middle rows blocks known entries
    c.in_ok-list_known.ensures second)) c.list_spans.ensures
