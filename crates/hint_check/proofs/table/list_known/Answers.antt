use Rattle.std.proofs.Common.{◌+◌, ◌++◌, ◌∷◌, List, length, get_or, drop, ap}
use Rattle.std.proofs.Common.{sym, subst}
use Rattle.std.specs.Prelude.{if◌then◌else◌}
use Rattle.std.proofs.lemmas.Bool.{le-leb, lt-leb}
use Rattle.std.proofs.lemmas.List.{drop_all}
use Rattle.cnf_text.specs.Literal.{Literal}
use Rattle.hint_check.specs.declared.far.Known.{Known}
use Rattle.hint_check.specs.Inner.Far.{placed}
use Rattle.hint_check.specs.Inner.Index.{Lists, Awaits, indexed_part}
use Rattle.hint_check.specs.Inner.Table.{far_entries, span_clause, SpansEndBy}
use Rattle.hint_check.proofs.IndexIds.{Awaits-next}
use Rattle.hint_check.proofs.FarKnown.{ends-split, next-placed}
use Rattle.hint_check.proofs.TableEntries.{ListsAll-end}
use Rattle.hint_check.proofs.table.list_known.Goals as goal
use Rattle.hint_check.proofs.table.list_known.Goals.{then-one+in_ok-list_clause, else-one}

abbrev none : Known
none = record { id = 0; span = record { start = 0; end = 0 } }

pub new-clause-requires : goal.new-clause-requires
new-clause-requires c =
    let known = c.args.known.now in
    let i = c.loop-one.one-index in
    let one = get_or known i none in
    let count = length c.args.blocks.list.now in
    let ordered = c.if-one.true in (
      ordered,
      (ends-split one (placed (drop (i + 1) known)) count
          (next-placed (λ es. SpansEndBy es count) known i none c.loop-one-test.true
          c.loop-one.invariant.ends)).0 (le-leb one.span.start one.span.end ordered),
    )

pub loop-one-preserved : goal.loop-one-preserved
loop-one-preserved c =
    let blocks = c.args.blocks.list.now in
    let known = c.args.known.now in
    let i = c.loop-one.one-index in
    let one = get_or known i none in
    let count = length blocks in
    let low = c.loop-one-test.true in
    let before = c.loop-one.index in
    let behind = placed (drop (i + 1) known) in
    record {
      ends = (ends-split one behind count
          (next-placed (λ es. SpansEndBy es count) known i none low
          c.loop-one.invariant.ends)).1;
      listed = λ rest all h.
          let was = next-placed (λ es. Awaits before (far_entries blocks es ++ rest) all) known i
          none low (c.loop-one.invariant.listed rest all h) in
          elim c.if-one.branch [
            | then-one+in_ok-list_clause w ↦
                subst (λ rows. Awaits rows (far_entries blocks behind ++ rest) all)
                (sym w.index-is)
                (Awaits-next before w.list_clause.new.index (one.id, span_clause blocks one.span)
                (far_entries blocks behind ++ rest) all
                (subst (λ t. Awaits before (far_entries blocks
                (if t then (one.id, one.span) ∷ behind else behind) ++ rest) all)
                (le-leb one.span.start one.span.end w.if-one.true) was)
                (subst (λ (part : List Literal).
                Lists before w.list_clause.new.index part one.id)
                (ap indexed_part w.new-clause.ensures) w.in_ok-list_clause.ensures))
            | else-one w ↦
                subst (λ rows. Awaits rows (far_entries blocks behind ++ rest) all)
                (sym w.index-is)
                (subst (λ t. Awaits before (far_entries blocks
                (if t then (one.id, one.span) ∷ behind else behind) ++ rest) all)
                (lt-leb one.span.start one.span.end w.if-one.false) was)
          ];
    }

pub returns : goal.returns
returns c =
    let blocks = c.args.blocks.list.now in
    let known = c.args.known.now in
    ListsAll-end c.args.index.now c.loop-one.index (far_entries blocks (placed known))
    (λ rest all h. subst
    (λ ks. Awaits c.loop-one.index (far_entries blocks (placed ks) ++ rest) all)
    (drop_all c.loop-one.one-index known c.loop-one-test.false)
    (c.loop-one.invariant.listed rest all h))
