use Rattle.std.proofs.Common.{◌+◌, ◌++◌, ◌∷◌, [], take, drop, length, get_or, refl, sym}
use Rattle.std.proofs.Common.{subst, arith}
use Rattle.std.proofs.lemmas.List.{take_more, take_all}
use Rattle.hint_check.specs.declared.far.Known.{Known}
use Rattle.hint_check.specs.Inner.Far.{placed, SeatsMove}
use Rattle.hint_check.specs.Inner.Table.{SpansEndBy}
use Rattle.hint_check.proofs.FarKnown.{ends-split, next-placed}
use Rattle.hint_check.proofs.FarMoved.{SeatsMove-grown, SeatsMove-none, SeatsMove-push}
use Rattle.hint_check.proofs.TableMoved.{GrowsFrom-none, GrowsFrom-both}
use Rattle.hint_check.proofs.far.moved_seats.Goals as goal

abbrev none : Known
none = record { id = 0; span = record { start = 0; end = 0 } }

pub loop-one-init : goal.loop-one-init
loop-one-init c = record {
  ends = c.requires;
  grown = GrowsFrom-none c.args.blocks.now c.args.list.now.items c.args.list.now.items refl;
  moved =
      subst (SeatsMove c.args.blocks.now c.args.list.now.items []) (sym c.new-seats.ensures.items)
      (SeatsMove-none c.args.blocks.now c.args.list.now.items);
}

pub moved_seat-requires : goal.moved_seat-requires
moved_seat-requires c =
    let known = c.args.known.now in
    let i = c.loop-one.one-index in
    let one = get_or known i none in
    let count = length c.args.blocks.now in
    (ends-split one (placed (drop (i + 1) known)) count
    (next-placed (λ es. SpansEndBy es count) known i none c.loop-one-test.true
    c.loop-one.invariant.ends)).0

pub loop-one-preserved : goal.loop-one-preserved
loop-one-preserved c =
    let blocks = c.args.blocks.now in
    let known = c.args.known.now in
    let i = c.loop-one.one-index in
    let one = get_or known i none in
    let count = length blocks in
    let low = c.loop-one-test.true in
    let list = c.loop-one.list.items in
    let grown = c.moved_seat.new.list.items in
    let was = c.loop-one.invariant in
    record {
      ends = (ends-split one (placed (drop (i + 1) known)) count
          (next-placed (λ es. SpansEndBy es count) known i none low was.ends)).1;
      grown = GrowsFrom-both blocks c.args.list.now.items list grown was.grown
          c.in_ok-seat.ensures.grown;
      moved =
          subst (λ done. SeatsMove blocks grown done c.push.new.self.items)
          (sym (take_more known i none low))
          (subst (SeatsMove blocks grown (take i known ++ one ∷ []))
          (sym c.in_ok-push.ensures.items)
          (SeatsMove-push blocks grown (take i known) c.loop-one.seats.items one c.in_ok-seat.seat
          (SeatsMove-grown blocks list grown (take i known) c.loop-one.seats.items
          c.in_ok-seat.ensures.grown was.moved) c.in_ok-seat.ensures.moved));
    }

pub returns : goal.returns
returns c = record {
  grown = c.loop-one.invariant.grown;
  moved =
      subst (λ done. SeatsMove c.args.blocks.now c.loop-one.list.items done c.loop-one.seats.items)
      (take_all c.loop-one.one-index c.args.known.now (omega arith)) c.loop-one.invariant.moved;
}
