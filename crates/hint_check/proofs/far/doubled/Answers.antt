use Rattle.std.proofs.Common.{◌+◌, ◌%◌, get_or, slice_set, sym, ap}
use Rattle.std.proofs.Common.{◌∙◌, subst, arith}
use Rattle.std.specs.Prelude.{nat_eq}
use Rattle.std.specs.Option.{option_or}
use Rattle.std.specs.Map.{lookup}
use Rattle.std.proofs.lemmas.List.{get_or_default, drop_all}
use Rattle.hint_check.specs.declared.far.Known.{Known}
use Rattle.hint_check.specs.Inner.Far.{nothing, placed}
use Rattle.hint_check.proofs.FarKnown.{or-none}
use Rattle.hint_check.proofs.FarDoubled.{Moved, Moved-none, Moved-silent, Moved-told, may}
use Rattle.hint_check.proofs.far.doubled.Goals as goal
use Rattle.hint_check.proofs.far.doubled.Goals.{then-is_told, else-is_told}

abbrev none : Known
none = record { id = 0; span = record { start = 0; end = 0 } }

pub loop-seat-init : goal.loop-seat-init
loop-seat-init c =
    let whole = c.requires.in_place.whole in
    let most = c.max-count.ensures in
    Moved-none c.args.known.now c.in_ok-seats.seats.items c.args.shift c.max-count.result
    (omega (arith, most)) (omega (arith, whole, most))
    (c.in_ok-seats.ensures.items_if_clones_equal (λ y same. same))

pub index_mut-requires : goal.index_mut-requires
index_mut-requires c =
    let known = c.args.known.now in
    let i = c.loop-seat.seat in
    let seats = c.loop-seat.seats in
    let low = c.loop-seat-test.true in
    let there = may known seats.items c.args.shift i (get_or known i none) c.requires.in_place low
    (get_or_default known i nothing none low) c.loop-seat.invariant (sym c.if-is_told.ensures) in
    let room = there.room in
    omega (arith, room, c.first_seat-place.ensures, seats.ok.0)

pub loop-seat-preserved : goal.loop-seat-preserved
loop-seat-preserved c =
    let known = c.args.known.now in
    let i = c.loop-seat.seat in
    let seats = c.loop-seat.seats.items in
    let one = get_or known i none in
    let low = c.loop-seat-test.true in
    let is = get_or_default known i nothing none low in
    elim c.if-is_told.branch [
      | then-is_told w ↦
          subst (λ ks. Moved known ks c.args.shift (i + 1)) (sym (ap (λ v. v.items) w.seats-is
          ∙ ap (λ p. slice_set seats (p + i % 4) one) w.first_seat-place.ensures))
          (Moved-told known seats c.args.shift i one c.requires.in_place low is
          c.loop-seat.invariant (sym w.if-is_told.ensures))
      | else-is_told w ↦
          subst (λ ks. Moved known ks c.args.shift (i + 1)) (sym (ap (λ v. v.items) w.seats-is))
          (Moved-silent known seats c.args.shift i one c.requires.in_place low is
          c.loop-seat.invariant (sym w.if-is_told.ensures))
    ]

pub returns-clause-same : goal.returns-clause-same
returns-clause-same c q =
    let found = lookup (nat_eq q) (placed c.loop-seat.seats.items) in
    sym (ap (λ ks. option_or found (lookup (nat_eq q) (placed ks)))
    (drop_all c.loop-seat.seat c.args.known.now c.loop-seat-test.false) ∙ or-none found)
    ∙ c.loop-seat.invariant.same q
