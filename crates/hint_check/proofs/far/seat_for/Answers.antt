use Rattle.std.proofs.Common.{◌≡◌, ◌/◌, sym, refl, arith}
use Rattle.std.proofs.lemmas.Bool.{both_ways}
use Rattle.std.proofs.lemmas.Option.{IfSome_then}
use Rattle.hint_check.specs.Inner.Far.{place_of, NoOther}
use Rattle.hint_check.proofs.far.seat_for.Goals as goal

pub returns-in-None : goal.returns-in-None
unfolding NoOther
returns-in-None c =
    IfSome_then c.free_seat.result c.free_seat.ensures (λ seat h. (
      sym c.if-not-is_told.ensures,
      record {
        room = h.0;
        place = let low = h.1.0.0 in let high = h.1.0.1 in
            let p = place_of c.args.shift c.args.one.id in
            let e : p ≡ seat / 4 = omega (arith, low, high) in e;
        free = λ told. absurd (both_ways _ h.1.1 told);
        alone = λ i other. c.in-None.ensures.none refl i;
      },
    ))
