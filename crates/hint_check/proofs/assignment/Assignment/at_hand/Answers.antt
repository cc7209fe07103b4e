use Rattle.std.proofs.Common.{ℕ, List, ◌<◌, ◌≤◌, length, slice_index, sym, subst}
use Rattle.hint_check.specs.Inner.Stamps.{Shows}
use Rattle.hint_check.specs.Inner.Assignment.{Stamped, set_of}
use Rattle.hint_check.proofs.StampsSets.{list-latest, shows-set}
use Rattle.hint_check.proofs.assignment.Assignment.at_hand.Goals as goal

pub returns-clause-shows : goal.returns-clause-shows
returns-clause-shows c =
    let inside = c.self.inside in
    let now : Stamped =
    record { marks = inside.stamps; epoch = inside.epoch; trail = inside.trail.items } in
    let few =
    subst (λ (stamps : List ℕ). length stamps ≤ 2097152) c.at_hand.ensures.stamps
    c.at_hand.ensures.near in
    subst (λ (stamps : List ℕ). Shows stamps inside.epoch (set_of c.args.self.now))
    (sym c.at_hand.ensures.stamps)
    (subst (λ (stamped : Stamped). Shows inside.stamps.0 inside.epoch (set_of stamped))
    c.self.view_is (shows-set now c.self.invariant.0 few))

pub returns-clause-latest : goal.returns-clause-latest
returns-clause-latest c =
    let inside = c.self.inside in
    let few =
    subst (λ (stamps : List ℕ). length stamps ≤ 2097152) c.at_hand.ensures.stamps
    c.at_hand.ensures.near in
    subst (λ (stamps : List ℕ). (n : ℕ) → n < length stamps → slice_index stamps n ≤ inside.epoch)
    (sym c.at_hand.ensures.stamps) (list-latest inside.stamps inside.epoch few c.self.invariant.1)
