use Rattle.std.proofs.Common.{◌||◌, sym, ap, ◌∙◌}
use Rattle.hint_check.specs.Inner.Assignment.{set_of}
use Rattle.hint_check.specs.Inner.Blocks.{in_front}
use Rattle.hint_check.specs.Inner.Needed.{seen_after}
use Rattle.hint_check.proofs.AdditionCandidates.{seen-here, seen-other}
use Rattle.hint_check.proofs.tautology.seen_with.Goals as goal

pub returns-then-eq : goal.returns-then-eq
returns-then-eq c =
    λ rest.
    seen-here (set_of c.args.reached.now) c.args.lit c.args.seen.held c.args.seen.met
    c.in-Some.other rest (sym c.eq.ensures ∙ c.if-eq.true)
    ∙ ap (λ o. seen_after (set_of c.args.reached.now) c.args.lit c.args.seen.held c.args.seen.met
    (in_front o rest)) (sym c.in-Some.is ∙ c.literal.ensures)

pub returns-then-seen : goal.returns-then-seen
returns-then-seen c =
    λ rest.
    ap (λ met. seen_after (set_of c.args.reached.now) c.args.lit c.args.seen.held met rest)
    (c.if-seen.true ∙ sym (ap (λ b. b || set_of c.args.reached.now c.in-Some.other) c.if-seen.true))
    ∙ seen-other (set_of c.args.reached.now) c.args.lit c.args.seen.held c.args.seen.met
    c.in-Some.other rest (sym c.eq.ensures ∙ c.if-eq.false)
    ∙ ap (λ o. seen_after (set_of c.args.reached.now) c.args.lit c.args.seen.held c.args.seen.met
    (in_front o rest)) (sym c.in-Some.is ∙ c.literal.ensures)

pub returns-else-seen : goal.returns-else-seen
returns-else-seen c =
    λ rest.
    ap (λ met. seen_after (set_of c.args.reached.now) c.args.lit c.args.seen.held met rest)
    (c.contains.ensures
    ∙ sym (ap (λ b. b || set_of c.args.reached.now c.in-Some.other) c.if-seen.false))
    ∙ seen-other (set_of c.args.reached.now) c.args.lit c.args.seen.held c.args.seen.met
    c.in-Some.other rest (sym c.eq.ensures ∙ c.if-eq.false)
    ∙ ap (λ o. seen_after (set_of c.args.reached.now) c.args.lit c.args.seen.held c.args.seen.met
    (in_front o rest)) (sym c.in-Some.is ∙ c.literal.ensures)
