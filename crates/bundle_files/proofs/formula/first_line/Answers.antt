use Rattle.std.proofs.Common.{refl}
use Rattle.bundle_files.proofs.FormulaPlace.{nothing_passed, line_passed, first_reached}
use Rattle.bundle_files.proofs.FormulaPlace.{none_reached}
use Rattle.bundle_files.proofs.formula.first_line.Goals as goal

pub loop-below-init : goal.loop-below-init
loop-below-init c = nothing_passed c.args.text.now

pub returns-then-not-is_bare : goal.returns-then-not-is_bare
returns-then-not-is_bare c =
    first_reached c.args.text.now c.loop-below.rest.now c.split_line.result.0.now
    c.split_line.result.1 _ _ c.requires c.loop-below.invariant c.if-not-is_bare.ensures.other
    c.split_line.ensures.split c.split_line.ensures.whole refl refl

pub returns-in_default : goal.returns-in_default
returns-in_default c =
    absurd (none_reached c.args.text.now c.loop-below.rest.now c.split_line.result.0.now c.requires
    c.loop-below.invariant c.if-not-is_bare.ensures.bare
    (rw c.in_default.is at c.split_line.ensures.split))

pub loop-below-preserved : goal.loop-below-preserved
loop-below-preserved c =
    line_passed c.args.text.now c.loop-below.rest.now c.split_line.result.0.now c.in-Some.next.now
    c.loop-below.invariant c.if-not-is_bare.ensures.bare
    (rw c.in-Some.is at c.split_line.ensures.whole) (rw c.in-Some.is at c.split_line.ensures.split)
