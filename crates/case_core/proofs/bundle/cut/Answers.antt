use Rattle.std.proofs.Common.{refl}
use Rattle.case_core.proofs.BundleCuts.{nothing_cut, one_line_more, last_line_front}
use Rattle.case_core.proofs.BundleCuts.{last_line_labels, front_found, label_found, cut_at_line}
use Rattle.case_core.proofs.BundleLetters.{plain_cut, plain_rest}
use Rattle.case_core.proofs.bundle.cut.Goals as goal

pub lines-init : goal.lines-init
lines-init c = nothing_cut c.args.text.now

pub lines-preserved : goal.lines-preserved
lines-preserved c =
    one_line_more _ _ _ _ (plain_cut _ _ _ c.lines.invariant c.in-Some.ensures.found)
    (rw c.in-Some-below.is at c.split_line.ensures.split)
    (rw c.in-Some-below.is at c.split_line.ensures.whole)
    (rw c.is_label.ensures at c.if-is_label.false)

pub returns-then-is_label-clause-front : goal.returns-then-is_label-clause-front
returns-then-is_label-clause-front c =
    front_found _ _ _ _ c.split_line.result.1
    (plain_cut _ _ _ c.lines.invariant c.in-Some.ensures.found) c.split_line.ensures.split
    (rw c.is_label.ensures at c.if-is_label.true) refl

pub returns-then-is_label-clause-label : goal.returns-then-is_label-clause-label
returns-then-is_label-clause-label c =
    label_found _ _ _ c.split_line.result.1
    (plain_cut _ _ _ c.lines.invariant c.in-Some.ensures.found) c.split_line.ensures.split
    (rw c.is_label.ensures at c.if-is_label.true)

pub returns-in_default-clause-front : goal.returns-in_default-clause-front
returns-in_default-clause-front c =
    let none = plain_rest _ _ c.lines.invariant c.in_default.ensures.found in none.1

pub returns-in_default-clause-label : goal.returns-in_default-clause-label
returns-in_default-clause-label c =
    let none = plain_rest _ _ c.lines.invariant c.in_default.ensures.found in none.0

pub returns-in_default-below-clause-front : goal.returns-in_default-below-clause-front
returns-in_default-below-clause-front c =
    last_line_front _ _ _ (plain_cut _ _ _ c.lines.invariant c.in-Some.ensures.found)
    (rw c.in_default-below.is at c.split_line.ensures.split)
    (rw c.in_default-below.is at c.split_line.ensures.whole)
    (rw c.is_label.ensures at c.if-is_label.false)

pub returns-in_default-below-clause-label : goal.returns-in_default-below-clause-label
returns-in_default-below-clause-label c =
    last_line_labels _ _ _ (plain_cut _ _ _ c.lines.invariant c.in-Some.ensures.found)
    (rw c.in_default-below.is at c.split_line.ensures.split)
    (rw c.is_label.ensures at c.if-is_label.false)

pub returns-then-is_label-clause-whole : goal.returns-then-is_label-clause-whole
returns-then-is_label-clause-whole c =
    cut_at_line _ _ _ (plain_cut _ _ _ c.lines.invariant c.in-Some.ensures.found) refl
