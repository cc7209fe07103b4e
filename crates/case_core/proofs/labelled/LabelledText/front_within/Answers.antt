use Rattle.std.proofs.Common.{◌≡◌, ◌++◌, ◌∙◌, refl, rules, tests, true, false}
use Rattle.case_core.specs.Labelled.{HasFront}
use Rattle.case_core.proofs.LabelledParts.{front_more, front_none, part_done}
use Rattle.case_core.proofs.labelled.LabelledText.front_within.Given.{Over}
use Rattle.case_core.proofs.labelled.LabelledText.front_within.Goals.{After-len}
use Rattle.case_core.proofs.labelled.LabelledText.front_within.Goals as goal

-- what was taken where the text goes on
taken : (g : Over) (c : After-len g)
    → HasFront c.args.self.now c.advance.new.self (g.S.Stream.gives c.args.source.now)
    (g.S.Stream.gives c.advance.new.source) c.extend_from_slice.new.self.items
taken g c =
    let more : c.in_ok-advance.field-0 ≡ true = search rules in
    let added : c.extend_from_slice.new.self.items
    ≡ c.loop-lines.lines.items ++ c.loop-lines.self.ready = search rules in
    rw added
    (front_more _ c.loop-lines.self c.advance.new.self _ _ _ c.loop-lines.lines.items
    c.loop-lines.invariant.read (rw more at c.in_ok-advance.ensures.gone) c.ready.ensures.plain)

pub loop-lines-init : goal.loop-lines-init
loop-lines-init g c = record {
  count = refl;
  read = rw c.clear.ensures.items (front_none c.args.self.now _);
}

pub returns-then-not-branch-clause-taken : goal.returns-then-not-branch-clause-taken
returns-then-not-branch-clause-taken g c =
    let more : c.in_ok-advance.field-0 ≡ false = search rules in
    let added : c.extend_from_slice.new.self.items
    ≡ c.loop-lines.lines.items ++ c.loop-lines.self.ready = search rules in
    rw added
    (part_done _ c.loop-lines.self c.advance.new.self _ _ _ c.loop-lines.lines.items
    c.loop-lines.invariant.read (rw more at c.in_ok-advance.ensures.gone) c.ready.ensures.plain)

pub returns-then-len-most-clause-taken : goal.returns-then-len-most-clause-taken
returns-then-len-most-clause-taken g c = (taken g c.before, search (rules, tests))

pub loop-lines-preserved : goal.loop-lines-preserved
loop-lines-preserved g c = record {
  count = c.in_ok-advance.ensures.ok ∙ c.loop-lines.invariant.count;
  read = taken g c.before;
}
