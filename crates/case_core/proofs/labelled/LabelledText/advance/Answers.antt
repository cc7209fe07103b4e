use Rattle.std.proofs.Common.{◌≡◌, ◌+◌, ◌<◌, ltb, subst, List, ℕ, rules, tests, true, false}
use Rattle.case_core.specs.Inner.Labelled.{IsCutFrom}
use Rattle.case_core.proofs.LabelledBlocks.{counted_by, goes_on_by, is_over_by, kept_at_end}
use Rattle.case_core.proofs.LabelledBlocks.{next_ready, nothing_kept, passed_ready}
use Rattle.case_core.proofs.labelled.LabelledText.advance.Goals as goal

pub invariant_of-self : goal.invariant_of-self
invariant_of-self g c =
    kept_at_end c.self.inside.buffer c.self.inside.at c.self.inside.end c.self.inside.is_last
    c.self.invariant

pub returns-then-is_over-clause-gone : goal.returns-then-is_over-clause-gone
returns-then-is_over-clause-gone g c =
    let count : c.in-Some.lines ≡ c.self.inside.lines + c.line_ends-ends.result = search rules in
    passed_ready c.args.self.now c.self.inside.buffer c.self.inside.at c.self.inside.end
    c.self.inside.lines c.in-Some.lines c.self.inside.is_last _ c.self.view_is c.self.invariant
    (is_over_by _ c.block-block.result.now c.self.inside.end c.self.inside.is_last c.is_empty.result
    c.block-block.ensures c.is_empty.ensures c.if-is_over.true)
    (counted_by _ c.block-block.result.now c.self.inside.at c.self.inside.end c.self.inside.lines
    c.line_ends-ends.result c.in-Some.lines c.block-block.ensures c.self.invariant.cut.ordered
    c.line_ends-ends.ensures.value count)

pub invariant_of-self-in_err-is_whole : goal.invariant_of-self-in_err-is_whole
invariant_of-self-in_err-is_whole g c =
    let on =
    goes_on_by c.self.inside.buffer.block c.block-block.result.now c.self.inside.end
    c.self.inside.is_last c.is_empty.result c.block-block.ensures c.is_empty.ensures
    c.if-is_over.false in
    nothing_kept c.refill.new.self c.self.inside.is_last c.in_err-is_whole.ensures.begun.none on.0

pub returns-clause-gone : goal.returns-clause-gone
returns-clause-gone g c =
    let on =
    goes_on_by c.self.inside.buffer.block c.block-block.result.now c.self.inside.end
    c.self.inside.is_last c.is_empty.result c.block-block.ensures c.is_empty.ensures
    c.if-is_over.false in
    let count : c.in-Some.lines ≡ c.self.inside.lines + c.line_ends-ends.result = search rules in
    let some : ltb 0 c.cut_from-self-inside.result ≡ true → 0 < c.cut_from-self-inside.result =
    λ is. search (rules, tests) in
    let none : ltb 0 c.cut_from-self-inside.result ≡ false → c.cut_from-self-inside.result ≡ 0 =
    λ is. search (rules, tests) in
    next_ready c.args.self.now c.self.inside.buffer c.refill.new.self c.self.inside.at
    c.self.inside.end c.self.inside.lines c.cut_from-self-inside.result c.in-Some.lines
    c.self.inside.is_last c.in_ok-is_whole.is_whole _ _ _ c.self.view_is c.self.invariant on.0 on.1
    c.in_ok-is_whole.ensures.block
    (subst (λ (b : List ℕ). IsCutFrom b 0 c.cut_from-self-inside.result) c.block.ensures
    c.cut_from-self-inside.ensures)
    (counted_by _ c.block-block.result.now c.self.inside.at c.self.inside.end c.self.inside.lines
    c.line_ends-ends.result c.in-Some.lines c.block-block.ensures c.self.invariant.cut.ordered
    c.line_ends-ends.ensures.value count)
    some none
