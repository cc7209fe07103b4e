use Rattle.std.proofs.Common.{◌≡◌, ◌+◌, subst, List, ℕ, rules, sym, ◌∙◌}
use Rattle.case_core.specs.Inner.Labelled.{labelled_text}
use Rattle.case_core.specs.Labelled.{IsLabelTaken}
use Rattle.case_core.proofs.LabelledBlocks.{label_taken, rest_at, some_rest}
use Rattle.case_core.proofs.labelled.LabelledText.take_label.Goals as goal

pub returns : goal.returns
returns c =
    let buffer = c.self.inside.buffer in
    let more : c.in-Some.lines ≡ c.self.inside.lines + 1 = search rules in
    let same : c.split_line.result.0.now ≡ c.in_ok-line.line.items = search rules in
    let split =
    rw (rest_at c.block-block.result.now c.self.inside.end, c.block-block.ensures)
    at c.split_line.ensures.split in
    let whole =
    rw (rest_at c.block-block.result.now c.self.inside.end, c.block-block.ensures)
    at c.split_line.ensures.whole in
    record {
      label =
          subst (λ (line : List ℕ). IsLabelTaken c.args.self.now
          (labelled_text buffer c.begin_of-start.result c.cut_from-end.result c.self.inside.is_last
          c.in-Some.lines) line c.self.inside.lines) same
          (label_taken c.args.self.now buffer c.self.inside.at c.self.inside.end
          c.self.inside.lines c.begin_of-start.result c.cut_from-end.result c.in-Some.lines
          c.self.inside.is_last c.split_line.result.0.now c.split_line.result.1 c.self.view_is
          c.self.invariant
          (some_rest buffer.block c.block-block.result.now c.self.inside.end c.block-block.ensures
          (sym c.if-is_empty.false ∙ c.is_empty.ensures))
          (split, whole) (rw c.block-block.ensures at c.begin_of-start.ensures)
          (rw c.block-block.ensures at c.cut_from-end.ensures) more);
    }
