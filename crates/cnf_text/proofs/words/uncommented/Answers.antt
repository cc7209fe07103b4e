use Rattle.std.proofs.Common.{[], sym, ◌∙◌, arith}
use Rattle.cnf_text.proofs.WordsLeft.{nothing_left, left_line, comment_left}
use Rattle.cnf_text.proofs.words.uncommented.Goals as goal

pub returns-then-not-is_comment-clause-words : goal.returns-then-not-is_comment-clause-words
returns-then-not-is_comment-clause-words c =
    left_line c.loop-below.left.now _ c.split_line.result.1 c.split_line.ensures.split
    (sym c.is_comment.ensures ∙ c.if-not-is_comment.true) ∙ c.loop-below.invariant.same

pub returns-in_default-clause-words : goal.returns-in_default-clause-words
returns-in_default-clause-words c =
    nothing_left
    ∙ sym (comment_left c.loop-below.left.now c.split_line.result.0.now []
    (rw c.in_default.is at c.split_line.ensures.split)
    (sym c.is_comment.ensures ∙ c.if-not-is_comment.false))
    ∙ c.loop-below.invariant.same

pub loop-below-preserved : goal.loop-below-preserved
loop-below-preserved c =
    let less = rw c.in-Some.is at c.split_line.ensures.shorter in
    record {
      same =
          sym (comment_left c.loop-below.left.now c.split_line.result.0.now _
          (rw c.in-Some.is at c.split_line.ensures.split)
          (sym c.is_comment.ensures ∙ c.if-not-is_comment.false))
          ∙ c.loop-below.invariant.same;
      within = omega (arith, less, c.loop-below.invariant.within);
    }
