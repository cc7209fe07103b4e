use Rattle.std.proofs.Common.{sym, ◌∙◌}
use Rattle.std.proofs.lemmas.Bool.{OnTrue_from}
use Rattle.bundle_files.proofs.FormulaLines.{bare_by, comment_bare, other_by}
use Rattle.bundle_files.proofs.formula.is_bare.Goals as goal

pub returns-then-is_comment-clause-bare : goal.returns-then-is_comment-clause-bare
returns-then-is_comment-clause-bare c =
    OnTrue_from c.is_comment.result _
    (λ _. comment_bare c.args.line.now (sym c.is_comment.ensures ∙ c.if-is_comment.true))

pub returns-else-is_comment-clause-bare : goal.returns-else-is_comment-clause-bare
returns-else-is_comment-clause-bare c =
    bare_by c.args.line.now c.first_word.result (λ f. f.0.now) (λ f. f.1.now) c.is_none.result
    c.is_none.ensures c.first_word.ensures

pub returns-else-is_comment-clause-other : goal.returns-else-is_comment-clause-other
returns-else-is_comment-clause-other c =
    other_by c.args.line.now c.first_word.result (λ f. f.0.now) (λ f. f.1.now) c.is_none.result
    (sym c.is_comment.ensures ∙ c.if-is_comment.false) c.is_none.ensures c.first_word.ensures
