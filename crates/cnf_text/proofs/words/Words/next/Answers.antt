use Rattle.std.proofs.Common.{sym, ◌∙◌}
use Rattle.cnf_text.proofs.NumbersDigits.{told_plain}
use Rattle.cnf_text.proofs.words.Words.next.Goals as goal

pub returns-in-Some : goal.returns-in-Some
returns-in-Some c = (
  c.in-Some.ensures.found.0,
  sym c.self.view_is ∙ c.in-Some.ensures.found.1,
  told_plain _ _ c.in-Some.ensures.found.2 c.in-Some.ensures.found.3,
)
