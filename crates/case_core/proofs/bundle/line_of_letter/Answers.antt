use Rattle.case_core.proofs.BundleLetters.{letter_found}
use Rattle.case_core.proofs.bundle.line_of_letter.Goals.{in-Some, in-None}
use Rattle.case_core.proofs.bundle.line_of_letter.Goals as goal

pub returns-clause-found : goal.returns-clause-found
returns-clause-found c =
    letter_found c.args.text.now c.in_ok-letter.letter c.match-memrchr.start c.memrchr.result
    c.in_ok-letter.ensures c.memrchr.ensures
    (elim c.match-memrchr.branch [
      | in-Some w ↦ rw w.in-Some.is w.start-is
      | in-None w ↦ rw w.in-None.is w.start-is
    ])
