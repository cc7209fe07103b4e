use Rattle.std.proofs.Common.{◌≡◌, ◌∙◌, ◌+◌, ℕ, ap, rules}
use Rattle.case_core.proofs.SectionsMore.{fault_twice}
use Rattle.case_core.proofs.label_line.LabelLine.twice.Goals as goal

pub returns-in-Some : goal.returns-in-Some
returns-in-Some c = λ some done text below whole target of at lines is named has.
    let number : c.in-Some.line ≡ c.args.self.now.lines + 1 = search rules in
    fault_twice done text c.args.self.now.line.items below at is whole target c.in-Some.line of
    (number ∙ ap (λ (n : ℕ). n + 1) lines) named has
