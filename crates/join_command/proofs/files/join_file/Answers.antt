use Rattle.std.proofs.Common.{◌∙◌, List, ℕ, refl, subst, sym}
use Rattle.join_command.proofs.FilesJoined.{stranger_behind}
use Rattle.join_command.proofs.files.join_file.Goals as goal

pub returns-in_default-clause-err : goal.returns-in_default-clause-err
returns-in_default-clause-err g c = (
  refl,
  c.in_ok-text.ensures.ok,
  (
    c.in_ok-text.text.items,
    c.in_ok-text.ensures.text,
    λ report is. absurd (c.in_default.ensures report (c.deref.ensures.value ∙ is)),
  ),
)

pub returns-then-not-is_report-clause-err : goal.returns-then-not-is_report-clause-err
returns-then-not-is_report-clause-err g c = (
  refl,
  c.in_ok-text.ensures.ok,
  (
    c.in_ok-text.text.items,
    c.in_ok-text.ensures.text,
    stranger_behind c.args.line.now c.in_ok-text.text.items c.in-Some.report.now
        c.args.join.now.tree (sym c.deref.ensures.value ∙ c.in-Some.ensures)
        (c.in_ok-is_report.ensures.stranger c.if-not-is_report.true c.requires.legible),
  ),
)

pub returns-clause-joined : goal.returns-clause-joined
returns-clause-joined g c =
    let joined = c.in_ok-is_report.ensures.joined c.if-not-is_report.false in (
      c.in-Some.report.now,
      (
        rw (sym c.deref.ensures.value ∙ c.in-Some.ensures) at c.in_ok-text.ensures.text,
        subst (λ (text : List ℕ). g.D.Store.hands c.args.path.now text)
            (sym c.deref.ensures.value ∙ c.in-Some.ensures) c.in_ok-text.ensures.handed,
      ),
      joined.0,
      joined.1,
      joined.2,
    )
