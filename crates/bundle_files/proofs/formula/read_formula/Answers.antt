use Rattle.std.proofs.Common.{◌∙◌}
use Rattle.file_store.specs.Files.{may_lie_at}
use Rattle.bundle_files.proofs.FormulaReading.{formula_read, in_place}
use Rattle.bundle_files.proofs.formula.read_formula.Goals as goal

pub returns-clause-read : goal.returns-clause-read
returns-clause-read g c = (
  _,
  formula_read (may_lie_at (g.D.Store.held c.args.store.now)) c.args.path.now
      c.new-text.result.items c.append_file.new.bytes.items c.deref.result.now
      c.deref_mut.result.now c.overwrite_header.new.text _ c.in_ok-problem.problem
      c.in_ok-append_file.ensures.read c.new-text.ensures.items c.deref.ensures.value
      c.in_ok-problem.ensures.ok c.deref_mut.ensures.value c.overwrite_header.ensures
      (in_place c.overwrite_header.new.text _ _
      (c.overwrite_header.auto.text ∙ c.deref_mut.ensures.len)),
  c.in_ok-push.ensures.items,
)

pub returns-clause-handed : goal.returns-clause-handed
returns-clause-handed g c = (
  _,
  formula_read g.D.Store.hands c.args.path.now c.new-text.result.items
      c.append_file.new.bytes.items c.deref.result.now c.deref_mut.result.now
      c.overwrite_header.new.text _ c.in_ok-problem.problem c.in_ok-append_file.ensures.handed
      c.new-text.ensures.items c.deref.ensures.value c.in_ok-problem.ensures.ok
      c.deref_mut.ensures.value c.overwrite_header.ensures
      (in_place c.overwrite_header.new.text _ _
      (c.overwrite_header.auto.text ∙ c.deref_mut.ensures.len)),
  c.in_ok-push.ensures.items,
)
