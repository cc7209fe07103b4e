use Rattle.bundle_files.proofs.FormulaPlace.{overwritten}
use Rattle.bundle_files.proofs.formula.overwrite_header.Goals as goal

pub returns : goal.returns
returns c =
    overwritten c.args.text.now c.write_header_at.new.text _ _ c.first_line-start.ensures
    c.write_header_at.ensures
