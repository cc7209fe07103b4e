use Rattle.std.proofs.Common.{arith}
use Rattle.std.proofs.lemmas.List.Splits.{length-slice_split}
use Rattle.cnf_text.specs.Tokens.{is_line_end}
use Rattle.case_core.proofs.bundle.line_count.Goals as goal

pub returns : goal.returns
returns c =
    let count = length-slice_split is_line_end c.args.text.now in
    omega (arith, c.line_ends.ensures.value)
