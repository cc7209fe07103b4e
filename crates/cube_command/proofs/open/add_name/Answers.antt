use Rattle.std.proofs.Common.{◌∙◌, sym, rules}
use Rattle.cube_command.proofs.OpenNames.{cube_line, missing_line, other_line, refuted_line}
use Rattle.cube_command.proofs.open.add_name.Goals as goal

pub returns-then-ends_with : goal.returns-then-ends_with
returns-then-ends_with c =
    let name = refuted_line c.args.line.now (sym c.ends_with.ensures.value ∙ c.if-ends_with.true) in
    rw name (search rules)

pub returns-then-starts_with : goal.returns-then-starts_with
returns-then-starts_with c =
    let name = cube_line c.args.line.now (sym c.ends_with.ensures.value ∙ c.if-ends_with.false)
    (sym c.starts_with.ensures.value ∙ c.if-starts_with.true) in
    rw name c.add_number.ensures

pub returns-then-starts_with-2 : goal.returns-then-starts_with-2
returns-then-starts_with-2 c =
    let name = missing_line c.args.line.now (sym c.ends_with.ensures.value ∙ c.if-ends_with.false)
    (sym c.starts_with.ensures.value ∙ c.if-starts_with.false)
    (sym c.starts_with-2.ensures.value ∙ c.if-starts_with-2.true) in
    rw name c.add_number-then-starts_with-2.ensures

pub returns : goal.returns
returns c =
    let name = other_line c.args.line.now (sym c.ends_with.ensures.value ∙ c.if-ends_with.false)
    (sym c.starts_with.ensures.value ∙ c.if-starts_with.false)
    (sym c.starts_with-2.ensures.value ∙ c.if-starts_with-2.false) in
    rw name (search rules)
