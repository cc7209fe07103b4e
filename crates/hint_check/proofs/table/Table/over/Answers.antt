use Rattle.std.proofs.Common.{refl, ap, ◌∙◌, arith}
use Rattle.hint_check.specs.Inner.Table.{front_alone}
use Rattle.hint_check.proofs.TableParts.{tabled-front-alone, IsTable-new}
use Rattle.hint_check.proofs.table.Table.over.Goals as goal

pub invariant_of-result : goal.invariant_of-result
invariant_of-result c =
    let parts = c.into_parts-blocks.result in
    IsTable-new parts.0.items parts.2.items c.new.result (record {
      slots = c.in_ok-copy_of.field-0;
      blocks = c.len.result;
      reach = parts.1;
    }) (c.in_ok-copy_of.ensures ∙ c.deref.ensures.value) c.new.ensures parts.1 c.new-2.result.items
    (omega (arith, c.len.ensures, parts.0.ok.0)) refl
    c.into_parts-blocks.ensures.ends c.into_parts-blocks.ensures.within
    (omega (arith, parts.2.ok.0))

pub returns : goal.returns
returns c =
    let parts = c.into_parts-blocks.result in
    tabled-front-alone parts.0.items parts.2.items c.new.result (record {
      slots = c.in_ok-copy_of.field-0;
      blocks = c.len.result;
      reach = parts.1;
    }) (c.in_ok-copy_of.ensures ∙ c.deref.ensures.value) c.new.ensures
    ∙ ap front_alone c.into_parts-blocks.ensures.clauses
