use Rattle.std.proofs.Common.{sym, ap, ◌∙◌}
use Rattle.std.specs.Option.{option_or}
use Rattle.std.specs.FinMap as fin
use Rattle.hint_check.specs.Inner.Table.{far_at}
use Rattle.hint_check.proofs.TableEntries.{table-get, near-all}
use Rattle.hint_check.proofs.table.TableView.get.Goals as goal

pub returns-in-Some : goal.returns-in-Some
returns-in-Some c =
    let t = c.self.inside in
    let far = far_at t.blocks.list.now t.far.now c.args.id in
    ap (λ o. option_or o far)
    (c.in-Some.ensures ∙ sym (near-all t.blocks.list.now t.slots.now c.args.id))
    ∙ sym (table-get t.blocks.list.now 0 t.slots.now t.far.now c.args.id)
    ∙ ap (λ m. fin.get m c.args.id) c.self.view_is

pub returns-in-None : goal.returns-in-None
returns-in-None c =
    let t = c.self.inside in
    let far = far_at t.blocks.list.now t.far.now c.args.id in
    c.far_clause.ensures
    ∙ ap (λ o. option_or o far)
    (c.in-None.ensures ∙ sym (near-all t.blocks.list.now t.slots.now c.args.id))
    ∙ sym (table-get t.blocks.list.now 0 t.slots.now t.far.now c.args.id)
    ∙ ap (λ m. fin.get m c.args.id) c.self.view_is
