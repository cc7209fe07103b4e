use Rattle.std.proofs.Common.{◌==◌, sym, ap, subst, ◌∙◌}
use Rattle.std.specs.List.{list_any}
use Rattle.std.specs.List.Sorted.{IsSorted}
use Rattle.std.specs.Ordering.{nat_cmp}
use Rattle.hint_check.proofs.OrderedIds.{found}
use Rattle.hint_check.proofs.in_order.InOrder.contains.Goals as goal

pub returns : goal.returns
returns c =
    c.is_ok.ensures.value
    ∙ found c.deref.result.now c.args.id c.binary_search.result c.binary_search.ensures.position
    (subst (IsSorted nat_cmp) (sym c.deref.ensures.value) c.self.invariant)
    ∙ ap (list_any (λ named. named == c.args.id)) (c.deref.ensures.value ∙ c.self.view_is)
