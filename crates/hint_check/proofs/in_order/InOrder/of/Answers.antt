use Rattle.std.proofs.Common.{◌==◌, sym}
use Rattle.std.proofs.lemmas.List.Sorted.{list_any-IsPermutation}
use Rattle.hint_check.proofs.in_order.InOrder.of.Goals as goal

pub returns : goal.returns
returns c = λ id.
    sym (list_any-IsPermutation (λ named. named == id) _ _ c.sort_unstable.ensures.permutation)
