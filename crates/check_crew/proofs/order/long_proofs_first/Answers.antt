use Rattle.std.proofs.Common.{length, refl, arith}
use Rattle.std.proofs.lemmas.Iterator.{items_from_collect, YieldsList-from_range}
use Rattle.check_crew.proofs.OrderPlaces.{sorted_order}
use Rattle.check_crew.proofs.SeenSections.{as_many}
use Rattle.check_crew.proofs.order.long_proofs_first.Goals as goal

pub returns : goal.returns
returns c =
    let count =
    as_many c.args.case.now c.sections-count.result.now c.sections-count.ensures.targets_are in
    let listed =
    items_from_collect c.collect.result c.collect.ensures.ran
    (YieldsList-from_range 0 _ (length c.args.case.now.sections) refl (omega (arith, count))) in
    sorted_order _ _ _ (rw c.in_ok-order.was at listed) c.sort_by_key.ensures.permutation
