use Rattle.std.proofs.Common.{ℕ, List, [], sym, subst}
use Rattle.case_core.specs.Inner.Sections.{AreKept}
use Rattle.case_core.proofs.CaseTables.{nothing_kept}
use Rattle.case_core.proofs.sections.Sections.new.Goals as goal

pub returns : goal.returns
returns c = (
  c.new.ensures.items,
  subst (λ (places : List ℕ). AreKept c.args.tree.now [] places)
      (sym (c.in_ok-places.ensures.items_if_clones_equal (λ y e. e)))
      (nothing_kept c.args.tree.now c.size.result c.size.ensures),
)
