use Rattle.std.proofs.Common.{◌≡◌, ℕ, refl}
use Rattle.split_tree.specs.Leaves.{IsTargetAt}
use Rattle.case_core.proofs.FindingUnique.{stands_there, found_by, found_beside, only_there}
use Rattle.case_core.proofs.examiner.finding_beside.Goals.{After-number-node}
use Rattle.case_core.proofs.examiner.finding_beside.Goals as goal

-- the target stands at its node, and there alone
here : (c : After-number-node) → IsTargetAt c.args.case.now.tree c.number-node.result c.args.target
here c =
    stands_there _ _ _ c.number-node.result c.args.target c.tree.ensures.tree c.number-node.ensures
    c.node_of_target.ensures.here

only : (c : After-number-node) → (i : ℕ) → IsTargetAt c.args.case.now.tree i c.args.target →
    i ≡ c.number-node.result
only c =
    only_there _ _ c.args.target c.args.target c.node_of_target.result c.number-node.result
    c.tree.ensures.tree c.number-node.ensures refl c.node_of_target.ensures.only

pub invariant_of-result : goal.invariant_of-result
invariant_of-result c =
    let found =
    found_beside c.args.case.now c.args.target _ c.requires.judged.0 c.args.judged
    c.number-node.result (c.leaf_of.ensures c.args.case.now.tree c.number-node.result
    (here c.before))
    c.requires.none (here c.before) (only c.before) c.requires.judged.1 in
    record { here = found.0; only = found.1; is = found.2; sound = found.3 }

pub returns-clause-target : goal.returns-clause-target
returns-clause-target c =
    c.leaf_of.ensures c.args.case.now.tree c.number-node.result (here c.before.before)

pub returns-clause-found : goal.returns-clause-found
returns-clause-found c = λ text judged.
    (found_by c.args.case.now c.args.target text c.args.judged c.number-node.result
    (only c.before.before)
    judged).0
