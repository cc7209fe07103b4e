use Rattle.std.proofs.Common.{◌≡◌, ◌∙◌}
use Rattle.case_core.proofs.FindingUnique.{stands_there, found_of, only_there}
use Rattle.case_core.proofs.examiner.Examiner.examine.Goals as goal

pub invariant_of-result : goal.invariant_of-result
invariant_of-result c =
    let same : c.self.inside.case.now ≡ c.args.self.now =
    c.self.view_is ∙ c.in_ok-judged.ensures.same in
    let here =
    stands_there _ _ _ c.number-node.result c.args.target c.tree.ensures.tree c.number-node.ensures
    c.node_of_target.ensures.here in
    let found =
    found_of c.self.inside.case.now c.args.target _ c.number-node.result c.in-Some.judged
    (c.leaf_of.ensures _ _ here)
    (rw (c.in-Some.is, ← same) at c.in_ok-judged.ensures.found) here in
    record {
      here = found.0;
      only =
          only_there _ _ c.args.target _ c.node_of_target.result c.number-node.result
          c.tree.ensures.tree c.number-node.ensures (c.leaf_of.ensures _ _ here)
          c.node_of_target.ensures.only;
      is = found.2;
      sound = found.3;
    }

pub returns-clause-found : goal.returns-clause-found
returns-clause-found c =
    let here =
    stands_there _ _ _ c.number-node.result c.args.target c.tree.ensures.tree c.number-node.ensures
    c.node_of_target.ensures.here in
    let found = rw c.in-Some.is at c.in_ok-judged.ensures.found in
    (found.0, c.self.view_is ∙ c.in_ok-judged.ensures.same, c.leaf_of.ensures _ _ here, found.1)
