use Rattle.std.proofs.Common.{List, None, subst}
use Rattle.cnf_text.specs.Literal.{Literal}
use Rattle.split_tree.specs.Leaves.{IsNodeOf}
use Rattle.case_core.proofs.LabelNames.{no_node_in_range, no_node}
use Rattle.case_core.proofs.label.node_named.Goals as goal

pub returns-in_default-clause-err : goal.returns-in_default-clause-err
returns-in_default-clause-err c =
    let r = rw c.in_default.is at c.in_ok-path.ensures.ok in
    no_node_in_range _ _ r.0 c.requires r.1 r.2

pub returns-in_default-node_of-clause-err : goal.returns-in_default-node_of-clause-err
returns-in_default-node_of-clause-err c =
    no_node _ _ c.in-Some.path.items (rw c.in-Some.is at c.in_ok-path.ensures.ok)
    (subst (λ (path : List Literal). IsNodeOf c.args.tree.now path None) c.deref.ensures.value
    (rw c.in_default-node_of.is at c.node_of.ensures))
