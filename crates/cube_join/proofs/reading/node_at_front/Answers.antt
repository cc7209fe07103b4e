use Rattle.std.proofs.Common.{◌∷◌, ◌++◌, ◌∙◌, sym}
use Rattle.node_fields.specs.Fields.{status_fields}
use Rattle.split_tree.specs.SplitTree.{path_at}
use Rattle.split_tree.proofs.NavigationPaths.{one_node}
use Rattle.cube_join.specs.Inner.Fields.{path_text}
use Rattle.cube_join.proofs.ReadingFronts.{node_text, node_path, status_ends}
use Rattle.cube_join.proofs.reading.node_at_front.Goals as goal

pub returns-in_default-clause-complete : goal.returns-in_default-clause-complete
returns-in_default-clause-complete c = λ node mark rest inside is are step e.
    c.in_default.ensures
    (path_text (path_at c.args.tree.now node) (status_fields mark ++ 10 ∷ rest))
    (e ∙ node_text (path_at c.args.tree.now node) mark rest)

pub returns-in_default-2-clause-complete : goal.returns-in_default-2-clause-complete
returns-in_default-2-clause-complete c = λ node mark rest inside is are step e.
    let read = c.in_ok-path.ensures (path_at c.args.tree.now node) (status_fields mark ++ 10 ∷ rest)
    are (status_ends mark (10 ∷ rest))
    (node_path (path_at c.args.tree.now node) mark c.args.text.now c.in-Some.path.now rest
    c.in-Some.ensures e) in
    rw c.in_default-2.is at read

pub returns-in_default-node_of-clause-complete : goal.returns-in_default-node_of-clause-complete
returns-in_default-node_of-clause-complete c = λ node mark rest inside is are step e.
    let read = c.in_ok-path.ensures (path_at c.args.tree.now node) (status_fields mark ++ 10 ∷ rest)
    are (status_ends mark (10 ∷ rest))
    (node_path (path_at c.args.tree.now node) mark c.args.text.now c.in-Some.path.now rest
    c.in-Some.ensures e) in
    let both = rw c.in-Some-2.is at read in
    c.in_default-node_of.ensures node inside is (sym (c.deref.ensures.value ∙ both.0))

pub returns-in_default-status_at_front-clause-complete :
    goal.returns-in_default-status_at_front-clause-complete
returns-in_default-status_at_front-clause-complete c = λ node mark rest inside is are step e.
    let read = c.in_ok-path.ensures (path_at c.args.tree.now node) (status_fields mark ++ 10 ∷ rest)
    are (status_ends mark (10 ∷ rest))
    (node_path (path_at c.args.tree.now node) mark c.args.text.now c.in-Some.path.now rest
    c.in-Some.ensures e) in
    let both = rw c.in-Some-2.is at read in
    c.in_default-status_at_front.ensures mark rest step both.1

pub returns-clause-complete : goal.returns-clause-complete
returns-clause-complete c = λ node mark rest inside is are step e.
    let read = c.in_ok-path.ensures (path_at c.args.tree.now node) (status_fields mark ++ 10 ∷ rest)
    are (status_ends mark (10 ∷ rest))
    (node_path (path_at c.args.tree.now node) mark c.args.text.now c.in-Some.path.now rest
    c.in-Some.ensures e) in
    let both = rw c.in-Some-2.is at read in
    let status = c.in-Some-status_at_front.ensures mark rest step both.1 in
    let path = c.in-Some-node_of.ensures.2 ∙ (c.deref.ensures.value ∙ both.0) in (
      c.index.ensures.value
          ∙ one_node c.args.tree.now c.in-Some-node_of.node node c.in-Some-node_of.ensures.0 inside
          path,
      status.0,
      status.1,
    )
