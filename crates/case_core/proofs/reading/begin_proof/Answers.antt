use Rattle.std.proofs.Common.{sym, subst, List}
use Rattle.std.proofs.lemmas.Result.{on_ok_weaker}
use Rattle.cnf_text.specs.Literal.{Literal}
use Rattle.split_tree.specs.SplitTree.{SplitTree}
use Rattle.split_tree.specs.Leaves.{IsPathOf}
use Rattle.case_core.proofs.ReadingParts.{begun}
use Rattle.case_core.proofs.reading.begin_proof.Goals as goal

pub returns-clause-begun : goal.returns-clause-begun
returns-clause-begun c =
    on_ok_weaker c.begin.result
    (begun c.args.case.now c.args.target c.args.judging.now.formula c.deref.result.now
    c.begin.new.self c.requires.formula
    (subst (λ (path : List Literal). IsPathOf c.args.case.now.tree c.args.target path)
    (sym c.deref.ensures.value)
    (subst (λ (t : SplitTree). IsPathOf t c.args.target c.in_ok-path.path.items)
    c.tree.ensures.tree c.in_ok-path.ensures)))
    c.begin.ensures.told
