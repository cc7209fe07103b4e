use Rattle.std.proofs.Common.{◌≡◌, false, rules, sym, subst, ℕ, None}
use Rattle.case_core.specs.Target.TheVariants.{Node}
use Rattle.proof_folder.specs.TargetProofs.{IsGiven}
use Rattle.check_crew.proofs.ApartRight.{noted_more}
use Rattle.check_crew.proofs.target_order.add_node.Goals as goal

pub returns-clause-absent : goal.returns-clause-absent
returns-clause-absent g c = λ were.
    let no : c.may_have.result ≡ false = search rules in
    noted_more (λ (n : ℕ). IsGiven (g.P.TargetProofs.held c.args.first.now (Node n)) None)
    c.args.absent.now.items c.index.result were
    (subst (λ (n : ℕ). IsGiven (g.P.TargetProofs.held c.args.first.now (Node n)) None)
    (sym c.index.ensures.value) (c.may_have.ensures no))
