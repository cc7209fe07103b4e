use Rattle.std.proofs.Common.{◌≡◌, List, ap, sym, ◌∙◌}
use Rattle.std.proofs.lemmas.Result.{IfOk-weaker}
use Rattle.cnf_text.specs.Literal.{Literal}
use Rattle.cnf_text.specs.Formula.{IsRefuted}
use Rattle.lrat_text.specs.Proof.{Proof, IsProofOf}
use Rattle.lrat_text.proofs.ProofUnique.{has_proof}
use Rattle.hint_check.specs.Live.{start}
use Rattle.hint_check.specs.Judgement.{judged_by, judgement}
use Rattle.hint_check.specs.Judging.{says}
use Rattle.hint_check.specs.declared.Judged.TheVariants.{Refuted}
use Rattle.hint_check.proofs.JudgementSound.{judgement-refutes}
use Rattle.hint_check.proofs.judge.Judge.judge.Goals as goal

pub returns-clause-judgement : goal.returns-clause-judgement
returns-clause-judgement c =
    IfOk-weaker c.last.result (λ judged. judged ≡ says c.begin.new.self c.args.text.now)
    (λ judged. (proof : Proof) → IsProofOf c.args.text.now proof →
    judged ≡ judged_by (start c.args.self.now c.args.path.now) proof)
    (λ judged is proof of_text. is ∙ c.in_ok-begin.ensures.told c.args.text.now proof of_text
    ∙ ap (λ (formula : List (List Literal)). judgement formula c.args.path.now proof)
    c.self.view_is)
    c.last.ensures.told

pub returns-clause-refuted : goal.returns-clause-refuted
returns-clause-refuted c =
    let known = has_proof c.args.text.now in
    let proof : Proof = known.0 in
    IfOk-weaker c.last.result (λ judged. judged ≡ says c.begin.new.self c.args.text.now)
    (λ judged. judged ≡ Refuted → IsRefuted c.args.self.now c.args.path.now)
    (λ judged is refuted. judgement-refutes c.args.self.now c.args.path.now proof
    (sym (is ∙ c.in_ok-begin.ensures.told c.args.text.now proof known.1
    ∙ ap (λ (formula : List (List Literal)). judgement formula c.args.path.now proof)
    c.self.view_is) ∙ refuted))
    c.last.ensures.told
