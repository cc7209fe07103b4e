use Rattle.std.proofs.Common.{◌≡◌, sym, subst}
use Rattle.std.proofs.lemmas.Result.{IfOk-weaker}
use Rattle.hint_check.specs.Judging.{says}
use Rattle.hint_check.specs.declared.Judged.{Judged}
use Rattle.case_core.specs.Case.{CaseOf}
use Rattle.case_core.specs.Inner.Finding.{IsJudgement}
use Rattle.case_core.proofs.examiner.Examiner.judge_proof.Goals as goal

pub returns-clause-judged : goal.returns-clause-judged
returns-clause-judged c =
    IfOk-weaker c.last.result (λ judged. judged ≡ says c.begin_proof.new.judging c.args.proof.now)
    (λ judged. IsJudgement c.args.self.now c.args.target c.args.proof.now judged)
    (λ judged is.
    subst (λ (j : Judged). IsJudgement c.args.self.now c.args.target c.args.proof.now j) (sym is)
    (subst (λ (case : CaseOf). IsJudgement case c.args.target c.args.proof.now
    (says c.begin_proof.new.judging c.args.proof.now)) c.self.view_is
    (c.in_ok-begin_proof.ensures.begun c.args.proof.now)))
    c.last.ensures.told
