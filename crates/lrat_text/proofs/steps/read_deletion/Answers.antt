use Rattle.std.proofs.Common.{◌∙◌}
use Rattle.std.proofs.lemmas.Result.{err_from_is_err_and}
use Rattle.lrat_text.proofs.BufferGroups.{deletion_read}
use Rattle.lrat_text.proofs.GrammarDecoding.{no_step_deletion}
use Rattle.lrat_text.proofs.OpenMore.{ids_end}
use Rattle.lrat_text.proofs.steps.read_deletion.Goals as goal

pub returns-in_err-rest-clause-err : goal.returns-in_err-rest-clause-err
returns-in_err-rest-clause-err g c =
    let p = err_from_is_err_and c.from_residual.result c.from_residual.ensures.1 in
    rw (p.1, p.2) (λ more allowed front.
    no_step_deletion front _ (c.in_err-rest.ensures.err more allowed))

pub returns-in_err-rest-clause-unfinished : goal.returns-in_err-rest-clause-unfinished
returns-in_err-rest-clause-unfinished g c =
    let p = err_from_is_err_and c.from_residual.result c.from_residual.ensures.1 in
    rw (p.1, p.2) (λ unfinished front bound.
    ids_end front _ bound (c.in_err-rest.ensures.unfinished unfinished))

pub returns-clause-ok : goal.returns-clause-ok
returns-clause-ok g c = λ front bound.
    deletion_read front _ _ _ c.read_ids.new.ids.items bound
    (c.len-buffer-inside.ensures ∙ c.read_ids.new.ids.ok.0) c.in_ok-rest.ensures.ok
