use Rattle.std.proofs.Common.{◌≡◌, ◌∙◌, ap₂, codes}
use Rattle.std.proofs.lemmas.Result.{IfOk-weaker}
use Rattle.clap.specs.Words.{app_of, new_app, with_rule}
use Rattle.cube_command.specs.Words.{flag_word, path_word, with_version}
use Rattle.join_command.specs.Words.{needed_file_word}
use Rattle.join_command.proofs.words.parser.Goals as goal

pub returns : goal.returns
returns c =
    let first : app_of c.in_ok-arg.field-0
    ≡ with_rule (with_version (new_app (codes "cubejoin"))) (path_word (codes "formula")) =
    c.in_ok-arg.ensures.shape c.formula_word.ensures.own
    ∙ ap₂ with_rule c.texts.ensures c.formula_word.ensures.rule in
    let second : app_of c.in_ok-arg-2.field-0
    ≡ with_rule (with_rule (with_version (new_app (codes "cubejoin")))
    (path_word (codes "formula"))) (flag_word (codes "unbound")) =
    c.in_ok-arg-2.ensures.shape c.unbound_word.ensures.own
    ∙ ap₂ with_rule first c.unbound_word.ensures.rule in
    let third : app_of c.in_ok-arg-3.field-0
    ≡ with_rule (with_rule (with_rule (with_version (new_app (codes "cubejoin")))
    (path_word (codes "formula"))) (flag_word (codes "unbound"))) needed_file_word =
    c.in_ok-arg-3.ensures.shape c.file_word.ensures.own
    ∙ ap₂ with_rule second c.file_word.ensures.rule in
    IfOk-weaker c.arg-4.result _ _
    (λ parser adds. adds.shape c.records_word.ensures.own
    ∙ ap₂ with_rule third c.records_word.ensures.rule) c.arg-4.ensures
