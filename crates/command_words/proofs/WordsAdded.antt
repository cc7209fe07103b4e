-- A parser with one more argument, as its definition says.
use Rattle.std.proofs.Common.{◌≡◌, ◌∙◌, ap, false, Result, IfOk}
use Rattle.std.proofs.lemmas.Result.{IfOk-weaker}
use Rattle.clap.specs.Words.{AddsArg, App, Rule, app_of, rule_of, with_rule}
use Rattle.clap.specs.declared.builder.arg.Arg.{Arg}
use Rattle.clap.specs.declared.builder.command.Command.{Command}

pub added : (old new : Command) (arg : Arg) (app : App) (rule : Rule) → app_of old ≡ app
    → rule_of arg ≡ rule → arg.global ≡ false → AddsArg old arg new
    → app_of new ≡ with_rule app rule
added old new arg app rule is rules own adds =
    adds.shape own ∙ ap (λ (a : App). with_rule a (rule_of arg)) is ∙ ap (with_rule app) rules

-- the same, unless memory is refused
pub added_last : {E : Type 0} (old : Command) (run : Result Command E) (arg : Arg) (app : App)
    (rule : Rule) → app_of old ≡ app → rule_of arg ≡ rule → arg.global ≡ false
    → IfOk run (λ new. AddsArg old arg new) → IfOk run (λ new. app_of new ≡ with_rule app rule)
added_last old run arg app rule is rules own adds =
    IfOk-weaker run (λ new. AddsArg old arg new) (λ new. app_of new ≡ with_rule app rule)
    (λ new. added old new arg app rule is rules own) adds
