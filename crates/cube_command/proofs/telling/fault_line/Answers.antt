use Rattle.std.proofs.Common.{◌∙◌, sym, append_assoc, codes}
use Rattle.std.proofs.lemmas.Result.{IfOk-weaker}
use Rattle.cube_report.specs.Faults.{fault_text}
use Rattle.cube_command.proofs.telling.fault_line.Goals as goal

pub returns : goal.returns
returns c =
    IfOk-weaker c.format.result _ _
    (λ line is. is
    ∙ sym (append_assoc (codes "cubeboard: ") (fault_text c.args.fault) (codes "\n")))
    c.format.ensures.ok
