use Rattle.std.proofs.Common.{◌-◌, ◌++◌, get_or, replicate, ap, ◌∙◌, arith}
use Rattle.std.proofs.lemmas.List.{take_all}
use Rattle.hint_check.proofs.StampsZeros.{zeros-behind}
use Rattle.hint_check.proofs.stamp_parts.StampList.widen.Goals as goal

pub returns-in_ok-resize-clause-same : goal.returns-in_ok-resize-clause-same
returns-in_ok-resize-clause-same c = λ n.
    let old = c.self.inside.stamps.items in
    ap (λ xs. get_or xs n 0)
    (c.in_ok-resize.ensures.items
    ∙ ap (λ xs. xs ++ replicate (c.args.count - c.self.inside.stamps.len) 0)
    (take_all c.args.count old (omega (arith, c.self.inside.stamps.ok.0))))
    ∙ zeros-behind old (c.args.count - c.self.inside.stamps.len) n
    ∙ ap (λ xs. get_or xs n 0) c.self.view_is
