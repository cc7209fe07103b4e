use Rattle.std.proofs.Common.{◌≡◌, ◌++◌, ◌∷◌, [], map, take, get_or, sym, ap, ◌∙◌, arith}
use Rattle.std.proofs.lemmas.List.{take_more, take_all, map-append}
use Rattle.hint_check.specs.Inner.Index.{indexed_part}
use Rattle.hint_check.proofs.base.indexed_parts.Goals as goal

pub loop-clause-preserved : goal.loop-clause-preserved
loop-clause-preserved c =
    let clauses = c.args.clauses.now in
    let i = c.loop-clause.clause-index in
    let part : c.new.result ≡ indexed_part (get_or clauses i c.clause-item.result) =
    c.new.ensures ∙ c.in_ok-indexed_part.ensures
    ∙ ap indexed_part (c.lits.ensures ∙ c.clause-item.is) in
    c.in_ok-push.ensures.items
    ∙ ap (λ parts. parts ++ c.new.result ∷ []) c.loop-clause.invariant
    ∙ ap (λ part. map indexed_part (take i clauses) ++ part ∷ []) part
    ∙ sym (ap (map indexed_part) (take_more clauses i c.clause-item.result c.loop-clause-test.true)
    ∙ map-append indexed_part (take i clauses) (get_or clauses i c.clause-item.result ∷ []))

pub returns : goal.returns
returns c =
    c.loop-clause.invariant
    ∙ ap (map indexed_part)
    (take_all c.loop-clause.clause-index c.args.clauses.now (omega arith))
