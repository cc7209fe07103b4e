use Rattle.std.proofs.Common.{◌≡◌, ap, ◌∙◌, ◌∷◌, []}
use Rattle.std.specs.Option.{option_map}
use Rattle.cnf_text.specs.Dimacs.{capped_magnitude}
use Rattle.cnf_text.specs.Numbers.{decimal}
use Rattle.cnf_text.specs.Tokens.{Token, below}
use Rattle.cnf_text.proofs.DimacsHeader.{header_read, named, where_none}
use Rattle.cnf_text.proofs.dimacs.rest_of_header.Goals as goal

pub returns : goal.returns
returns c =
    let ended =
    where_none
    ((c.next_in_line-3.new.self ≡ [] ∷ below c.next_in_line-3.new.self)
    × (c.next_in_line-4.new.self ≡ c.next_in_line-3.new.self)) c.next_in_line-4.result
    c.is_some.result c.is_some.ensures c.if-is_some.false c.next_in_line-4.ensures.none in
    header_read c.args.first c.in_ok-cnf.cnf c.in_ok-variables.variables c.in_ok-clauses.clauses
    c.args.tokens.now c.next_in_line.new.self c.next_in_line-2.new.self c.next_in_line-3.new.self
    c.next_in_line-4.new.self c.in_ok-decimal.field-0 c.in_ok-decimal-2.field-0
    c.in_ok-cnf.ensures.some c.in_ok-variables.ensures.some c.in_ok-clauses.ensures.some ended.0
    ended.1
    (named c.first.inside.bytes.now c.args.first.bytes c.as_slice.result.now _ c.ne.result
    (ap (λ (t : Token). t.bytes) c.first.view_is) c.as_slice.ensures c.ne.ensures c.if-ne.false)
    (named c.cnf.inside.bytes.now c.in_ok-cnf.cnf.bytes c.as_slice-else-ne.result.now _
    c.ne-else-ne.result
    (ap (λ (t : Token). t.bytes) c.cnf.view_is) c.as_slice-else-ne.ensures c.ne-else-ne.ensures
    c.if-ne-2.false)
    (c.in_ok-decimal.ensures
    ∙ ap (λ (t : Token). option_map capped_magnitude (decimal t.bytes)) c.variables.view_is)
    (c.in_ok-decimal-2.ensures
    ∙ ap (λ (t : Token). option_map capped_magnitude (decimal t.bytes)) c.clauses.view_is)
