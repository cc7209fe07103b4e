use Rattle.std.proofs.Common.{◌∙◌, ap, refl}
use Rattle.cube_command.specs.Words.{is_given}
use Rattle.join_command.proofs.WordsRequests.{file_asked, file_or, formula_asked, parsed_taken}
use Rattle.join_command.proofs.WordsRequests.{records_asked, unbound_asked}
use Rattle.join_command.proofs.words.request_of.Goals as goal

pub returns-clause-asked : goal.returns-clause-asked
returns-clause-asked g c =
    let formula = c.get_str.ensures
    ∙ formula_asked _ _ _ c.in_ok-parser.ensures c.in_ok-matches.ensures.matches in
    let file = file_or c.get_str-2.result c.unwrap_or.result _ _ c.unwrap_or.ensures
    c.get_str-2.ensures
    refl ∙ file_asked _ _ _ c.in_ok-parser.ensures c.in_ok-matches.ensures.matches in
    let records = c.in_ok-records_in.ensures
    ∙ records_asked _ _ _ c.in_ok-parser.ensures c.in_ok-matches.ensures.matches in
    let unbound = c.is_given.ensures ∙ ap is_given c.get_str-3.ensures
    ∙ unbound_asked _ _ _ c.in_ok-parser.ensures c.in_ok-matches.ensures.matches in
    λ i. record { formula = formula i; file = file i; records = records i; unbound = unbound i }

pub returns-clause-taken : goal.returns-clause-taken
returns-clause-taken g c = parsed_taken _ _ c.in_ok-parser.ensures c.in_ok-matches.ensures.kinds
