-- What the words ask for.
use Rattle.std.proofs.Common.{◌≡◌, ◌∙◌, ap, refl, List, [], codes, true, option_map, unwrap_or}
use Rattle.std.proofs.Common.{Result, Ok, Err, IfErr, IsErrAnd, subst, sym, Bor, ℕ}
use Rattle.std.proofs.Common.{Option, None, Some}
use Rattle.clap.specs.declared.builder.command.Command.{Command}
use Rattle.clap.specs.declared.parser.matches.ArgMatches.{ArgMatches}
use Rattle.clap.specs.Words.{App, HasMatchesOf, Text, all_of, app_of, first_of, fault_of}
use Rattle.clap.specs.Words.{first_value, found_of, is_simple, is_simple_and_free}
use Rattle.clap.specs.Words.{matches_of}
use Rattle.clap.proofs.OnLiterals.{clap_on_literals}
use Rattle.clap.proofs.WalkLemmas.{first_value-rows, raw_values-rows}
use Rattle.cube_command.specs.Words.{is_given}
use Rattle.join_command.specs.Words.{AreTakenToJoin, join_asked_of, join_words}
use Rattle.join_command.specs.Inner.Words.{records_found}

-- the file that the parser's matches hold is the one that the words ask for
pub file_asked : (parser : Command) (matches : ArgMatches) (words : List Text)
    → app_of parser ≡ join_words
    → HasMatchesOf (app_of parser) words matches →
    unwrap_or (first_value (found_of matches) (codes "file")) [] ≡ (join_asked_of words).file
file_asked parser matches words is has =
    ap (λ found. unwrap_or found []) (first_value-rows (found_of matches) (codes "file")
    ∙ ap (first_of (codes "file"))
    ((has (ap is_simple is ∙ refl)).0 ∙ ap (λ (a : App). matches_of a words) is))

-- so is the formula's own
pub formula_asked : (parser : Command) (matches : ArgMatches) (words : List Text)
    → app_of parser ≡ join_words
    → HasMatchesOf (app_of parser) words matches →
    first_value (found_of matches) (codes "formula") ≡ (join_asked_of words).formula
formula_asked parser matches words is has =
    first_value-rows (found_of matches) (codes "formula")
    ∙ ap (first_of (codes "formula"))
    ((has (ap is_simple is ∙ refl)).0 ∙ ap (λ (a : App). matches_of a words) is)

-- so are the records
pub records_asked : (parser : Command) (matches : ArgMatches) (words : List Text)
    → app_of parser ≡ join_words
    → HasMatchesOf (app_of parser) words matches →
    records_found (found_of matches) ≡ (join_asked_of words).records
records_asked parser matches words is has =
    ap (λ found. unwrap_or found []) (raw_values-rows (found_of matches) (codes "records")
    ∙ ap (all_of (codes "records"))
    ((has (ap is_simple is ∙ refl)).0 ∙ ap (λ (a : App). matches_of a words) is))

-- so is whether they are plain reports
pub unbound_asked : (parser : Command) (matches : ArgMatches) (words : List Text)
    → app_of parser ≡ join_words
    → HasMatchesOf (app_of parser) words matches →
    is_given (first_value (found_of matches) (codes "unbound")) ≡ (join_asked_of words).unbound
unbound_asked parser matches words is has =
    ap is_given (first_value-rows (found_of matches) (codes "unbound")
    ∙ ap (first_of (codes "unbound"))
    ((has (ap is_simple is ∙ refl)).0 ∙ ap (λ (a : App). matches_of a words) is))

-- what holds of an error holds of the result that hands it on
pub handed_on : {T E : Type 0} (result : Result T E) (P : E → Type 0) (error : E) → P error
    → IsErrAnd result (λ e. e ≡ error) → IfErr result P
handed_on (Ok value) P error holds is = tt
handed_on (Err e) P error holds is = subst P (sym is) holds

are_simple : is_simple_and_free join_words ≡ true
unfolding clap_on_literals
are_simple = refl

parser_simple : (parser : Command) → app_of parser ≡ join_words →
    is_simple_and_free (app_of parser) ≡ true
parser_simple parser is = ap is_simple_and_free is ∙ are_simple

-- words that were parsed are taken
pub parsed_taken : (parser : Command) (words : List Text) → app_of parser ≡ join_words
    → (is_simple_and_free (app_of parser) ≡ true → fault_of (app_of parser) words ≡ []) →
    AreTakenToJoin words
parsed_taken parser words is parsed =
    sym (ap (λ (a : App). fault_of a words) is) ∙ parsed (parser_simple parser is)

-- a text behind a reference, or none
pub file_or : (found : Option (Bor (List ℕ))) (given none : Bor (List ℕ)) (text : Option Text) →
    given ≡ unwrap_or found none → option_map (λ s. s.now) found ≡ text →
    none.now ≡ [] → given.now ≡ unwrap_or text []
file_or None given none text e f z = ap (λ s. s.now) e ∙ z ∙ ap (λ t. unwrap_or t []) f
file_or (Some s) given none text e f z = ap (λ s. s.now) e ∙ ap (λ t. unwrap_or t []) f
