-- What the words ask for.
use Rattle.std.proofs.Common.{◌≡◌, ◌∙◌, ap, refl, ℕ, Bool, Option, Some, List, [], ◌∷◌, map}
use Rattle.std.proofs.Common.{length, codes, true, false, None}
use Rattle.std.proofs.Common.{Result, Ok, Err, IfErr, IsErrAnd, subst, sym, inl, inr}
use Rattle.clap.specs.declared.builder.command.Command.{Command}
use Rattle.clap.specs.declared.error.Error.{Error}
use Rattle.clap.specs.declared.error.kind.ErrorKind.TheVariants.{OutOfMemory}
use Rattle.clap.specs.declared.parser.matches.ArgMatches.{ArgMatches}
use Rattle.clap.specs.Words.{App, HasMatchesOf, Text, app_of, first_of, fault_of, first_value}
use Rattle.clap.specs.Words.{found_of, is_simple, is_simple_and_free, kind_of, matches_of, one_of}
use Rattle.clap.specs.Words.{one_text, HasKind, Kinds}
use Rattle.clap.proofs.OnLiterals.{clap_on_literals}
use Rattle.clap.proofs.WalkLemmas.{first_value-rows, one_text-rows}
use Rattle.command_words.specs.Words.{AreSpared, AreTaken, Asked, HaveTwoPaths, asked_for, asked_of}
use Rattle.command_words.specs.Words.{CanBeDone, is_given, nothing_asked, SparesRead, words_taken}
use Rattle.command_words.specs.Request.{HasDigits, SaysFlag, SaysNumber, flag_text}
use Rattle.command_words.specs.Inner.Words.{asked_found}

-- what the parser's matches hold under a name is what the words ask for
one_asked : (parser : Command) (matches : ArgMatches) (words : List Text) →
    app_of parser ≡ words_taken
    → HasMatchesOf (app_of parser) words matches → (name : Text) →
    first_value (found_of matches) name ≡ asked_for name words
one_asked parser matches words is has name =
    first_value-rows (found_of matches) name
    ∙ ap (first_of name)
    ((has (ap is_simple is ∙ refl)).0 ∙ ap (λ (a : App). matches_of a words) is)

-- so it is with all names
pub found_asked : (parser : Command) (matches : ArgMatches) (words : List Text)
    → app_of parser ≡ words_taken
    → HasMatchesOf (app_of parser) words matches →
    asked_found (found_of matches) ≡ asked_of words
found_asked parser matches words is has =
    let formula = one_asked parser matches words is has (codes "formula") in
    let file = one_asked parser matches words is has (codes "file") in
    let proof = one_asked parser matches words is has (codes "proof") in
    let folder = one_asked parser matches words is has (codes "proofs") in
    let picture = one_asked parser matches words is has (codes "map") in
    let out = one_asked parser matches words is has (codes "record") in
    let log = one_asked parser matches words is has (codes "log") in
    let lists = ap is_given (one_asked parser matches words is has (codes "list-open")) in
    λ i. record {
      formula = formula i;
      file = file i;
      proof = proof i;
      folder = folder i;
      picture = picture i;
      out = out i;
      log = log i;
      lists = lists i;
    }

-- what holds of an error holds of the result that hands it on
pub handed_on : {T E : Type 0} (result : Result T E) (P : E → Type 0) (error : E) → P error
    → IsErrAnd result (λ e. e ≡ error) → IfErr result P
handed_on (Ok value) P error holds is = tt
handed_on (Err e) P error holds is = subst P (sym is) holds

are_simple : is_simple_and_free words_taken ≡ true
unfolding clap_on_literals
are_simple = refl

parser_simple : (parser : Command) → app_of parser ≡ words_taken →
    is_simple_and_free (app_of parser) ≡ true
parser_simple parser is = ap is_simple_and_free is ∙ are_simple

among_none : (error : Error) (kinds : Kinds) → kinds ≡ [] → HasKind kinds error →
    kind_of error ≡ OutOfMemory
among_none error [] none (inl memory) = memory
among_none error [] none (inr none_is) = elim none_is [ ]
among_none error (kind ∷ kinds) none has = absurd (cc)

-- an error on words that are taken is want of memory
pub taken_fails : (parser : Command) (words : List Text) (error : Error) →
    app_of parser ≡ words_taken
    → (is_simple_and_free (app_of parser) ≡ true → HasKind (fault_of (app_of parser) words) error)
    → AreTaken words → kind_of error ≡ OutOfMemory
taken_fails parser words error is fails taken =
    among_none error (fault_of (app_of parser) words)
    (ap (λ (a : App). fault_of a words) is ∙ taken.0) (fails (parser_simple parser is))

-- words that were parsed, and what they ask for can be done, are taken
pub parsed_taken : (parser : Command) (words : List Text) (asked : Asked)
    → app_of parser ≡ words_taken
    → (is_simple_and_free (app_of parser) ≡ true → fault_of (app_of parser) words ≡ [])
    → asked ≡ asked_of words → CanBeDone asked → AreTaken words
parsed_taken parser words asked is parsed asked_is done = (
  sym (ap (λ (a : App). fault_of a words) is) ∙ parsed (parser_simple parser is),
  subst CanBeDone asked_is done,
)

-- words that ask for what can't be done aren't taken
pub clash_untaken : (words : List Text) (asked : Asked) → asked ≡ asked_of words
    → ¬ CanBeDone asked → ¬ AreTaken words
clash_untaken words asked asked_is clash taken = clash (subst CanBeDone (sym asked_is) taken.1)

no_fault : fault_of words_taken [] ≡ []
unfolding clap_on_literals
no_fault = refl

no_map : asked_for (codes "map") [] ≡ None
unfolding clap_on_literals
no_map = refl

-- where the one isn't asked for, there are no two at one path
apart_of_none : (one other : Option Text) → one ≡ None → HaveTwoPaths one other
apart_of_none None other is path there = absurd (cc)
apart_of_none (Some text) other is path there = absurd (cc)

no_record : asked_for (codes "record") [] ≡ None
unfolding clap_on_literals
no_record = refl

no_log : asked_for (codes "log") [] ≡ None
unfolding clap_on_literals
no_log = refl

no_proofs : asked_for (codes "proofs") [] ≡ None
unfolding clap_on_literals
no_proofs = refl

no_formula : asked_for (codes "formula") [] ≡ None
unfolding clap_on_literals
no_formula = refl

no_file : asked_for (codes "file") [] ≡ None
unfolding clap_on_literals
no_file = refl

no_proof : asked_for (codes "proof") [] ≡ None
unfolding clap_on_literals
no_proof = refl

no_lists : is_given (asked_for (codes "list-open") []) ≡ false
unfolding clap_on_literals
no_lists = refl

no_words_asked : asked_of [] ≡ nothing_asked
no_words_asked = λ i. record {
  formula = no_formula i;
  file = no_file i;
  proof = no_proof i;
  folder = no_proofs i;
  picture = no_map i;
  out = no_record i;
  log = no_log i;
  lists = no_lists i;
}

-- what isn't asked for is none of the files that are read
spared_of_none : (written : Option Text) → written ≡ None → SparesRead written nothing_asked
spared_of_none written is = (
  apart_of_none written None is,
  apart_of_none written None is,
  apart_of_none written None is,
  λ in_folder path name one other same. absurd (cc),
)

nothing_spared : AreSpared nothing_asked
nothing_spared = (
  apart_of_none None None refl,
  spared_of_none None refl,
  spared_of_none None refl,
  apart_of_none None None refl,
  apart_of_none None None refl,
  spared_of_none None refl,
)

nothing_done : CanBeDone nothing_asked
nothing_done = (λ path asked. absurd (cc), nothing_spared)

no_words_taken : AreTaken []
no_words_taken = (no_fault, subst CanBeDone (sym no_words_asked) nothing_done)

no_words : {A B : Type 0} (f : A → B) (words : List A) → length words ≡ 0 → map f words ≡ []
no_words f [] none = refl
no_words f (word ∷ words) none = absurd (cc)

-- no words are taken, and ask for neither proofs nor a file
pub nothing_taken : {A : Type 0} (text : A → Text) (words : List A) → length words ≡ 0
    → AreTaken (map text words)
nothing_taken text words none = subst AreTaken (sym (no_words text words none)) no_words_taken

-- no words ask for nothing
pub none_asked : {A : Type 0} (text : A → Text) (words : List A) → length words ≡ 0
    → asked_of (map text words) ≡ nothing_asked
none_asked text words none = ap asked_of (no_words text words none) ∙ no_words_asked

-- what the parser's matches read as a number under a name is what the words say
pub number_asked : (parser : Command) (matches : ArgMatches) (words : List Text) (name : Text)
    (number : ℕ)
    → app_of parser ≡ words_taken
    → HasMatchesOf (app_of parser) words matches → SaysNumber name words number
    → HasDigits (one_text (found_of matches) name) number
number_asked parser matches words name number is has says = (
  says.0,
  one_text-rows (found_of matches) name
      ∙ ap (one_of name)
      ((has (ap is_simple is ∙ refl)).0 ∙ ap (λ (a : App). matches_of a words) is) ∙ says.1,
  says.2,
  says.3,
)

-- the flag that the parser's matches have under a name is the one that the words say
pub flag_asked : (parser : Command) (matches : ArgMatches) (words : List Text) (name : Text)
    (given : Bool)
    → app_of parser ≡ words_taken
    → HasMatchesOf (app_of parser) words matches → SaysFlag name words given
    → one_text (found_of matches) name ≡ Some (flag_text given)
flag_asked parser matches words name given is has says =
    one_text-rows (found_of matches) name
    ∙ ap (one_of name) ((has (ap is_simple is ∙ refl)).0 ∙ ap (λ (a : App). matches_of a words) is)
    ∙ says
