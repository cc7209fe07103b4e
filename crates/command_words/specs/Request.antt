-- What words say of a number and of a flag, and what a request asks for.
use Rattle.std.specs.Prelude.{◌≡◌, ℕ, Bool, true, false, List, Option, Some, codes, option_map}
use Rattle.std.specs.Str.Parse.{IsNumeral, digits_value, without_leading_plus}
use Rattle.clap.specs.Words.{Text, matches_of, one_of}
use Rattle.command_words.specs.declared.words.Request.{Request}
use Rattle.command_words.specs.Words.{Asked, words_taken}

-- the text is there, and its decimal digits say this number
abbrev pub HasDigits : Option Text → ℕ → Type 0
HasDigits found number =
    (text : Text) × (found ≡ Some text) × IsNumeral 10 (without_leading_plus text)
    × (number ≡ digits_value 10 (without_leading_plus text))

-- the words say this number under a name, or its default does where they say none
abbrev pub SaysNumber : Text → List Text → ℕ → Type 0
SaysNumber name words number = HasDigits (one_of name (matches_of words_taken words)) number

-- `clap` finds this text for a flag that is given, or that isn't
abbrev pub flag_text : Bool → Text
flag_text true = codes "true"
flag_text false = codes "false"

-- the words give a flag, or they don't
abbrev pub SaysFlag : Text → List Text → Bool → Type 0
SaysFlag name words given = one_of name (matches_of words_taken words) ≡ Some (flag_text given)

-- what a request asks for
abbrev pub asked_in : Request → Asked
asked_in request = record {
  formula = option_map (λ path. path.now) request.formula;
  file = option_map (λ path. path.now) request.file;
  proof = option_map (λ path. path.now) request.proof;
  folder = option_map (λ path. path.now) request.proofs;
  picture = option_map (λ path. path.now) request.map;
  out = option_map (λ path. path.now) request.out;
  log = option_map (λ path. path.now) request.log;
  lists = request.list_open;
}
