-- Which words `cubejoin` takes, and what they ask for.
use Rattle.std.specs.Prelude.{◌≡◌, Bool, List, [], codes, true, Option, Some, unwrap_or}
use Rattle.clap.specs.Lexer.{usize_max}
use Rattle.clap.specs.Words.{App, Rule, Text, all_of, fault_of, first_of, matches_of, new_app}
use Rattle.clap.specs.Words.{new_rule, with_rule}
use Rattle.clap.specs.declared.builder.action.ArgAction.TheVariants.{Append}
use Rattle.bundle_files.specs.Formula.{Sources, sources_by}
use Rattle.cube_command.specs.Words.{flag_word, is_given, path_word, with_version}

-- one text without a name, which has to be there
abbrev pub needed_file_word : Rule
needed_file_word = record (new_rule (codes "file")) { value_names = 1; required = true }

-- texts without a name, one at least
abbrev pub records_word : Rule
records_word = record (new_rule (codes "records")) {
  value_names = 1;
  required = true;
  action = Some Append;
  range = Some (record { start_inclusive = 1; end_inclusive = usize_max });
}

-- the words of `cubejoin`
abbrev pub join_words : App
join_words =
    with_rule (with_rule (with_rule (with_rule (with_version (new_app (codes "cubejoin")))
    (path_word (codes "formula"))) (flag_word (codes "unbound"))) needed_file_word) records_word

-- these words fit that: `clap` finds no fault in them, and they ask for neither help nor the
-- version
abbrev pub AreTakenToJoin : List Text → Type 0
AreTakenToJoin words = fault_of join_words words ≡ []

-- what words ask for: the formula's own file, where it has one, FILE, the RECORDs in order, and
-- whether they are plain reports
pub record JoinAsked : Type 0 where
  pub formula : Option Text
  pub file : Text
  pub records : List Text
  pub unbound : Bool

abbrev pub join_asked_of : List Text → JoinAsked
join_asked_of words = record {
  formula = first_of (codes "formula") (matches_of join_words words);
  file = unwrap_or (first_of (codes "file") (matches_of join_words words)) [];
  records = unwrap_or (all_of (codes "records") (matches_of join_words words)) [];
  unbound = is_given (first_of (codes "unbound") (matches_of join_words words));
}

-- the files that make the bundle that is read
abbrev pub join_sources_of : JoinAsked → Sources
join_sources_of asked = sources_by asked.formula (Some asked.file)
