-- The program's words without texts, a number or a flag among them, and what the parser has found.
use Rattle.std.specs.Prelude.{codes}
use Rattle.clap.specs.Words.{App, first_value, new_app, with_rule}
use Rattle.clap.specs.declared.parser.matches.Found.{Found}
use Rattle.command_words.specs.Words.{Asked, with_version, workers_word, cut_word, flag_word}
use Rattle.command_words.specs.Words.{is_given, path_word}

-- the words with numbers alone
abbrev pub with_numbers : App
with_numbers =
    with_rule (with_rule (with_version (new_app (codes "cubeboard"))) workers_word) cut_word

-- those with the formula's file, one proof and the folder of proofs, then with what is told beside
-- the report, then with what is written in its place, then with the files for the picture and the
-- record, then with that for the log
abbrev pub with_inputs : App
with_inputs =
    with_rule (with_rule (with_rule with_numbers (path_word (codes "formula")))
    (path_word (codes "proof"))) (path_word (codes "proofs"))

abbrev pub with_flags : App
with_flags =
    with_rule (with_rule with_inputs (flag_word (codes "progress"))) (flag_word (codes "explain"))

abbrev pub with_lists : App
with_lists = with_rule with_flags (flag_word (codes "list-open"))

abbrev pub with_results : App
with_results =
    with_rule (with_rule with_lists (path_word (codes "map"))) (path_word (codes "record"))

abbrev pub with_outputs : App
with_outputs = with_rule with_results (path_word (codes "log"))

-- what the parser has found that words ask for
abbrev pub asked_found : Found → Asked
asked_found found = record {
  formula = first_value found (codes "formula");
  file = first_value found (codes "file");
  proof = first_value found (codes "proof");
  folder = first_value found (codes "proofs");
  picture = first_value found (codes "map");
  out = first_value found (codes "record");
  log = first_value found (codes "log");
  lists = is_given (first_value found (codes "list-open"));
}
