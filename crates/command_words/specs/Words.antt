-- Which words the program takes, and what they ask for.
use Rattle.std.specs.Prelude.{◌≡◌, ◌≢◌, ◌⊎◌, Bool, List, [], ◌∷◌, codes, pos, true, false, Option}
use Rattle.std.specs.Prelude.{None, Some}
use Rattle.std.specs.Str.{bytes_eq}
use Rattle.clap.specs.Words.{App, Rule, Text, fault_of, first_of, matches_of, new_app, new_rule}
use Rattle.clap.specs.Words.{with_rule}
use Rattle.proof_folder.specs.Added.{proof_path}
use Rattle.clap.specs.declared.builder.action.ArgAction.TheVariants.{SetTrue}
use Rattle.clap.specs.declared.builder.value_parser.ValueParser.TheVariants.{Signed, NonEmptyString}

-- a word of this name with one value
abbrev pub valued : Text → Rule
valued name = record (new_rule name) { long = Some name; value_names = 1 }

-- `--workers` with a number from 1 to 32, and 4 where there is none
abbrev pub workers_word : Rule
workers_word = record (valued (codes "workers")) {
  parser = Some (Signed (pos 1) (pos 32));
  defaults = codes "4" ∷ [];
}

-- `--cut` with a number from 0 to 6, and 3 where there is none
abbrev pub cut_word : Rule
cut_word = record (valued (codes "cut")) {
  parser = Some (Signed (pos 0) (pos 6));
  defaults = codes "3" ∷ [];
}

-- a word of this name with a path, which is a text that isn't empty
abbrev pub path_word : Text → Rule
path_word name = record (valued name) { parser = Some NonEmptyString }

-- a word of this name without a value
abbrev pub flag_word : Text → Rule
flag_word name = record (new_rule name) { long = Some name; action = Some SetTrue }

-- one text without a name
abbrev pub file_word : Rule
file_word = record (new_rule (codes "file")) { value_names = 1 }

-- the words come without the program's name, and `--version` may be among them
abbrev pub with_version : App → App
with_version parser =
    record parser { top = record parser.top { no_binary_name = true; has_version = true } }

-- the words of `cubeboard`
abbrev pub words_taken : App
words_taken =
    with_rule (with_rule (with_rule (with_rule (with_rule (with_rule (with_rule (with_rule
    (with_rule (with_rule (with_rule (with_rule (with_version (new_app (codes "cubeboard")))
    workers_word) cut_word) (path_word (codes "formula"))) (path_word (codes "proof")))
    (path_word (codes "proofs"))) (flag_word (codes "progress"))) (flag_word (codes "explain")))
    (flag_word (codes "list-open"))) (path_word (codes "map"))) (path_word (codes "record")))
    (path_word (codes "log"))) file_word

-- the value that `clap` finds in these words
abbrev pub asked_for : Text → List Text → Option Text
asked_for name words = first_of name (matches_of words_taken words)

-- what `clap` finds for a flag that is given
abbrev pub is_given : Option Text → Bool
is_given None = false
is_given (Some text) = bytes_eq text (codes "true")

-- what words ask for: the formula's own file, FILE, the one proof of the formula and the folder of
-- proofs, which are read, the files that are written, for the picture, the record and the log, and
-- whether the open leaves are listed in the place of the report
pub record Asked : Type 0 where
  pub formula : Option Text
  pub file : Option Text
  pub proof : Option Text
  pub folder : Option Text
  pub picture : Option Text
  pub out : Option Text
  pub log : Option Text
  pub lists : Bool

abbrev pub asked_of : List Text → Asked
asked_of words = record {
  formula = asked_for (codes "formula") words;
  file = asked_for (codes "file") words;
  proof = asked_for (codes "proof") words;
  folder = asked_for (codes "proofs") words;
  picture = asked_for (codes "map") words;
  out = asked_for (codes "record") words;
  log = asked_for (codes "log") words;
  lists = is_given (asked_for (codes "list-open") words);
}

-- no file is asked for, and no list
abbrev pub nothing_asked : Asked
nothing_asked = record {
  formula = None;
  file = None;
  proof = None;
  folder = None;
  picture = None;
  out = None;
  log = None;
  lists = false;
}

-- two files, where both are asked for, have two paths
abbrev pub HaveTwoPaths : Option Text → Option Text → Type 0
HaveTwoPaths one other = (path : Text) → one ≡ Some path → other ≢ Some path

-- the file that is written isn't that of a proof in the folder, whichever its name is
abbrev pub IsNoProof : Option Text → Option Text → Type 0
IsNoProof folder written =
    (in_folder path name : Text) → folder ≡ Some in_folder → written ≡ Some path
    → path ≢ proof_path in_folder name

-- the file that is written is none of those that are read: the formula's, FILE, the one proof, and
-- DIR's proofs
abbrev pub SparesRead : Option Text → Asked → Type 0
SparesRead written asked =
    HaveTwoPaths written asked.formula × HaveTwoPaths written asked.file
    × HaveTwoPaths written asked.proof
    × IsNoProof asked.folder written

-- the picture, the record and the log have three paths, and none is that of a file that is read
abbrev pub AreSpared : Asked → Type 0
AreSpared asked =
    HaveTwoPaths asked.picture asked.out × SparesRead asked.picture asked
    × SparesRead asked.out asked
    × HaveTwoPaths asked.log asked.picture × HaveTwoPaths asked.log asked.out
    × SparesRead asked.log asked

-- one proof of the whole formula goes with that formula's own file, and with neither a file of
-- cubes nor a folder of proofs
abbrev pub GoesWith : Option Text → Option Text → Option Text → Option Text → Type 0
GoesWith proof formula file folder =
    (path : Text) → proof ≡ Some path → (formula ≢ None) × (file ≡ None) × (folder ≡ None)

-- what is asked for can be done
abbrev pub CanBeDone : Asked → Type 0
CanBeDone asked =
    GoesWith asked.proof asked.formula asked.file asked.folder × AreSpared asked

-- These words fit all that: `clap` finds no fault in them, they ask for neither help nor the
-- version, one proof is asked for without cubes and folder, and the files that they have written
-- are none of those that are read, and apart.
abbrev pub AreTaken : List Text → Type 0
AreTaken words = (fault_of words_taken words ≡ []) × CanBeDone (asked_of words)

-- a file of this path is read: the formula's, FILE, the one proof, or that of a proof in DIR,
-- whichever its name is
abbrev pub IsInput : Asked → Text → Type 0
IsInput asked path =
    (asked.formula ≡ Some path) ⊎ (asked.file ≡ Some path) ⊎ (asked.proof ≡ Some path)
    ⊎ ((folder name : Text) × (asked.folder ≡ Some folder) × (path ≡ proof_path folder name))

-- the path is neither the picture's nor the record's
abbrev pub IsElsewhere : Asked → Text → Type 0
IsElsewhere asked path = (asked.picture ≢ Some path) × (asked.out ≢ Some path)
