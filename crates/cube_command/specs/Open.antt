-- The leaves that a report doesn't call refuted, by its lines. (The report's format is that of
-- docs/FORMATS.md.)
use Rattle.std.specs.Prelude.{ℕ, Bool, ◌==◌, List, [], ◌++◌, codes, drop, if◌then◌else◌, nat_eq}
use Rattle.std.specs.List.{before_first, ends_with, flat_map, starts_with}
use Rattle.cube_report.specs.Bundle.{lines_of}
use Rattle.cube_command.specs.Words.{Asked}

abbrev pub is_space : ℕ → Bool
is_space b = b == 32

-- the second field of a line whose first is one letter: of a leaf's line its number
abbrev pub leaf_field : List ℕ → List ℕ
leaf_field line = before_first is_space (drop 2 line)

-- a letter, or none, and the number of a leaf, as behind `l ` in its label line; and a line end
abbrev pub leaf_of_line : List ℕ → List ℕ → List ℕ
leaf_of_line letter line = letter ++ leaf_field line ++ codes "\n"

-- of a line the name of its leaf, where it is that of one which it doesn't call refuted: K of cube
-- K, mJ of missing leaf J
unfoldable pub open_name : List ℕ → List ℕ
open_name line =
    if ends_with nat_eq line (codes " refuted") then []
    else if starts_with nat_eq line (codes "a ") then leaf_of_line [] line
    else if starts_with nat_eq line (codes "m ") then leaf_of_line (codes "m") line
    else []

-- the names of the leaves that a report doesn't call refuted, in its order
abbrev pub open_names : List ℕ → List ℕ
open_names report = flat_map open_name (lines_of report)

-- what is written to the output: the report, or these names where they are asked for
abbrev pub shown : Asked → List ℕ → List ℕ
shown asked report = if asked.lists then open_names report else report
