use Rattle.std.proofs.Common.{◌≡◌, ◌≤◌, length}
use Rattle.std.specs.List.{slice_split}
use Rattle.cnf_text.specs.Tokens.{is_line_end}
use Rattle.cnf_text.specs.Words.{words_of_lines}
use Rattle.cnf_text.proofs.words.uncommented.Given as goal

abbrev pub invariant-loop-below : goal.invariant-loop-below
invariant-loop-below l = record {
  same : words_of_lines (slice_split is_line_end l.left)
      ≡ words_of_lines (slice_split is_line_end l.text);
  within : length l.left ≤ length l.text;
}

abbrev pub decreases-loop-below : goal.decreases-loop-below
decreases-loop-below l = length l.left
