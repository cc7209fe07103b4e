use Rattle.std.proofs.Common.{◌≡◌, ◌≤◌, take, count_by}
use Rattle.cnf_text.specs.Tokens.{is_line_end}
use Rattle.case_core.proofs.bundle.few_line_ends.Given as goal

abbrev pub invariant-loop-at : goal.invariant-loop-at
invariant-loop-at l = record {
  value : l.count ≡ count_by is_line_end (take l.at l.bytes);
  within : l.count ≤ l.at;
}
