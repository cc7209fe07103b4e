use Rattle.std.proofs.Common.{◌≡◌, length}
use Rattle.cnf_text.specs.Words.{words_left}
use Rattle.cnf_text.proofs.words.next_in_lines.Given as goal

abbrev pub invariant-loop-left : goal.invariant-loop-left
invariant-loop-left l = words_left l.left ≡ words_left l.text

abbrev pub decreases-loop-left : goal.decreases-loop-left
decreases-loop-left l = length l.left
