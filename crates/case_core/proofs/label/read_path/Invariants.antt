use Rattle.std.proofs.Common.{length, map}
use Rattle.cnf_text.specs.Tokens.{words}
use Rattle.cnf_text.specs.Icnf.{symbol_of}
use Rattle.case_core.proofs.label.read_path.Given as goal
use Rattle.case_core.proofs.LabelNames.{ReadSoFar}

abbrev pub invariant-loop-word : goal.invariant-loop-word
invariant-loop-word l =
    ReadSoFar (map symbol_of (words l.text)) (map symbol_of (words l.left)) l.path.items l.fits

abbrev pub decreases-loop-word : goal.decreases-loop-word
decreases-loop-word l = length (words l.left)
