use Rattle.std.proofs.Common.{◌≡◌, ◌++◌, drop}
use Rattle.hint_check.specs.Inner.Blocks.{clause_of}
use Rattle.hint_check.proofs.block.Run.list.Given as goal

abbrev pub invariant-loop-block : goal.invariant-loop-block
invariant-loop-block l = l.lits.items ++ clause_of (drop l.block-index l.block-items) ≡ l.self
