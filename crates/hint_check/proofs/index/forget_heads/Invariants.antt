use Rattle.std.proofs.Common.{take}
use Rattle.hint_check.specs.Inner.Index.{numbers_of}
use Rattle.hint_check.specs.Inner.Stamps.{Forgets}
use Rattle.hint_check.proofs.index.forget_heads.Given as goal

abbrev pub invariant-loop-link : goal.invariant-loop-link
invariant-loop-link l = Forgets (numbers_of (take l.link-index l.links)) l.initial.heads l.heads
