use Rattle.std.proofs.Common.{◌≡◌, []}
use Rattle.cube_explain.proofs.again.find.Given as goal

-- nothing is ready: the text stands at a label line or at its end
abbrev pub invariant-loop : goal.invariant-loop
invariant-loop g l = l.text.ready ≡ []
