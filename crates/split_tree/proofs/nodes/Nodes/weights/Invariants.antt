use Rattle.std.proofs.Common.{◌≡◌, ◌<◌, ℕ, length, get_or}
use Rattle.split_tree.specs.SplitTree.{weight, depth_at}
use Rattle.split_tree.proofs.nodes.Nodes.weights.Given as goal

abbrev pub invariant-loop-i : goal.invariant-loop-i
invariant-loop-i l = record {
  long : length l.weights.items ≡ l.i;
  known : (k : ℕ) → k < l.i → get_or l.weights.items k 0 ≡ weight (depth_at l.self k);
}
