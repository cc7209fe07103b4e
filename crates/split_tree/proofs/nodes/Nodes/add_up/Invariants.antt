use Rattle.std.proofs.Common.{◌≡◌, ◌<◌, ℕ, length, get_or}
use Rattle.split_tree.specs.SplitTree.{size, weight, depth_at}
use Rattle.split_tree.proofs.TablesTotals.{TotalsFrom}
use Rattle.split_tree.proofs.nodes.Nodes.add_up.Given as goal

abbrev pub invariant-loop-i : goal.invariant-loop-i
invariant-loop-i l = record {
  long : length l.weights ≡ size l.self;
  before : (k : ℕ) → k < l.i → get_or l.weights k 0 ≡ weight (depth_at l.self k);
  totals : TotalsFrom l.self l.i l.weights;
}
