use Rattle.split_tree.proofs.TablesTotals.{weight_next}
use Rattle.split_tree.proofs.tables.branch_weight.Goals as goal

pub returns-then-above-gt1 : goal.returns-then-above-gt1
returns-then-above-gt1 c depth e = (weight_next depth c.args.above e).0 c.if-above-gt1.true

pub returns-else-above-gt1 : goal.returns-else-above-gt1
returns-else-above-gt1 c depth e = (weight_next depth c.args.above e).1 c.if-above-gt1.false
