use Rattle.std.proofs.Common.{◌≡◌, ◌<◌, ◌+◌, ◌-◌, ◌^◌, ℕ, arith}
use Rattle.split_tree.specs.SplitTree.{total}
use Rattle.split_tree.proofs.TablesTotals.{TotalsFrom, sum_of, total_at, total_fits}
use Rattle.split_tree.proofs.nodes.Nodes.add_up.Goals as goal

pub overflow_add-weights : goal.overflow_add-weights
overflow_add-weights c =
    let j : ℕ = c.loop-i.i - 1 in
    let here : c.loop-i.i ≡ j + 1 = omega arith in
    let known : TotalsFrom c.args.self.now (j + 1) c.loop-i.weights =
    rw here at c.loop-i.invariant.totals in
    let sum =
    sum_of c.args.self.now c.loop-i.weights j c.in-Some.first c.in-Some.second known
    c.in-Some.ensures in
    let few : total 0 c.args.self.now < 2 ^ 64 = total_fits c.args.self.now (omega arith) in
    let part = total_at c.args.self.now j (omega arith) in
    omega (arith, sum, part)
