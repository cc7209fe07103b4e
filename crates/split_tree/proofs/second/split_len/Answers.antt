use Rattle.std.proofs.Common.{refl}
use Rattle.split_tree.specs.SplitTree.{SplitsOn}
use Rattle.split_tree.proofs.SecondAlike.{one_more, none_behind}
use Rattle.split_tree.proofs.second.split_len.Goals as goal

pub loop-index-preserved : goal.loop-index-preserved
loop-index-preserved c =
    one_more (λ d. SplitsOn c.args.variable d.literals) c.args.cubes.now c.loop-index.index
    c.index-cubes-index.result c.loop-index-test.true c.index-cubes-index.is
    c.loop-index.invariant (c.if-not-splits_on.ensures.0 refl)

pub returns-clause-next : goal.returns-clause-next
returns-clause-next c = λ d h. absurd (none_behind c.args.cubes.now d h)
