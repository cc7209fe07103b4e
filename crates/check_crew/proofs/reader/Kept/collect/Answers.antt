use Rattle.check_crew.proofs.WhileReadMarks.{keeps_both, keeps_none}
use Rattle.check_crew.proofs.reader.Kept.collect.Goals as goal

pub loop-init : goal.loop-init
loop-init g c = keeps_none c.args.self.now.boards c.args.self.now.given.items

pub loop-preserved : goal.loop-preserved
loop-preserved g c =
    keeps_both c.args.self.now.boards c.loop.self.boards c.settle.new.self.boards
    c.args.self.now.given.items c.loop.self.given.items c.settle.new.self.given.items
    c.loop.invariant c.settle.ensures
