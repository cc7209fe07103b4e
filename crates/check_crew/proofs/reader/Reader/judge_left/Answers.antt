use Rattle.std.proofs.Common.{◌∙◌}
use Rattle.check_crew.proofs.WhileReadMarks.{keeps_both, keeps_none}
use Rattle.check_crew.proofs.reader.Reader.judge_left.Goals as goal

pub loop-init : goal.loop-init
loop-init g c = record {
  reader = c.requires.reader;
  examiner = c.requires.examiner;
  keeps = keeps_none c.args.self.now.kept.boards c.args.self.now.kept.given.items;
}

pub loop-preserved : goal.loop-preserved
loop-preserved g c = record {
  reader = c.judge_own.ensures.reader;
  examiner = c.judge_own.ensures.examiner ∙ c.loop.invariant.examiner;
  keeps =
      keeps_both c.args.self.now.kept.boards c.loop.self.kept.boards
      c.judge_own.new.self.kept.boards c.args.self.now.kept.given.items
      c.loop.self.kept.given.items c.judge_own.new.self.kept.given.items
      c.loop.invariant.keeps c.judge_own.ensures.marks;
}
