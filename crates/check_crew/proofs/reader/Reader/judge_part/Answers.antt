use Rattle.check_crew.proofs.WhileReadMarks.{part_posted}
use Rattle.check_crew.proofs.reader.Reader.judge_part.Goals as goal

pub returns-clause-posted : goal.returns-clause-posted
returns-clause-posted g c =
    part_posted g.J.NamesCase.case c.args.self.now.kept.boards c.post.new.self c.args.target
    c.args.front.now c.args.text.now c.examine_part.new.text
    (g.S.Stream.gives c.args.source.now) (g.S.Stream.gives c.examine_part.new.source)
    c.in_ok-read.read c.again.result c.post.result
    (rw c.requires.examiner at c.in_ok-read.ensures.read) c.requires.reader.boards
    c.again.ensures.case c.again.ensures.leaf c.again.ensures.node c.again.ensures.judged
    c.requires.open c.post.ensures.new.1 c.post.ensures.marks
