use Rattle.std.proofs.Common.{◌++◌}
use Rattle.check_crew.specs.WhileRead.{bundle_behind}
use Rattle.check_crew.proofs.WhileRead.{all_kept, all_read}
use Rattle.check_crew.proofs.WhileReadMarks.{told_as}
use Rattle.check_crew.proofs.reader.Reader.read_all.Goals as goal

pub returns-in_default-clause-all : goal.returns-in_default-clause-all
returns-in_default-clause-all g c = λ icnf read.
    all_read c.args.self.now.kept.boards c.args.self.now.kept.given.items icnf
    (bundle_behind icnf c.args.text.now (g.S.Stream.gives c.args.source.now))
    (g.S.Stream.gives c.args.source.now) c.args.text.now read
    (rw c.in_default.is at c.in_ok-label.ensures.label).0

pub returns-in_err-read_from-clause-refused : goal.returns-in_err-read_from-clause-refused
returns-in_err-read_from-clause-refused g c =
    told_as c.from_residual-in_err-read_from.result _ c.in_err-read_from.field-0.0
    c.from_residual-in_err-read_from.ensures.1 (λ icnf read.
    c.in_err-read_from.ensures.refused icnf (icnf ++ c.args.text.now.behind)
    c.args.source.now (record {
      before = c.args.text.now;
      read = read;
      taken = rw c.in-Some.is at c.in_ok-label.ensures.label;
    }))

pub returns-clause-all : goal.returns-clause-all
returns-clause-all g c = λ icnf read.
    all_kept c.read_from.new.self.kept.boards c.judge_left.new.self.kept.boards
    c.read_from.new.self.kept.given.items c.judge_left.new.self.kept.given.items icnf
    (bundle_behind icnf c.args.text.now (g.S.Stream.gives c.args.source.now))
    c.judge_left.ensures.marks
    (c.in_ok-read_from.ensures.all icnf (icnf ++ c.args.text.now.behind) c.args.source.now
    (record {
      before = c.args.text.now;
      read = read;
      taken = rw c.in-Some.is at c.in_ok-label.ensures.label;
    }))
