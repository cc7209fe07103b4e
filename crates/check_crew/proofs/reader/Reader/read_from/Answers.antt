use Rattle.std.proofs.Common.{◌∙◌}
use Rattle.byte_flow.specs.Device.{GrewBy}
use Rattle.check_crew.proofs.WhileRead.{all_read, read_kept}
use Rattle.check_crew.proofs.WhileReadMarks.{told_as}
use Rattle.check_crew.proofs.reader.Reader.read_from.Goals as goal

pub returns-in_err-read_labelled-clause-refused : goal.returns-in_err-read_labelled-clause-refused
returns-in_err-read_labelled-clause-refused g c =
    told_as c.from_residual.result _ c.in_err-read_labelled.field-0.0 c.from_residual.ensures.1
    (λ icnf begun start below.
    c.in_err-read_labelled.ensures.refused icnf begun start
    (c.loop.invariant.below icnf begun start below))

pub returns-in_default-clause-all : goal.returns-in_default-clause-all
returns-in_default-clause-all g c = λ icnf begun start below.
    let none = rw c.in_default.is at c.in_ok-following.ensures.label in
    all_read c.collect.new.self.boards c.collect.new.self.given.items icnf
    (GrewBy (g.S.Stream.gives start) begun)
    (g.S.Stream.gives c.read_labelled.new.source) c.read_labelled.new.text
    (read_kept c.read_labelled.new.self.kept.boards c.collect.new.self.boards
    c.read_labelled.new.self.kept.given.items c.collect.new.self.given.items icnf
    (GrewBy (g.S.Stream.gives start) begun)
    (g.S.Stream.gives c.read_labelled.new.source) c.read_labelled.new.text c.collect.ensures
    (c.in_ok-read_labelled.ensures.read icnf begun start
    (c.loop.invariant.below icnf begun start below)))
    none.0

pub loop-preserved : goal.loop-preserved
loop-preserved g c = record {
  reader = record {
    site = c.read_labelled.ensures.reader.site;
    free = c.read_labelled.ensures.reader.free;
    boards = c.collect.ensures.case ∙ c.read_labelled.ensures.reader.boards;
  };
  examiner = c.read_labelled.ensures.examiner ∙ c.loop.invariant.examiner;
  cut = c.collect.ensures.cut ∙ c.read_labelled.ensures.cut ∙ c.loop.invariant.cut;
  count = c.in_ok-read_labelled.ensures.ok ∙ c.loop.invariant.count;
  below = λ icnf begun start below. record {
    before = c.read_labelled.new.text;
    read =
        read_kept c.read_labelled.new.self.kept.boards c.collect.new.self.boards
        c.read_labelled.new.self.kept.given.items c.collect.new.self.given.items icnf
        (GrewBy (g.S.Stream.gives start) begun)
        (g.S.Stream.gives c.read_labelled.new.source) c.read_labelled.new.text
        c.collect.ensures
        (c.in_ok-read_labelled.ensures.read icnf begun start
        (c.loop.invariant.below icnf begun start below));
    taken = rw c.in-Some-2.is at c.in_ok-following.ensures.label;
  };
}
