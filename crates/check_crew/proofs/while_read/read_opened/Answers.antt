use Rattle.check_crew.specs.WhileRead.{bundle_behind}
use Rattle.check_crew.proofs.WhileReadRun.{handed_on, read_but, read_refused}
use Rattle.check_crew.proofs.while_read.read_opened.Goals as goal

pub returns-in_err-end-clause-refused : goal.returns-in_err-end-clause-refused
returns-in_err-end-clause-refused g c = λ icnf begins.
    let kept = c.args.reader.kept in
    handed_on c.from_residual.result c.in_err-end.field-0.0 icnf
    (bundle_behind icnf c.args.text (g.S.Stream.gives c.args.source.now))
    c.from_residual.ensures.1
    (read_refused _ _ _ kept.boards kept.given.items c.args.text _ c.read_with-read.result.0
    c.read_with-read.ensures icnf begins c.in_err-end.field-0.0 c.in_err-end.was)

pub returns-clause-boards : goal.returns-clause-boards
returns-clause-boards g c = λ icnf begins.
    let kept = c.args.reader.kept in
    let but =
    read_but _ _ _ kept.boards kept.given.items c.args.text _ c.read_with-read.result.0
    c.read_with-read.ensures icnf begins c.in_ok-end.field-0 c.in_ok-end.was in record {
      bundle = but.bundle;
      is_given = but.is_given;
      front = but.front;
      judged = c.in_ok-end_read.ensures.marks but.bundle but.marks;
    }
