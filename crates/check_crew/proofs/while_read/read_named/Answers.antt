use Rattle.std.proofs.Common.{subst}
use Rattle.case_core.specs.Sections.{IsCaseOf}
use Rattle.check_crew.proofs.WhileRead.{first_read}
use Rattle.check_crew.proofs.while_read.read_named.Goals as goal

pub returns-clause-boards : goal.returns-clause-boards
returns-clause-boards g c = λ icnf case_is at.
    let opened = c.in_ok-reader.ensures in let kept = c.in_ok-reader.reader.kept in
    c.read_opened.ensures.boards icnf
    (first_read kept.boards kept.given.items icnf (g.S.Stream.gives c.args.source.now)
    c.args.text g.J.NamesCase.case (subst (IsCaseOf icnf) c.requires.site.of_case case_is)
    c.requires.ready at opened.reader.boards opened.marks opened.given)

pub returns-clause-refused : goal.returns-clause-refused
returns-clause-refused g c = λ icnf case_is at.
    let opened = c.in_ok-reader.ensures in let kept = c.in_ok-reader.reader.kept in
    c.read_opened.ensures.refused icnf
    (first_read kept.boards kept.given.items icnf (g.S.Stream.gives c.args.source.now)
    c.args.text g.J.NamesCase.case (subst (IsCaseOf icnf) c.requires.site.of_case case_is)
    c.requires.ready at opened.reader.boards opened.marks opened.given)
