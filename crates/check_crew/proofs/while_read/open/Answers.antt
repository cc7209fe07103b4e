use Rattle.std.proofs.Common.{◌∙◌, Some}
use Rattle.std.proofs.lemmas.List.Elements.{All-pop}
use Rattle.board_hall.specs.Halls.{shared_of, IsNewPass}
use Rattle.check_crew.proofs.WhileReadRun.{new_free}
use Rattle.check_crew.proofs.while_read.open.Goals as goal

pub returns-clause-reader : goal.returns-clause-reader
returns-clause-reader g c =
    let site = c.args.site in record {
      site = c.requires.site;
      free =
          new_free site c.in-Some.pass
          (All-pop (IsNewPass (shared_of site.core.now)) _ _ (Some c.in-Some.pass)
          c.in-Some.ensures.items c.requires.passes).1;
      boards = c.in_ok-kept.ensures.boards.0 ∙ c.requires.site.of_case;
    }
