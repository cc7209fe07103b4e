use Rattle.case_core.proofs.SectionsReading.{read_on}
use Rattle.case_core.proofs.bundle.read_section.Goals as goal

pub returns-in-Ok-clause-ok : goal.returns-in-Ok-clause-ok
returns-in-Ok-clause-ok c =
    read_on _ _ _ _ _ _ _ c.first_part-part.result.next c.requires.label
    c.first_part-part.ensures.labels c.in-Ok.ensures.added c.in-Ok.ensures.kept.are_sections
