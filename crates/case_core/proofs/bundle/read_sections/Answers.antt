use Rattle.std.proofs.Common.{List, map, sym, ap, subst}
use Rattle.case_core.specs.Case.{SectionOf, section_in}
use Rattle.case_core.specs.Inner.Sections.{AreKept}
use Rattle.case_core.proofs.SectionsReading.{nothing_read}
use Rattle.case_core.proofs.bundle.read_sections.Goals as goal

pub loop-next-init : goal.loop-next-init
loop-next-init c =
    let none = ap (map (section_in c.args.bundle.now)) c.in_ok-sections.ensures.0 in record {
      kept =
          subst (λ (sections : List SectionOf).
          AreKept c.args.tree.now sections c.in_ok-sections.sections.places.items) (sym none)
          c.in_ok-sections.ensures.1;
      read = nothing_read c.args.tree.now c.args.bundle.now _ c.args.first none c.requires.first;
    }
