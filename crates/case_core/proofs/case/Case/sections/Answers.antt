use Rattle.std.proofs.Common.{◌∙◌, ap, map, subst}
use Rattle.case_core.specs.Case.{CaseOf, AreSections, targets_of}
use Rattle.case_core.proofs.CaseTables.{targets_in}
use Rattle.case_core.proofs.case.Case.sections.Goals as goal

pub returns-clause-targets : goal.returns-clause-targets
returns-clause-targets c =
    subst (λ (case : CaseOf). AreSections case.tree case.sections) c.self.view_is
    c.self.invariant.are_sections

pub returns-clause-targets_are : goal.returns-clause-targets_are
returns-clause-targets_are c =
    ap (λ sections. map (λ section. section.target) sections) c.deref.ensures.value
    ∙ targets_in c.self.inside.text.items c.self.inside.sections.items
    ∙ ap (λ (case : CaseOf). targets_of case.sections) c.self.view_is
