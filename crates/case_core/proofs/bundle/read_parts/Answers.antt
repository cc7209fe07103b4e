use Rattle.std.proofs.Common.{◌≢◌, List, ℕ, ap, subst, refl}
use Rattle.cnf_text.specs.Icnf.{IsTextFault, StandsFor}
use Rattle.case_core.specs.declared.fault.CaseFault.TheVariants.{Memory}
use Rattle.case_core.specs.Faults.{of_text}
use Rattle.case_core.specs.Sections.{IsFaultOf, InText, InCubes, InLabels}
use Rattle.case_core.proofs.SectionsUniqueCase.{handed_on}
use Rattle.case_core.proofs.bundle.read_parts.Goals as goal

pub returns-in_err-file-clause-err : goal.returns-in_err-file-clause-err
returns-in_err-file-clause-err c =
    handed_on c.from_residual.result (λ fault. fault ≢ Memory → IsFaultOf c.args.bundle.now fault)
    (of_text c.in_err-file.field-0.0) c.from_residual.ensures.1
    (λ some. InText c.in_err-file.field-0.0 refl
    (subst (λ (text : List ℕ). IsTextFault text c.in_err-file.field-0.0) c.cut.ensures.front
    (c.in_err-file.ensures.err (λ e. some (ap of_text e)))))

pub returns-in_err-tree-clause-err : goal.returns-in_err-tree-clause-err
returns-in_err-tree-clause-err c =
    handed_on c.from_residual-in_err-tree.result
    (λ fault. fault ≢ Memory → IsFaultOf c.args.bundle.now fault) c.in_err-tree.field-0.0
    c.from_residual-in_err-tree.ensures.1
    (λ some. let file = c.in_ok-file.ensures.ok in
    let h = c.in_err-tree.ensures.err some file.0 file.2 in
    InCubes file.0 h.kind h.is
    (subst (λ (text : List ℕ). StandsFor text file.0) c.cut.ensures.front file.1) h.clashes)

pub returns-in_err-sections-clause-err : goal.returns-in_err-sections-clause-err
returns-in_err-sections-clause-err c =
    handed_on c.from_residual-in_err-sections.result
    (λ fault. fault ≢ Memory → IsFaultOf c.args.bundle.now fault) c.in_err-sections.field-0.0
    c.from_residual-in_err-sections.ensures.1
    (λ some. let file = c.in_ok-file.ensures.ok in
    let t = c.in_ok-tree.ensures.ok file.0 file.1.2.1 file.2 in
    InLabels file.0 c.in_ok-tree.tree
    (subst (λ (text : List ℕ). StandsFor text file.0) c.cut.ensures.front file.1) t.is
    (c.in_err-sections.ensures.err some))
