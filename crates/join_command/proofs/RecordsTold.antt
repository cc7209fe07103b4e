-- What is taken for granted of records says that they are reports on the bundle's formula and tree.
use Rattle.std.proofs.Common.{◌≡◌, ◌∙◌, sym, ap, subst, Bool, true, false, List, [], ◌∷◌, ◌++◌}
use Rattle.std.proofs.Common.{ℕ, Option, Some, None, refl}
use Rattle.std.specs.List.{All}
use Rattle.std.proofs.lemmas.List.{map-id}
use Rattle.std.proofs.lemmas.List.Elements.{All-head, All-tail}
use Rattle.case_core.specs.Literal.{Literal}
use Rattle.case_core.specs.Icnf.{StandsFor, clauses_of}
use Rattle.case_core.specs.SplitTree.{SplitTree}
use Rattle.case_core.specs.Case.{CaseOf}
use Rattle.case_core.specs.Sections.{IsCaseOf}
use Rattle.case_core.proofs.IcnfUnique.{one_text}
use Rattle.case_core.proofs.SectionsUniqueCase.{one_case, one_tree}
use Rattle.mark_board.specs.Findings.{AreFindings}
use Rattle.cube_report.specs.Bundle.{icnf_text}
use Rattle.cube_report.specs.Mark.{Mark}
use Rattle.cube_report.specs.Report.{report_text}
use Rattle.bundle_files.specs.Files.{Held, IsJudgedOf}
use Rattle.bundle_files.specs.Formula.{IsBundleOf}
use Rattle.bundle_files.proofs.LawsFormula.{judged_keeps_items}
use Rattle.cube_command.specs.Program.{IsReported}
use Rattle.cube_command.specs.Record.{digest_line, record_text}
use Rattle.cube_command.specs.Sources.{IsSoBy, sources_of}
use Rattle.cube_command.specs.Words.{Asked}
use Rattle.cube_command.proofs.RecordLines.{one_line}
use Rattle.cube_join.specs.Joined.{AreReportsWith, IsReportWith}
use Rattle.join_command.specs.Program.{AreTrusted, IsLeftBy, IsOwnRecord, behind_each, line_before}

-- ---- one record

report_with : (case : CaseOf) (formula : List (List Literal)) (tree : SplitTree) (marks : List Mark)
    (report : List ℕ) → case.formula ≡ formula → case.tree ≡ tree → AreFindings case marks →
    report ≡ report_text case.tree marks → IsReportWith formula tree report
report_with case formula tree marks report same_formula same_tree findings text =
    let same : case
    ≡ record { formula = formula; tree = tree; sections = case.sections } =
    λ i. record { formula = same_formula i; tree = same_tree i; sections = case.sections } in
    record {
      sections = case.sections;
      marks = marks;
      findings = subst (λ (c : CaseOf). AreFindings c marks) same findings;
      text = text ∙ ap (λ (t : SplitTree). report_text t marks) same_tree;
    }

-- a record that names the bundle's iCNF text has a report on the bundle's formula and tree
own_report : (bundle report : List ℕ) (case : CaseOf) → IsCaseOf bundle case →
    IsOwnRecord bundle (digest_line (icnf_text bundle) ++ report) →
    IsReportWith case.formula case.tree report
own_report bundle report case is own =
    let run = own.1 in
    let on = run.left.1 in
    let both = one_line (icnf_text bundle) (icnf_text own.0) report run.left.0 run.left.2 in
    let same : icnf_text own.0 ≡ icnf_text bundle = own.2 (sym both.0) in
    let stands = judged_keeps_items run.held run.folder own.0 run.whole on.2.case_is.items
    run.judged on.2.case_is.text in
    let items : on.2.case_is.items ≡ is.items =
    one_text (icnf_text bundle) on.2.case_is.items is.items
    (subst (λ (text : List ℕ). StandsFor text on.2.case_is.items) same stands) is.text in
    report_with on.0 case.formula case.tree on.1 report
    (on.2.case_is.formula ∙ ap clauses_of items ∙ sym is.formula)
    (one_tree on.2.case_is.items is.items on.0.tree case.tree items on.2.case_is.tree is.tree)
    on.2.findings (both.1 ∙ on.3)

-- ---- all of them

own_reports : (bundle : List ℕ) (case : CaseOf) (reports : List (List ℕ)) → IsCaseOf bundle case →
    All (IsOwnRecord bundle) (behind_each (digest_line (icnf_text bundle)) reports) →
    AreReportsWith case.formula case.tree reports
own_reports bundle case [] is all = tt
own_reports bundle case (report ∷ reports) is all =
    let line : List ℕ = digest_line (icnf_text bundle) in (
      own_report bundle report case is
          (All-head (IsOwnRecord bundle) (line ++ report) (behind_each line reports) all),
      own_reports bundle case reports is
          (All-tail (IsOwnRecord bundle) (line ++ report) (behind_each line reports) all),
    )

pub reports_told : (unbound : Bool) (bundle : List ℕ) (texts reports : List (List ℕ))
    (case : CaseOf) → IsCaseOf bundle case →
    texts ≡ behind_each (line_before unbound bundle) reports → AreTrusted unbound bundle texts →
    AreReportsWith case.formula case.tree reports
reports_told true bundle texts reports case is parts are =
    let same : texts ≡ reports = parts ∙ map-id reports in
    rw (same, one_case bundle are.0 case are.1 is) at are.2
reports_told false bundle texts reports case is parts are =
    own_reports bundle case reports is (subst (All (IsOwnRecord bundle)) parts are)

-- ---- a run that leaves a record

judged_of : (held : Held) (asked : Asked) (proof input : Option (List ℕ)) (read whole : List ℕ)
    → IsSoBy held proof input
    (λ given. IsBundleOf held (sources_of asked) asked.folder given read whole)
    → IsJudgedOf held asked.folder read whole
judged_of held asked None input read whole bundle = bundle.is_judged
judged_of held asked (Some path) input read whole bundle = bundle.2.is_judged

pub left_by_run : (held after : Held) (asked : Asked) (input old new : Option (List ℕ))
    (answer : Bool) (run : IsReported held after asked input old new answer) →
    IsLeftBy run.read (record_text run.read run.text)
left_by_run held after asked input old new answer run =
    let correct = run.correct in record {
      held = held;
      folder = asked.folder;
      whole = run.whole;
      judged = judged_of held asked asked.proof input run.read run.whole run.bundle;
      left = (run.text, (correct.case, correct.marks, correct.judged, correct.text), refl);
    }
