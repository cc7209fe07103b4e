-- Reports that are joined one after the other.
use Rattle.std.proofs.Common.{◌≡◌, ℕ, zero, suc, ◌+◌, List, [], ◌∷◌, ◌++◌}
use Rattle.std.proofs.Common.{replicate, refl, sym, ap, ◌∙◌, Bool, true, false}
use Rattle.case_core.specs.Icnf.{cubes_of}
use Rattle.split_tree.specs.SplitTree.{SplitTree, size}
use Rattle.split_tree.proofs.LeavesPaths.{cube_leaves}
use Rattle.case_core.specs.Case.{CaseOf}
use Rattle.case_core.specs.Sections.{IsCaseOf}
use Rattle.mark_board.specs.declared.mark.Mark.{Mark}
use Rattle.mark_board.specs.declared.mark.Mark.TheVariants.{Open}
use Rattle.mark_board.specs.Marking.{marked, refuted_by}
use Rattle.cube_report.proofs.CorrectReports.{unsatisfiable}
use Rattle.cube_join.specs.Joined.{AreToldBy, IsJoined, IsJoinedSoFar, all_joined}
use Rattle.cube_join.specs.Joined.{IsToldBy, joined, none_marked}
use Rattle.cube_report.specs.Report.{report_text}
use Rattle.cube_join.proofs.Sound.{joined_has_no_model}
use Rattle.cube_join.proofs.Bundles.{words_in}

told_last : (tree : SplitTree) (reports : List (List ℕ)) (told : List (List Mark)) (report : List ℕ)
    (marks : List Mark) → AreToldBy tree reports told →
    IsToldBy tree report marks → AreToldBy tree (reports ++ report ∷ []) (told ++ marks ∷ [])
told_last tree [] [] report marks h is = (is, tt)
told_last tree [] (m ∷ told) report marks h is = absurd h
told_last tree (r ∷ reports) [] report marks h is = absurd h
told_last tree (r ∷ reports) (m ∷ told) report marks h is =
    (h.0, told_last tree reports told report marks h.1 is)

joined_last : (marks : List Mark) (told : List (List Mark)) (last : List Mark) →
    all_joined marks (told ++ last ∷ []) ≡ joined (all_joined marks told) last
joined_last marks [] last = refl
joined_last marks (m ∷ told) last = joined_last (joined marks m) told last

-- one more report
pub so_far_more : (tree : SplitTree) (texts : List (List ℕ)) (marks next told : List Mark)
    (report : List ℕ) → IsJoinedSoFar tree texts marks → IsToldBy tree report told →
    next ≡ joined marks told → IsJoinedSoFar tree (texts ++ report ∷ []) next
so_far_more tree texts marks next told report h is j = (
  h.0 ++ told ∷ [],
  told_last tree texts h.0 report told h.1 is,
  j ∙ (ap (λ (m : List Mark). joined m told) h.2 ∙ sym (joined_last (none_marked tree) h.0 told)),
)

none_refuted : (n i : ℕ) → refuted_by (replicate n Open) i ≡ false
none_refuted zero i = refl
none_refuted (suc n) zero = refl
none_refuted (suc n) (suc i) = none_refuted n i

-- what all reports tell together is what a join promises
pub is_joined : (bundle : List ℕ) (case : CaseOf) (reports : List (List ℕ)) (marks : List Mark)
    (text : List ℕ) (answer : Bool) → IsCaseOf bundle case → IsJoinedSoFar case.tree reports marks →
    text ≡ report_text case.tree marks → answer ≡ marked (refuted_by marks) 0 case.tree →
    IsJoined bundle reports text answer
is_joined bundle case reports marks text answer is h t a =
    let same : answer ≡ marked (refuted_by (all_joined (none_marked case.tree) h.0)) 0 case.tree =
    a ∙ ap (λ (m : List Mark). marked (refuted_by m) 0 case.tree) h.2 in
    record {
      case = case;
      case_is = is;
      told = h.0;
      by = h.1;
      joint = t ∙ ap (report_text case.tree) h.2;
      refuted = same;
      sound = λ genuine says. unsatisfiable bundle case is
          (joined_has_no_model case.formula case.tree _ (none_marked case.tree)
          reports h.0 (cube_leaves case.tree (cubes_of is.items) _ is.tree refl)
          (words_in bundle case is) genuine h.1
          (λ r l k. let clash : false ≡ true = sym (none_refuted (size case.tree) (0 + r)) ∙ k in
          absurd (cc))
          (sym same ∙ says));
    }
