-- A report and a picture look at the tree and the marks alone.
use Rattle.std.proofs.Common.{◌≡◌, ◌∙◌, ap, ap₂, refl, sym, subst, ℕ, zero, suc, ◌+◌, ◌-◌, ◌*◌, ◌^◌}
use Rattle.std.proofs.Common.{Bool, List, [], ◌++◌, ◌||◌, codes}
use Rattle.std.proofs.Common.{true, false}
use Rattle.case_core.specs.Literal.{Literal}
use Rattle.split_tree.specs.SplitTree.{SplitTree, missing, cube, split, size, total}
use Rattle.case_core.specs.Case.{CaseOf, SectionOf}
use Rattle.mark_board.specs.declared.mark.Mark.{Mark}
use Rattle.mark_board.specs.Marking.{marked, refuted_by, open_weight}
use Rattle.mark_board.specs.TopPlaces.{worth_of}
use Rattle.tree_map.specs.Picture.{map_text, cells, cell, frame, told, rectangle, color, head}
use Rattle.tree_map.specs.Picture.{legend, title, rows}
use Rattle.cube_report.specs.Report.{report_text}
use Rattle.case_core.specs.Formula.{IsRefuted}
use Rattle.mark_board.specs.Findings.{AreFindings}
use Rattle.cube_report.specs.Correct.{map_if}
use Rattle.cube_report.specs.Stated.{IsStated, IsWrittenBy}

-- two cases with the same tree
module _ (formula others : List (List Literal)) (tree : SplitTree) (one other : List SectionOf)
    (marks : List Mark) where
  abbrev a : CaseOf
  a = record { formula = formula; tree = tree; sections = one }

  abbrev b : CaseOf
  b = record { formula = others; tree = tree; sections = other }

  told_same : (node : ℕ) (t : SplitTree) → told a marks node t ≡ told b marks node t
  told_same node missing = refl
  told_same node (cube k) = refl
  told_same node (split v p n) = refl

  cell_same : (level left node : ℕ) (covered : Bool) (t : SplitTree) →
      cell a marks level left node covered t ≡ cell b marks level left node covered t
  unfolding cell
  cell_same level left node covered t =
      ap (λ (s : List ℕ).
      rectangle (color marks level node covered t) (frame marks node t) left
      (40 + 24 * (11 - level)) (2 ^ level)
      ++ codes "<title>" ++ s ++ codes "</title></rect>\n") (told_same node t)

  cells_same : (level left node : ℕ) (covered : Bool) (t : SplitTree) →
      cells a marks level left node covered t ≡ cells b marks level left node covered t
  cells_same zero left node covered t = cell_same zero left node covered t
  cells_same (suc level) left node covered missing =
      cell_same (suc level) left node covered missing
  cells_same (suc level) left node covered (cube k) =
      cell_same (suc level) left node covered (cube k)
  cells_same (suc level) left node covered (split v p n) =
      ap₂ (λ (x y : List ℕ). x ++ y)
      (ap₂ (λ (x y : List ℕ). x ++ y) (cell_same (suc level) left node covered (split v p n))
      (cells_same level left (suc node)
      (covered || marked (refuted_by marks) node (split v p n)) p))
      (cells_same level (left + 2 ^ level) (suc (node + size p))
      (covered || marked (refuted_by marks) node (split v p n)) n)

  pub map_same : map_text a marks ≡ map_text b marks
  map_same =
      ap (λ (drawn : List ℕ).
      head (42 + 24 * rows 11 tree) ++ legend
      ++ title (marked (refuted_by marks) 0 tree)
      (open_weight (worth_of tree) (refuted_by marks) 0 tree) (total 0 tree)
      ++ drawn ++ codes "</svg>\n") (cells_same 11 0 0 false tree)

pub same_report : (one other : CaseOf) (marks : List Mark) → one.tree ≡ other.tree
    → (report_text one.tree marks ≡ report_text other.tree marks)
    × (map_text one marks ≡ map_text other marks)
same_report one other marks tree =
    subst (λ (t : SplitTree).
    (report_text t marks ≡ report_text other.tree marks)
    × (map_text (record { formula = one.formula; tree = t; sections = one.sections }) marks
    ≡ map_text other marks)) (sym tree)
    (refl, map_same one.formula other.formula other.tree one.sections other.sections marks)

same_if_drawn : (draws : Bool) (one other : CaseOf) (marks : List Mark) →
    map_text one marks ≡ map_text other marks → map_if draws one marks ≡ map_if draws other marks
same_if_drawn true one other marks same = same
same_if_drawn false one other marks same = refl

pub written_is_stated : (one other : CaseOf) (marks : List Mark) (draws : Bool)
    (report map : List ℕ) (answer : Bool) → one.formula ≡ other.formula → one.tree ≡ other.tree
    → AreFindings one marks
    → IsWrittenBy other marks draws report map answer → IsStated one draws report map answer
written_is_stated one other marks draws report map answer formula tree findings is =
    let same = same_report one other marks tree in record {
      marks = marks;
      findings = findings;
      text = is.text ∙ sym same.0;
      drawn = is.drawn ∙ sym (same_if_drawn draws one other marks same.1);
      refuted =
          is.refuted ∙ ap (λ (t : SplitTree). marked (refuted_by marks) 0 t) (sym tree);
      sound = λ refuted.
          subst (λ (f : List (List Literal)). IsRefuted f []) (sym formula) (is.sound refuted);
    }
