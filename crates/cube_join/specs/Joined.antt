-- Reports that are joined: what several reports on one formula and one tree say together.
use Rattle.std.specs.Prelude.{◌≡◌, ◌<◌, ◌≤◌, ◌⊎◌, ◌^◌, ℕ, Bool, true, List, [], ◌∷◌, length, None}
use Rattle.std.specs.Prelude.{replicate}
use Rattle.case_core.specs.Literal.{Literal, IsVariable}
use Rattle.case_core.specs.Reason.{Reason}
use Rattle.case_core.specs.Case.{CaseOf, SectionOf, proof_for}
use Rattle.case_core.specs.Target.{Target}
use Rattle.case_core.specs.Sections.{IsCaseOf}
use Rattle.split_tree.specs.SplitTree.{SplitTree, missing, cube, split, size, subtree_at}
use Rattle.split_tree.specs.Leaves.{cube_count}
use Rattle.mark_board.specs.declared.mark.Mark.{Mark}
use Rattle.mark_board.specs.declared.mark.Mark.TheVariants.{Open, Refuted, Rejected}
use Rattle.mark_board.specs.Marking.{marked, mark_at, refuted_by}
use Rattle.mark_board.specs.Findings.{AreFindings}
use Rattle.cube_report.specs.Report.{report_text}
use Rattle.cube_report.specs.Correct.{IsUnsatisfiable}

-- ---- marks

-- Of two marks of one node, the one that a join keeps: a refutation before a rejection, and that
-- before none; of two rejections the first.
abbrev pub joined_mark : Mark → Mark → Mark
joined_mark Open later = later
joined_mark Refuted later = Refuted
joined_mark (Rejected step reason) Refuted = Refuted
joined_mark (Rejected step reason) Open = Rejected step reason
joined_mark (Rejected step reason) (Rejected other why) = Rejected step reason

-- the same for each node
abbrev pub joined : List Mark → List Mark → List Mark
joined [] later = later
joined (mark ∷ marks) [] = mark ∷ marks
joined (mark ∷ marks) (other ∷ later) = joined_mark mark other ∷ joined marks later

-- the marks so far, joined with those of each report in turn
abbrev pub all_joined : List Mark → List (List Mark) → List Mark
all_joined marks [] = marks
all_joined marks (told ∷ others) = all_joined (joined marks told) others

-- no node has a mark
abbrev pub none_marked : SplitTree → List Mark
none_marked tree = replicate (size tree) Open

-- ---- reports

-- there is a mark for each node of the tree
abbrev pub HasMarkEach : SplitTree → List Mark → Type 0
HasMarkEach tree marks = length marks ≡ size tree

-- the text is the report by these marks, one for each node of the tree
abbrev pub IsToldBy : SplitTree → List ℕ → List Mark → Type 0
IsToldBy tree report marks = (length marks ≡ size tree) × (report ≡ report_text tree marks)

-- each text is the report by its marks
abbrev pub AreToldBy : SplitTree → List (List ℕ) → List (List Mark) → Type 0
AreToldBy tree [] [] = Unit {0}
AreToldBy tree [] (marks ∷ told) = ⊥
AreToldBy tree (report ∷ reports) [] = ⊥
AreToldBy tree (report ∷ reports) (marks ∷ told) =
    IsToldBy tree report marks × AreToldBy tree reports told

-- the text is the report on this formula and this tree, with some proofs
pub record IsReportWith (formula : List (List Literal)) (tree : SplitTree) (report : List ℕ)
    : Type 0 where
  pub sections : List SectionOf
  pub marks : List Mark
  pub findings : AreFindings (record { formula = formula; tree = tree; sections = sections }) marks
  pub text : report ≡ report_text tree marks

-- each text is the report on this formula and this tree, with some proofs
abbrev pub AreReportsWith : List (List Literal) → SplitTree → List (List ℕ) → Type 0
AreReportsWith formula tree [] = Unit {0}
AreReportsWith formula tree (report ∷ reports) =
    IsReportWith formula tree report × AreReportsWith formula tree reports

-- each target has a section in one of the two lists at most
abbrev pub ShareNoTarget : List SectionOf → List SectionOf → Type 0
ShareNoTarget one other =
    (target : Target) → (proof_for one target ≡ None) ⊎ (proof_for other target ≡ None)

-- the steps at which proofs were rejected have numbers of 64 bits, as in all that a program writes
abbrev pub HasSmallSteps : List Mark → Type 0
HasSmallSteps marks = (node step : ℕ) (reason : Reason) →
    mark_at marks node ≡ Rejected step reason → step < 2 ^ 64

-- the text is no report on this tree
abbrev pub IsStranger : SplitTree → List ℕ → Type 0
IsStranger tree report = (marks : List Mark) → HasSmallSteps marks → IsToldBy tree report marks → ⊥

-- ---- trees

-- each split is on a variable that the formats allow
abbrev pub HasVariables : SplitTree → Type 0
HasVariables missing = Unit {0}
HasVariables (cube k) = Unit {0}
HasVariables (split v positive negative) =
    IsVariable v × HasVariables positive × HasVariables negative

-- The tree can be told from a report on it: its variables are those that the formats allow, and its
-- cubes have the numbers from 1 up to how many there are. So it is with the tree of each bundle.
pub record IsLegible (tree : SplitTree) : Type 0 where
  pub variables : HasVariables tree
  pub cubes : (node k : ℕ) → node < size tree → subtree_at tree node ≡ cube k
      → (1 ≤ k) × (k ≤ cube_count tree)

-- ---- the main statement

-- these marks are what the texts tell together
abbrev pub IsJoinedSoFar : SplitTree → List (List ℕ) → List Mark → Type 0
IsJoinedSoFar tree reports marks =
    (told : List (List Mark)) × AreToldBy tree reports told
    × (marks ≡ all_joined (none_marked tree) told)

-- What a join of these texts on a bundle promises: each is a report by some marks on the tree of
-- the bundle's cubes; the joined text is the report by the joined marks; the answer is true exactly
-- where they mark the root; and where each text is the report on the bundle's formula and tree with
-- some proofs, the formula then has no model.
pub record IsJoined (bundle : List ℕ) (reports : List (List ℕ)) (text : List ℕ) (answer : Bool)
    : Type 0 where
  pub case : CaseOf
  pub case_is : IsCaseOf bundle case
  pub told : List (List Mark)
  pub by : AreToldBy case.tree reports told
  pub joint : text ≡ report_text case.tree (all_joined (none_marked case.tree) told)
  pub refuted : answer ≡ marked (refuted_by (all_joined (none_marked case.tree) told)) 0 case.tree
  pub sound : AreReportsWith case.formula case.tree reports → answer ≡ true →
      IsUnsatisfiable bundle
