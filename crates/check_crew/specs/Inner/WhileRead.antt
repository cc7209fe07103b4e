-- A bundle that is read section by section, while others judge some of its proofs.
use Rattle.std.specs.Prelude.{◌≡◌, ◌<◌, ◌⊎◌, ℕ, List, [], ◌++◌, Option, None, Some, true}
use Rattle.std.specs.Prelude.{Err, IfErr, OnOk, count_by, get_or, length, slice_set}
use Rattle.byte_flow.specs.Device.{HasGiven}
use Rattle.case_core.specs.Bundle.{icnf_text}
use Rattle.case_core.specs.Case.{CaseOf, SectionOf, proof_for}
use Rattle.case_core.specs.Label.{IsTargetOf, label_name}
use Rattle.case_core.specs.Labelled.{IsLabelTaken, IsOverWith, IsPart, LabelledOf, Stands}
use Rattle.case_core.specs.Leaves.{IsTargetAt}
use Rattle.case_core.specs.Sections.{IsCaseOf}
use Rattle.case_core.specs.SplitTree.{size}
use Rattle.case_core.specs.Target.{Target}
use Rattle.case_core.specs.Tokens.{is_line_end, words}
use Rattle.mark_board.specs.Boards.{BoardsOf}
use Rattle.mark_board.specs.Findings.{IsMarkOf}
use Rattle.mark_board.specs.Marking.{mark_at}
use Rattle.mark_board.specs.declared.mark.Mark.{Mark}
use Rattle.mark_board.specs.declared.mark.Mark.TheVariants.{Open}
use Rattle.board_hall.specs.Halls.{core_of, shared_of, view_of, IsPassOf}
use Rattle.board_hall.specs.declared.pass.Pass.{Pass}
use Rattle.board_hall.specs.declared.view.Proofs.TheVariants.{Elsewhere}
use Rattle.check_crew.specs.One.{IsFoundOn}
use Rattle.check_crew.specs.WhileRead.{IsReadFault, IsReadRefused, bundle_behind, read_fault}
use Rattle.check_crew.specs.declared.fault.CrewFault.{CrewFault}
use Rattle.check_crew.specs.declared.reader.Reader.{Reader}
use Rattle.check_crew.specs.declared.site.Site.{Site}
use Rattle.check_crew.specs.declared.while_read.Helper.{Helper}
use Rattle.check_crew.specs.declared.while_read.ReadBundle.{ReadBundle}

-- ---- workers

-- the hall is of this case, which has no sections and is that of a bundle, and takes findings by
-- proofs that the case doesn't hold
pub record IsSite {R G : Type 0} (case : CaseOf) (site : Site R G) : Type 0 where
  pub of_case : site.case.now ≡ case
  pub of_hall : (core_of site.core.now).case ≡ case
  pub takes : (core_of site.core.now).proofs ≡ Elsewhere
  pub bare : case.sections ≡ []
  pub of_bundle : (icnf : List ℕ) × IsCaseOf icnf case

-- a pass of the hall that owes nothing
pub record IsFree {R G : Type 0} (site : Site R G) (pass : Pass) : Type 0 where
  pub own : IsPassOf (shared_of site.core.now) pass
  pub owes : (view_of pass).owes ≡ None

-- a helper of a run on this case
pub record IsHelper {R G J : Type 0} (case : CaseOf) (helper : Helper R G J) : Type 0 where
  pub site : IsSite case helper.site
  pub free : IsFree helper.site helper.pass

-- a reader of this case
pub record IsReader {R G J : Type 0} (case : CaseOf) (reader : Reader R G J) : Type 0 where
  pub site : IsSite case reader.site
  pub free : IsFree reader.site reader.pass
  pub boards : reader.kept.boards.case ≡ case

-- ---- proofs that others have

-- one of the places has this proof of a target
pub record IsOut (out : List (Option SectionOf)) (target : Target) (text : List ℕ) : Type 0 where
  pub place : ℕ
  pub proof : SectionOf
  pub here : get_or out place None ≡ Some proof
  pub of : proof.target ≡ target
  pub is : proof.proof ≡ text

-- a place of them that was empty has the proof now
pub record IsPutOut (old new : List (Option SectionOf)) (proof : SectionOf) : Type 0 where
  pub place : ℕ
  pub within : place < length old
  pub empty : get_or old place None ≡ None
  pub set : new ≡ slice_set old place (Some proof)

-- ---- marks

-- the target has the mark of its finding; or it is open, and somebody has the proof of its section
abbrev pub IsMarkedOrOut : CaseOf → List (Option SectionOf) → Target → Mark →
    Type 0
IsMarkedOrOut whole out target mark =
    (IsMarkOf whole target mark × (mark ≡ Open → proof_for whole.sections target ≡ None))
    ⊎ ((mark ≡ Open) × ((text : List ℕ) × (proof_for whole.sections target ≡ Some text)
    × IsOut out target text))

-- these boards have the marks of a bundle, but for the targets whose proofs others have
pub record AreMarksBut (boards : BoardsOf) (out : List (Option SectionOf))
    (bundle : List ℕ) : Type 0 where
  pub whole : CaseOf
  pub is : IsCaseOf bundle whole
  pub formula : whole.formula ≡ boards.case.formula
  pub tree : whole.tree ≡ boards.case.tree
  pub long : length boards.marks ≡ size boards.case.tree
  pub each : (node : ℕ) (target : Target) → IsTargetAt boards.case.tree node target →
      IsMarkedOrOut whole out target (mark_at boards.marks node)
  pub sections : (place : ℕ) (proof : SectionOf) → get_or out place None ≡ Some proof →
      proof_for whole.sections proof.target ≡ Some proof.proof

-- they stay so, whichever bundle it is
pub record KeepsMarks (old new : BoardsOf) (out now : List (Option SectionOf)) : Type 0 where
  pub case : new.case ≡ old.case
  pub cut : new.cut ≡ old.cut
  pub marks : (bundle : List ℕ) → AreMarksBut old out bundle → AreMarksBut new now bundle

-- the mark of a target is that of its judgement by these lines and, behind them, a part of a text
pub record IsPartPosted (old new : BoardsOf) (target : Target) (front : List ℕ)
    (before after : LabelledOf) (left rest : List ℕ → Type 0) : Type 0 where
  pub bytes : List ℕ
  pub part : IsPart before after left rest bytes
  pub found : IsFoundOn old new target (front ++ bytes)

-- ---- how far a bundle is read

-- The boards have the marks of what was read of a text up to where it stands, but for proofs that
-- others have. It has this iCNF text; which bundles might be given, and what may be left of them.
pub record IsReadOn (boards : BoardsOf) (out : List (Option SectionOf))
    (icnf : List ℕ) (given left : List ℕ → Type 0) (text : LabelledOf) : Type 0 where
  pub done : List ℕ
  pub front : icnf_text done ≡ icnf
  pub passed : HasGiven given left (done ++ text.behind)
  pub over : IsOverWith text left
  pub ready : text.ready ≡ []
  pub stands : Stands done text
  pub marks : AreMarksBut boards out done
  pub lines : text.at_label ≡ true → text.lines ≡ count_by is_line_end done

-- so it was before the text went on behind this label line
pub record IsBelowLabel (boards : BoardsOf) (out : List (Option SectionOf))
    (icnf : List ℕ) (given left : List ℕ → Type 0) (text : LabelledOf) (line : List ℕ) (lines : ℕ)
    : Type 0 where
  pub before : LabelledOf
  pub read : IsReadOn boards out icnf given left before
  pub taken : IsLabelTaken before text line lines

-- and the line names this target, which has no section above it
pub record IsBelow (boards : BoardsOf) (out : List (Option SectionOf))
    (icnf : List ℕ) (given left : List ℕ → Type 0) (text : LabelledOf) (target : Target)
    : Type 0 where
  pub line : List ℕ
  pub lines : ℕ
  pub label : IsBelowLabel boards out icnf given left text line lines
  pub named : IsTargetOf boards.case.tree (label_name (words line)) target
  pub free : proof_for label.read.marks.whole.sections target ≡ None

-- all that was given is read, and the boards have its marks, but for proofs that others have
pub record IsAllBut (boards : BoardsOf) (out : List (Option SectionOf))
    (icnf : List ℕ) (given : List ℕ → Type 0) : Type 0 where
  pub bundle : List ℕ
  pub is_given : given bundle
  pub front : icnf_text bundle ≡ icnf
  pub marks : AreMarksBut boards out bundle

-- ---- what the reader does while the others work

-- It hands back the boards of all that a source gave, or the first fault of that; and the source,
-- of which it tells whether a read failed.
pub record IsReadBy {J L : Type 0} (gives : L → List ℕ → Type 0) (failures : L → ℕ)
    (is_back : L → L → Type 0) (boards : BoardsOf) (out : List (Option SectionOf))
    (text : LabelledOf) (lent : L) (read : ReadBundle J L) : Type 0 where
  pub back : is_back lent read.lent
  pub case : read.kept.boards.case ≡ boards.case
  pub cut : read.kept.boards.cut ≡ boards.cut
  pub all : OnOk read.end ((icnf : List ℕ)
      → IsReadOn boards out icnf (bundle_behind icnf text (gives lent)) (gives lent) text
      → IsAllBut read.kept.boards read.kept.given.items icnf
      (bundle_behind icnf text (gives lent)))
  pub refused : IfErr read.end (λ fault. (icnf : List ℕ)
      → IsReadOn boards out icnf (bundle_behind icnf text (gives lent)) (gives lent) text
      → IsReadRefused icnf (bundle_behind icnf text (gives lent)) fault)
  pub ok : OnOk read.end (failures read.lent ≡ failures lent)
  pub err : IfErr read.end (IsReadFault (failures lent) (failures read.lent))

-- or nothing was read, for a fault of the crew
abbrev pub IsReadOrNot : {J L : Type 0} → (L → List ℕ → Type 0) → (L → ℕ) → (L → L → Type 0)
    → BoardsOf → List (Option SectionOf) → LabelledOf → L → ReadBundle J L → Type 0
IsReadOrNot gives failures is_back boards out text lent read =
    IsReadBy gives failures is_back boards out text lent read
    ⊎ ((read.lent ≡ lent) × (read.kept.boards ≡ boards)
    × ((fault : CrewFault) × (read.end ≡ Err (read_fault fault))))
