-- Marks of boards that were compared with what workers found of targets.
use Rattle.std.proofs.Common.{◌≡◌, ◌<◌, ℕ, List, All, Option, None, Some, sym, ap, ◌∙◌, subst}
use Rattle.std.specs.Prelude.{Bool, IfSome}
use Rattle.case_core.specs.SplitTree.{size}
use Rattle.case_core.specs.Target.{Target}
use Rattle.case_core.specs.Target.TheVariants.{Node}
use Rattle.case_core.specs.Case.{CaseOf}
use Rattle.case_core.proofs.CaseTables.{one_target}
use Rattle.mark_board.specs.Boards.{BoardsOf}
use Rattle.mark_board.specs.Marking.{mark_at}
use Rattle.mark_board.proofs.BoardsGathered.{target_inside}
use Rattle.proof_folder.specs.Given.{AreFoundApart, IsGivenFor}
use Rattle.board_hall.specs.declared.pass.Pass.{Pass}
use Rattle.board_hall.specs.Halls.{HallOf, IsPassOf}
use Rattle.board_hall.specs.Clauses.{Gathers}
use Rattle.proof_folder.specs.TargetProofs.{IsGiven, Known}
use Rattle.check_crew.specs.Seen.{HaveSeenSections}
use Rattle.check_crew.specs.Inner.Apart.{AreAbsent, IsRightAt}
use Rattle.check_crew.proofs.SeenFindings.{section_mark}

-- where each target is right, and the finding of each section was seen, the marks of the boards are
-- those of a run with proofs elsewhere
pub found_apart : (hall : HallOf) (passes : List Pass) (boards : BoardsOf) (known : Known)
    → Gathers hall passes boards → All (IsPassOf hall) passes
    → HaveSeenSections hall.of.case passes
    → ((node : ℕ) → node < size hall.of.case.tree → IsRightAt known hall.of.case boards.marks node)
    → AreFoundApart known hall.of.case boards.marks
found_apart hall passes boards known gathered own seen right = record {
  long = gathered.hold.long;
  sections = section_mark hall passes boards gathered own seen;
  targets = λ node target at.
      let is = right node (target_inside hall.of.case.tree node target at) in
      let same : is.target ≡ target =
      one_target hall.of.case.tree node is.target target is.here at in (
        is.given,
        subst (λ (t : Target). IsGivenFor (known t) hall.of.case t (mark_at boards.marks node)
            is.given) same is.is,
      );
}

-- so are boards that are handed on where each target is right
pub apart_boards : (hall : HallOf) (passes : List Pass) (boards : BoardsOf) (known : Known)
    (some : Option BoardsOf) (Right : Type 0)
    → Gathers hall passes boards → All (IsPassOf hall) passes → HaveSeenSections hall.of.case passes
    → IfSome some (λ kept. kept ≡ boards) → IfSome some (λ kept. Right)
    → (Right → (node : ℕ) → node < size boards.case.tree →
    IsRightAt known boards.case boards.marks node)
    → IfSome some (λ kept. (kept.case ≡ hall.of.case) × (kept.cut ≡ hall.of.cut)
    × AreFoundApart known hall.of.case kept.marks)
apart_boards hall passes boards known None Right gathered own seen same right so = tt
apart_boards hall passes boards known (Some kept) Right gathered own seen same right so =
    let of_case : boards.case ≡ hall.of.case = gathered.hold.case in (
      ap (λ (b : BoardsOf). b.case) same ∙ of_case,
      ap (λ (b : BoardsOf). b.cut) same ∙ gathered.hold.cut,
      subst (λ (b : BoardsOf). AreFoundApart known hall.of.case b.marks) (sym same)
          (found_apart hall passes boards known gathered own seen
          (λ node within.
          subst (λ (k : CaseOf). IsRightAt known k boards.marks node) of_case
          (so right node (rw of_case within)))),
    )

-- what is noted of inner nodes by one reader is known
pub absent_known : (held known : Known) (absent : List Bool)
    → ((target : Target) → held target ≡ known target) → AreAbsent held absent →
    AreAbsent known absent
absent_known held known absent same are node noted =
    subst (λ (k : Option (Option (List ℕ))). IsGiven k None) (same (Node node)) (are node noted)
