-- A bundle whose tree is cube 1 alone, with one proof that was judged while it was read.
use Rattle.std.proofs.Common.{◌≡◌, ◌≢◌, ◌∙◌, ◌+◌, sym, ap, refl, subst, ℕ, Bool}
use Rattle.std.proofs.Common.{List, [], ◌∷◌, ◌++◌, codes, append-nil, append_assoc, arith, decimal}
use Rattle.std.proofs.Common.{None, Some, inr}
use Rattle.std.specs.Prelude.{count_by, replicate, slice_set}
use Rattle.std.proofs.lemmas.List.Sums.{sum_by-append}
use Rattle.std.specs.Fmt.{digits}
use Rattle.case_core.proofs.BundleLines.{whole_both}
use Rattle.case_core.specs.Binary.{proof_text}
use Rattle.case_core.specs.Judged.{Judged}
use Rattle.case_core.specs.Judgement.{judgement}
use Rattle.case_core.specs.Literal.{Literal}
use Rattle.case_core.specs.Proof.{Proof, IsProofOf}
use Rattle.case_core.specs.SplitTree.{SplitTree, IsSplit, cube, size, subtree_at}
use Rattle.case_core.specs.Leaf.{Leaf}
use Rattle.case_core.specs.Leaf.TheVariants.{Cube, Missing}
use Rattle.case_core.specs.Leaves.{HasLeaf, HasTarget, IsLeafAt, IsPathOf, IsTargetAt}
use Rattle.case_core.specs.Target.{Target}
use Rattle.case_core.specs.Target.TheVariants.{Leaf as Named, Node}
use Rattle.case_core.specs.Bundle.{labels_of}
use Rattle.case_core.specs.Case.{CaseOf, SectionOf, proof_for}
use Rattle.case_core.specs.Finding.{HasSection, IsFoundBy}
use Rattle.case_core.specs.Label.{IsTargetOf, label_name}
use Rattle.case_core.specs.Labelled.{IsBehindLabel}
use Rattle.case_core.specs.Bundle.{AreWholeLines}
use Rattle.case_core.specs.Tokens.{is_line_end, words}
use Rattle.case_core.specs.Sections.{IsCaseOf, IsFaultOf}
use Rattle.case_core.specs.Reading.{IsFirstLabel}
use Rattle.case_core.specs.declared.fault.CaseFault.{CaseFault}
use Rattle.case_core.specs.declared.fault.CaseFault.TheVariants.{Memory}
use Rattle.mark_board.specs.declared.mark.Mark.{Mark}
use Rattle.mark_board.specs.declared.mark.Mark.TheVariants.{Open}
use Rattle.mark_board.specs.Boards.{BoardsOf}
use Rattle.mark_board.specs.Findings.{IsMarkOf, mark_as}
use Rattle.mark_board.specs.Marking.{mark_at}
use Rattle.cube_report.specs.Faults.{IsInputFault, fault_of_case}
use Rattle.cube_report.specs.One.{IsFoundOn}
use Rattle.cube_report.specs.Stated.{IsWrittenBy}
use Rattle.cube_report.proofs.CorrectReports.{outcome}
use Rattle.cube_report.proofs.ReportSame.{written_is_stated}
use Rattle.cube_report.specs.Fault.{Fault}
use Rattle.proof_folder.specs.Added.{section_text}
use Rattle.proof_folder.specs.Given.{Given, AreMarksBy, HasFewLeaves, IsJudgedAs, MayBeGiven}
use Rattle.proof_folder.proofs.GivenCase.{IsCaseWhere, leaf_given}
use Rattle.proof_folder.proofs.GivenLeaves.{cubes_of_case}
use Rattle.proof_folder.proofs.GivenFindings.{judged_with_given}
use Rattle.bundle_files.specs.Judging.{IsOutcomeWith, IsRefusedWith}

some_same : {a b : List ℕ} → Some a ≡ Some b → a ≡ b
some_same e = cc

-- ---- a tree that is cube 1 alone

abbrev alone : List (List Literal) → List SectionOf → CaseOf
alone formula sections = record { formula = formula; tree = cube 1; sections = sections }

only_node : (node : ℕ) (leaf : Leaf) → IsLeafAt (cube 1) node leaf → node ≡ 0
only_node node (Cube k) at = omega (arith, at.0)
only_node node (Missing j) at = absurd (omega (arith, at.0, at.1))

same_cube : (k j : ℕ) → cube k ≡ cube j → Cube j ≡ Cube k
same_cube k j e = ap (λ (n : ℕ). Cube n) (sym (number e))
  where
    number : cube k ≡ cube j → k ≡ j
    number e = cc

-- it has no other leaf, and no inner node
only_leaf : (node : ℕ) (leaf : Leaf) → IsLeafAt (cube 1) node leaf → leaf ≡ Cube 1
only_leaf node (Cube k) at =
    same_cube 1 k
    (subst (λ (n : ℕ). subtree_at (cube 1) n ≡ cube k) (only_node node (Cube k) at) at.1)
only_leaf node (Missing j) at = absurd (omega (arith, at.0, at.1))

no_inner : (node : ℕ) → IsTargetAt (cube 1) node (Node node) → ⊥
no_inner node at =
    let first : node ≡ 0 = omega (arith, at.1) in
    subst (λ (n : ℕ). IsSplit (subtree_at (cube 1) n)) first at.2

only_target : (node : ℕ) (target : Target) → IsTargetAt (cube 1) node target
    → target ≡ Named (Cube 1)
only_target node (Named leaf) at = ap (λ (l : Leaf). Named l) (only_leaf node leaf at)
only_target node (Node inner) at =
    absurd (no_inner node (subst (λ (n : ℕ). IsTargetAt (cube 1) node (Node n)) (sym at.0) at))

-- its cube stands at the first node
pub first_node : (tree : SplitTree) (node : ℕ) (target : Target) → tree ≡ cube 1
    → target ≡ Named (Cube 1) → IsTargetAt tree node target → node ≡ 0
first_node tree node target one named at =
    only_node node (Cube 1)
    (subst (λ (t : Target). IsTargetAt (cube 1) node t) named
    (subst (λ (t : SplitTree). IsTargetAt t node target) one at))

-- the name of that leaf
one_is : decimal 1 ≡ codes "1"
unfolding digits
one_is = refl

-- one post on it
pub one_mark : (tree : SplitTree) (node : ℕ) (mark : Mark) (marks : List Mark) → tree ≡ cube 1
    → node ≡ 0 → marks ≡ slice_set (replicate (size tree) Open) node mark → marks ≡ mark ∷ []
one_mark tree node mark marks one first are =
    are ∙ ap (λ (n : ℕ). slice_set (replicate (size tree) Open) n mark) first
    ∙ ap (λ (t : SplitTree). slice_set (replicate (size t) Open) 0 mark) one

module _ (bundle : List ℕ) (formula : List (List Literal)) (sections : List SectionOf)
    (bytes : List ℕ) (judged : Judged) where
  abbrev lone : CaseOf
  lone = alone formula sections

  abbrev marks : List Mark
  marks = mark_as judged ∷ []

  abbrev given : Given
  given = λ _. Some (proof_text bytes)

  leaf_mark : (node : ℕ) (leaf : Leaf) → IsLeafAt (cube 1) node leaf
      → IsFoundBy lone (Named (Cube 1)) (proof_text bytes) judged
      → (path : List Literal) (proof : Proof) → IsPathOf (cube 1) (Named leaf) path
      → IsProofOf (proof_text bytes) proof
      → mark_at marks node ≡ mark_as (judgement formula path proof)
  leaf_mark node leaf at found path proof on is =
      ap (mark_at marks) (only_node node leaf at)
      ∙ ap mark_as (found path proof
      (subst (λ (l : Leaf). IsPathOf (cube 1) (Named l) path) (only_leaf node leaf at) on) is)

  no_section : proof_for sections (Named (Cube 1)) ≡ None → (node : ℕ) (target : Target)
      → IsTargetAt (cube 1) node target → HasSection lone target
      → IsMarkOf lone target (mark_at marks node)
  no_section free node target at has =
      absurd (has (ap (proof_for sections) (only_target node target at) ∙ free))

  judged_as : IsCaseOf bundle lone → proof_for sections (Named (Cube 1)) ≡ None
      → labels_of (proof_text bytes) ≡ []
      → IsFoundBy lone (Named (Cube 1)) (proof_text bytes) judged
      → IsJudgedAs (bundle ++ section_text (codes "1") (Some (proof_text bytes))) lone marks
  judged_as is free plain found =
      let few : HasFewLeaves (cube 1) = omega arith in
      let may : MayBeGiven lone given = record {
        plain = λ leaf other has same. subst (λ (t : List ℕ). labels_of t ≡ []) (some_same same)
            plain;
        free = λ leaf other has same. subst (λ (l : Leaf). proof_for sections (Named l) ≡ None)
            (sym (only_leaf has.0 leaf has.1)) free;
      } in
      let by : AreMarksBy lone given marks = record {
        long = refl;
        sections = no_section free;
        nodes = λ node at. absurd (no_inner node at);
        leaves = λ node leaf at none. leaf_mark node leaf at found;
      } in
      subst (λ (t : List ℕ). IsJudgedAs (bundle ++ t) lone marks)
      (append-nil (section_text (decimal 1) (Some (proof_text bytes)))
      ∙ ap (λ (name : List ℕ). section_text name (Some (proof_text bytes))) one_is)
      (judged_with_given bundle lone given marks (cubes_of_case bundle lone is) few is may by)

  written : (gives : List ℕ → Type 0) (draws : Bool) (report map : List ℕ) (answer : Bool)
      → gives bytes
      → IsJudgedAs (bundle ++ section_text (codes "1") (Some (proof_text bytes))) lone marks
      → IsWrittenBy lone marks draws report map answer
      → IsOutcomeWith gives bundle draws report map answer
  written gives draws report map answer is_given made by =
      let whole = made.whole in record {
        bytes = bytes;
        given = is_given;
        outcome =
            outcome (bundle ++ section_text (codes "1") (Some (proof_text bytes))) whole draws
            report map answer made.is
            (written_is_stated whole lone marks draws report map answer made.formula made.tree
            made.findings by);
      }

  found_alone : (gives : List ℕ → Type 0) (draws : Bool) (report map : List ℕ) (answer : Bool)
      → gives bytes → IsCaseOf bundle lone → proof_for sections (Named (Cube 1)) ≡ None
      → labels_of (proof_text bytes) ≡ []
      → IsFoundBy lone (Named (Cube 1)) (proof_text bytes) judged
      → IsWrittenBy lone marks draws report map answer
      → IsOutcomeWith gives bundle draws report map answer
  found_alone gives draws report map answer is_given is free plain found =
      written gives draws report map answer is_given (judged_as is free plain found)

-- what is written by the mark of that proof is what a run on the bundle with it promises
outcome_with : (gives : List ℕ → Type 0) (bundle : List ℕ) (case : CaseOf) (bytes : List ℕ)
    (judged : Judged) (draws : Bool) (report map : List ℕ) (answer : Bool) → case.tree ≡ cube 1
    → gives bytes → IsCaseOf bundle case → proof_for case.sections (Named (Cube 1)) ≡ None
    → labels_of (proof_text bytes) ≡ []
    → IsFoundBy case (Named (Cube 1)) (proof_text bytes) judged
    → IsWrittenBy case (mark_as judged ∷ []) draws report map answer
    → IsOutcomeWith gives bundle draws report map answer
outcome_with gives bundle case bytes judged draws report map answer one is_given =
    subst (λ (c : CaseOf). IsCaseOf bundle c → proof_for c.sections (Named (Cube 1)) ≡ None
    → labels_of (proof_text bytes) ≡ []
    → IsFoundBy c (Named (Cube 1)) (proof_text bytes) judged
    → IsWrittenBy c (mark_as judged ∷ []) draws report map answer
    → IsOutcomeWith gives bundle draws report map answer)
    (ap (λ (t : SplitTree). record {
      formula = case.formula;
      tree = t;
      sections = case.sections;
    }) (sym one))
    (found_alone bundle case.formula case.sections bytes judged gives draws report map answer
    is_given)

-- so it is of boards on which that mark was posted alone
pub posted_alone : (gives : List ℕ → Type 0) (bundle : List ℕ) (case : CaseOf) (bytes : List ℕ)
    (old new boards : BoardsOf) (draws : Bool) (report map : List ℕ) (answer : Bool)
    → case.tree ≡ cube 1 → gives bytes → IsCaseOf bundle case
    → proof_for case.sections (Named (Cube 1)) ≡ None → labels_of (proof_text bytes) ≡ []
    → old.case ≡ case → old.marks ≡ replicate (size case.tree) Open → new.case ≡ old.case
    → boards ≡ new → IsFoundOn old new (Named (Cube 1)) (proof_text bytes)
    → IsWrittenBy boards.case boards.marks draws report map answer
    → IsOutcomeWith gives bundle draws report map answer
posted_alone gives bundle case bytes old new boards draws report map answer one is_given is free
    plain of_case none same last found by =
    outcome_with gives bundle case bytes found.judged draws report map answer one is_given is free
    plain
    (subst (λ (k : CaseOf). IsFoundBy k (Named (Cube 1)) (proof_text bytes) found.judged) of_case
    found.found)
    (subst (λ (m : List Mark). IsWrittenBy case m draws report map answer) marks
    (subst (λ (k : CaseOf). IsWrittenBy k boards.marks draws report map answer) cases by))
  where
    cases : boards.case ≡ case
    cases = ap (λ (b : BoardsOf). b.case) last ∙ same ∙ of_case

    first : found.node ≡ 0
    first =
        first_node case.tree found.node (Named (Cube 1)) one refl
        (subst (λ (k : CaseOf). IsTargetAt k.tree found.node (Named (Cube 1))) of_case found.here)

    marks : boards.marks ≡ mark_as found.judged ∷ []
    marks =
        ap (λ (b : BoardsOf). b.marks) last
        ∙ one_mark case.tree found.node (mark_as found.judged) new.marks one first
        (found.marks
        ∙ ap (λ (m : List Mark). slice_set m found.node (mark_as found.judged)) none)

-- ---- a label line below that of cube 1

-- A bundle goes on with the label line of cube 1 and below it with a text, the first of whose label
-- lines is this one: what stands above that is so many whole lines, and stands for a case with that
-- tree, in which cube 1 has a section.
pub record IsBelowCube (bundle text line : List ℕ) (tree : SplitTree) (lines : ℕ) : Type 0 where
  pub done : List ℕ
  pub from : List ℕ
  pub below : List ℕ
  pub parts : done ++ from ≡ bundle ++ (codes "\nl 1\n" ++ text)
  pub made : IsCaseWhere done tree (Named (Cube 1))
  pub at_line : AreWholeLines done
  pub counted : lines ≡ count_by is_line_end done
  pub label : IsBehindLabel from line below

has_cube : (tree : SplitTree) → tree ≡ cube 1 → HasLeaf tree (Cube 1)
has_cube tree one =
    subst (λ (t : SplitTree). HasLeaf t (Cube 1)) (sym one) (0, (omega arith, refl))

lines_above : (bundle before : List ℕ) (lines ends all : ℕ)
    → lines ≡ count_by is_line_end before → ends ≡ count_by is_line_end bundle
    → all ≡ lines + (ends + 2)
    → all ≡ count_by is_line_end (bundle ++ (codes "\nl 1\n" ++ before))
lines_above bundle before lines ends all counted above sum =
    let both : count_by is_line_end (bundle ++ (codes "\nl 1\n" ++ before))
    ≡ count_by is_line_end bundle + count_by is_line_end (codes "\nl 1\n" ++ before) =
    sum_by-append _ bundle (codes "\nl 1\n" ++ before) in
    let next : count_by is_line_end (codes "\nl 1\n" ++ before)
    ≡ count_by is_line_end (codes "\nl 1\n") + count_by is_line_end before =
    sum_by-append _ (codes "\nl 1\n") before in
    let two : count_by is_line_end (codes "\nl 1\n") ≡ 2 = refl in
    omega (arith, both, next, two, counted, above, sum)

module _ (bundle text line : List ℕ) (lines ends all : ℕ) (case : CaseOf) (kind : CaseFault)
    (is : IsCaseOf bundle case) (one : case.tree ≡ cube 1)
    (free : proof_for case.sections (Named (Cube 1)) ≡ None)
    (above : ends ≡ count_by is_line_end bundle) (sum : all ≡ lines + (ends + 2)) where
  below_cube : IsFirstLabel text line lines → IsBelowCube bundle text line case.tree all
  below_cube first = record {
    done = bundle ++ (codes "\nl 1\n" ++ first.before);
    from = first.from;
    below = first.below;
    parts =
        append_assoc bundle (codes "\nl 1\n" ++ first.before) first.from
        ∙ ap (λ (t : List ℕ). bundle ++ (codes "\nl 1\n" ++ t)) (sym first.parts);
    made =
        subst (λ (name : List ℕ). IsCaseWhere (bundle ++ section_text name (Some first.before))
        case.tree (Named (Cube 1))) one_is
        (leaf_given bundle first.before case (Cube 1) is (omega arith) (has_cube case.tree one)
        free first.none);
    at_line =
        subst (λ (t : List ℕ). AreWholeLines t)
        (append_assoc bundle (codes "\nl 1\n") first.before)
        (whole_both (bundle ++ codes "\nl 1\n") first.before
        (inr (bundle ++ codes "\nl 1", sym (append_assoc bundle (codes "\nl 1") (10 ∷ []))))
        first.at_line);
    counted = lines_above bundle first.before lines ends all first.counted above sum;
    label = first.label;
  }

  -- a fault of the label line is that of the bundle
  pub faulty_below : ((done text below : List ℕ) (whole : CaseOf) → IsCaseOf done whole
      → whole.tree ≡ case.tree → AreWholeLines done → all ≡ count_by is_line_end done
      → IsBehindLabel text line below → IsFaultOf (done ++ text) kind)
      → IsFirstLabel text line lines → IsFaultOf (bundle ++ (codes "\nl 1\n" ++ text)) kind
  faulty_below faulty first =
      let at = below_cube first in
      subst (λ (t : List ℕ). IsFaultOf t kind) at.parts
      (faulty at.done at.from at.below at.made.whole at.made.is at.made.tree_is at.at_line
      at.counted at.label)

  -- so it is where the line names a target, which has a section
  pub twice_below : (target : Target) → HasTarget case.tree target
      → IsTargetOf case.tree (label_name (words line)) target
      → ((done text below : List ℕ) (whole : CaseOf) (target : Target) → IsCaseOf done whole
      → AreWholeLines done → all ≡ count_by is_line_end done → IsBehindLabel text line below
      → IsTargetOf whole.tree (label_name (words line)) target → HasSection whole target
      → IsFaultOf (done ++ text) kind)
      → IsFirstLabel text line lines → IsFaultOf (bundle ++ (codes "\nl 1\n" ++ text)) kind
  twice_below target has named faulty first =
      let at = below_cube first in
      let cube_is : target ≡ Named (Cube 1) =
      only_target has.0 target
      (subst (λ (t : SplitTree). IsTargetAt t has.0 target) one has.1) in
      subst (λ (t : List ℕ). IsFaultOf t kind) at.parts
      (faulty at.done at.from at.below at.made.whole target at.made.is at.at_line at.counted
      at.label (rw at.made.tree_is named)
      (subst (λ (t : Target). HasSection at.made.whole t) (sym cube_is) at.made.has))

-- the fault of that line
pub refused_with : (gives : List ℕ → Type 0) (bundle bytes line : List ℕ) (lines : ℕ)
    (kind : CaseFault) (fault : Fault) → fault ≡ fault_of_case kind → gives bytes
    → proof_text bytes ≡ bytes → IsFirstLabel bytes line lines
    → (kind ≢ Memory → (text : List ℕ) → IsFirstLabel text line lines
    → IsFaultOf (bundle ++ (codes "\nl 1\n" ++ text)) kind)
    → IsInputFault fault → IsRefusedWith gives bundle fault
refused_with gives bundle bytes line lines kind fault same given text first faulty of_input =
    let other : kind ≢ Memory =
    λ memory. of_input.0 (same ∙ ap fault_of_case memory) in record {
      bytes = bytes;
      given = given;
      first = (
        kind,
        same,
        subst (λ (t : List ℕ). IsFaultOf (bundle ++ section_text (codes "1") (Some t)) kind)
            (sym text) (faulty other bytes first),
      );
    }
