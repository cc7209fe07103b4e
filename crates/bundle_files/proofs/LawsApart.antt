-- A bundle with a folder's proofs, where these were judged beside the bundle's own case.
use Rattle.std.proofs.Common.{◌≡◌, ◌∙◌, ap, ap₂, refl, ℕ, zero, suc, List, [], ◌∷◌, ◌++◌, map}
use Rattle.std.proofs.Common.{codes, decimal, length, Option, inl}
use Rattle.std.specs.List.{All, AllByRecursion, flat_map}
use Rattle.std.proofs.lemmas.List.{map-append}
use Rattle.std.proofs.lemmas.List.Elements.{All-cons, All-nil}
use Rattle.case_core.specs.SplitTree.{SplitTree}
use Rattle.case_core.specs.Leaves.{HasLeaf, cube_count, missing_nodes}
use Rattle.case_core.specs.Leaf.{Leaf}
use Rattle.case_core.specs.Leaf.TheVariants.{Cube, Missing}
use Rattle.case_core.specs.Target.{Target}
use Rattle.case_core.specs.Case.{CaseOf}
use Rattle.case_core.specs.Sections.{IsCaseOf}
use Rattle.cube_report.specs.Mark.{Mark}
use Rattle.cube_report.proofs.CorrectReports.{outcome}
use Rattle.cube_report.proofs.ReportSame.{same_report, written_is_stated}
use Rattle.proof_folder.specs.Added.{section_text, texts_of}
use Rattle.proof_folder.specs.Given.{Given, name_of, leaves_from, leaves_of, file_of, files_of}
use Rattle.proof_folder.specs.Given.{HasFewLeaves, MayBeGiven, AreMarksBy, AreFoundApart}
use Rattle.proof_folder.proofs.GivenFound.{leaves_given, given_is_held, may_be_given}
use Rattle.proof_folder.proofs.GivenFound.{marks_by_given}
use Rattle.proof_folder.proofs.GivenLeaves.{IsOfTree, cubes_of_case, leaves_of_tree}
use Rattle.proof_folder.proofs.GivenFindings.{judged_with_given}
use Rattle.file_store.specs.Files.{AreAdded, Held, IsGivenAt, as_proofs, held_for, leaf_names}
use Rattle.file_store.specs.Files.{names_from}
use Rattle.proof_folder.specs.Added.{proof_path}
use Rattle.bundle_files.specs.Laws.{IsJudgedApart}

abbrev named : Given → Leaf → List ℕ × Option (List ℕ)
named given leaf = (name_of leaf, given leaf)

cube_names : (number count : ℕ)
    → map name_of (leaves_from (λ k. Cube k) number count) ≡ names_from (codes "") number count
cube_names number zero = refl
cube_names number (suc count) =
    ap (λ (names : List (List ℕ)). decimal number ∷ names) (cube_names (suc number) count)

missing_names : (number count : ℕ)
    → map name_of (leaves_from (λ j. Missing j) number count) ≡ names_from (codes "m") number count
missing_names number zero = refl
missing_names number (suc count) =
    ap (λ (names : List (List ℕ)). (109 ∷ decimal number) ∷ names)
    (missing_names (suc number) count)

-- the names of a tree's leaves are those of the leaves in order
names_are : (tree : SplitTree) → map name_of (leaves_of tree) ≡ leaf_names tree
names_are tree =
    map-append name_of (leaves_from (λ k. Cube k) 1 (cube_count tree))
    (leaves_from (λ j. Missing j) 1 (length (missing_nodes tree)))
    ∙ ap₂ (λ (a b : List (List ℕ)). a ++ b) (cube_names 1 (cube_count tree))
    (missing_names 1 (length (missing_nodes tree)))

-- what is given for the leaves of a tree is what lies at the paths of their proofs, as far as that
-- is known
abbrev AreHeld : Held → List ℕ → SplitTree → Given → Type 0
AreHeld held folder tree given = (leaf : Leaf) → HasLeaf tree leaf →
    IsGivenAt held (proof_path folder (name_of leaf)) (given leaf)

module _ (given : Given) where
  first_of : (leaves : List Leaf) →
      map (λ leaf. leaf.0) (map (named given) leaves) ≡ map name_of leaves
  first_of [] = refl
  first_of (leaf ∷ leaves) =
      ap (λ (names : List (List ℕ)). name_of leaf ∷ names) (first_of leaves)

  texts_are : (leaves : List Leaf)
      → texts_of (map (file_of given) leaves)
      ≡ flat_map (λ leaf. section_text leaf.0 leaf.1) (map (named given) leaves)
  texts_are [] = refl
  texts_are (leaf ∷ leaves) =
      ap (λ (t : List ℕ). section_text (name_of leaf) (given leaf) ++ t) (texts_are leaves)

  held_are : (held : Held) (folder : List ℕ) (tree : SplitTree) (leaves : List Leaf) →
      AreHeld held folder tree given → AllByRecursion (IsOfTree tree) leaves
      → All (λ leaf. IsGivenAt held (proof_path folder leaf.0) leaf.1) (map (named given) leaves)
  held_are held folder tree [] are of_tree =
      All-nil (λ (leaf : List ℕ × Option (List ℕ)). IsGivenAt held
      (proof_path folder leaf.0) leaf.1)
  held_are held folder tree (leaf ∷ leaves) are of_tree =
      All-cons (λ (leaf : List ℕ × Option (List ℕ)). IsGivenAt held
      (proof_path folder leaf.0) leaf.1)
      (named given leaf) (map (named given) leaves) (are leaf of_tree.0.0)
      (held_are held folder tree leaves are of_tree.1)

  leaves_added : (held : Held) (folder bundle : List ℕ) (tree : SplitTree) →
      AreHeld held folder tree given → AllByRecursion (IsOfTree tree) (leaves_of tree)
      → AreAdded held folder (leaf_names tree) bundle (bundle ++ texts_of (files_of given tree))
  leaves_added held folder bundle tree are of_tree = record {
    leaves = map (named given) (leaves_of tree);
    named = first_of (leaves_of tree) ∙ names_are tree;
    files = held_are held folder tree (leaves_of tree) are of_tree;
    text = ap (λ (t : List ℕ). bundle ++ t) (texts_are (leaves_of tree));
  }

by_given : (held : Held) (folder bundle : List ℕ) (case : CaseOf) (given : Given)
    (marks : List Mark) → IsCaseOf bundle case → HasFewLeaves case.tree
    → AreHeld (as_proofs held) folder case.tree given → MayBeGiven case given
    → AreMarksBy case given marks
    → IsJudgedApart held folder bundle case marks
by_given held folder bundle case given marks is few held_there may are =
    let cubes = cubes_of_case bundle case is in
    let of_tree = leaves_of_tree case.tree cubes few in
    let with_them = judged_with_given bundle case given marks cubes few is may are in
    let same = same_report with_them.whole case marks with_them.tree in record {
      whole = bundle ++ texts_of (files_of given case.tree);
      with_proofs = (
        leaf_names case.tree,
        inl (case, is, refl),
        leaves_added given (as_proofs held) folder bundle case.tree held_there of_tree,
      );
      judged_case = with_them.whole;
      judged = record { case_is = with_them.is; findings = with_them.findings };
      formula = with_them.formula;
      tree = with_them.tree;
      report = same.0;
      picture = same.1;
      outcome = λ draws report map answer written.
          outcome (bundle ++ texts_of (files_of given case.tree)) with_them.whole draws report map
          answer with_them.is
          (written_is_stated with_them.whole case marks draws report map answer with_them.formula
          with_them.tree with_them.findings written);
    }

pub judged_apart : (held : Held) (folder bundle : List ℕ) (case : CaseOf) (marks : List Mark)
    → IsCaseOf bundle case → HasFewLeaves case.tree
    → AreFoundApart (held_for held folder) case marks
    → IsJudgedApart held folder bundle case marks
judged_apart held folder bundle case marks is few are =
    let cubes = cubes_of_case bundle case is in
    let known : Target → Option (Option (List ℕ)) = held_for held folder in
    by_given held folder bundle case (leaves_given known case marks cubes are) marks is few
    (given_is_held known case marks cubes are) (may_be_given known case marks cubes are)
    (marks_by_given known case marks cubes are (λ node. refl))
