-- The lines of cubes and of missing leaves, read one after the other.
use Rattle.std.proofs.Common.{◌≡◌, ◌⊎◌, ℕ, suc, ◌+◌, ◌-◌, ◌<◌, ◌≤◌, ◌^◌, List, ◌∷◌, ◌++◌}
use Rattle.std.proofs.Common.{length, set, get_or, drop, sym, ap, ◌∙◌, arith, inl, inr}
use Rattle.std.proofs.Common.{append_assoc}
use Rattle.std.proofs.lemmas.Bool.{cases_eq}
use Rattle.std.proofs.lemmas.List.{drop_more}
use Rattle.case_core.specs.Literal.{Literal}
use Rattle.split_tree.specs.SplitTree.{SplitTree, cube, size, subtrees, subtree_at}
use Rattle.split_tree.specs.SplitTree.{path_at}
use Rattle.split_tree.specs.Leaves.{missing_nodes, cube_count}
use Rattle.split_tree.proofs.NodesCoding.{length-subtrees}
use Rattle.mark_board.specs.declared.mark.Mark.{Mark}
use Rattle.mark_board.specs.Marking.{mark_at}
use Rattle.cube_report.specs.Report.{cube_line, missing_line, cube_lines, missing_lines, cube_node}
use Rattle.cube_join.specs.Joined.{HasSmallSteps, IsLegible}
use Rattle.cube_join.specs.Inner.Fields.{HasSmallStep, AreVariables}
use Rattle.cube_join.specs.Inner.Reading.{AreFound, HasCube, HasMissing}
use Rattle.cube_join.proofs.ReadingFronts.{legible_path}
use Rattle.cube_join.proofs.ReadingMarks.{small_step, one_found}
use Rattle.cube_join.proofs.Telling.{cube_found}

-- ---- the node of a cube's leaf

-- a cube's leaf stands at one node alone
abbrev pub IsCubeAt : SplitTree → ℕ → ℕ → Type 0
IsCubeAt tree k node = (node < size tree) × (subtree_at tree node ≡ cube k)

pub cube_node_is : (tree : SplitTree) (k node : ℕ) → IsCubeAt tree k node →
    ((i : ℕ) → IsCubeAt tree k i → i ≡ node) → cube_node k 0 (subtrees tree) ≡ node
cube_node_is tree k node here only =
    let r = cube_found k 0 (subtrees tree) node (rw (length-subtrees tree) here.0) here.1 in
    let same : r.0 ≡ node = only r.0 (rw (length-subtrees tree) at r.1, r.3) in
    r.2 ∙ omega (arith, same)

-- ---- cubes

-- the lines of so many cubes are read, and this is left of the text
abbrev pub AreCubesRead : SplitTree → List ℕ → ℕ → List ℕ → List Mark → List Mark → Type 0
AreCubesRead tree text count left before now = (marks : List Mark) (rest : List ℕ) →
    HasSmallSteps marks → text ≡ cube_lines tree marks 1 (cube_count tree) ++ rest →
    AreFound marks (HasCube tree count) before now
    × (left ≡ cube_lines tree marks (count + 1) (cube_count tree - count) ++ rest)

first_cube : (tree : SplitTree) (marks : List Mark) (number many few : ℕ) (left rest : List ℕ) →
    many ≡ suc few → left ≡ cube_lines tree marks number many ++ rest →
    left ≡ cube_line number (mark_at marks (cube_node number 0 (subtrees tree)))
    ++ (cube_lines tree marks (suc number) few ++ rest)
first_cube tree marks number many few left rest e is =
    is ∙ (ap (λ (n : ℕ). cube_lines tree marks number n ++ rest) e
    ∙ append_assoc (cube_line number (mark_at marks (cube_node number 0 (subtrees tree))))
    (cube_lines tree marks (suc number) few) rest)

-- where these are the lines of a report, one more of them stands in front
front_cube : (tree : SplitTree) (text left : List ℕ) (count : ℕ) (before now marks : List Mark)
    (rest : List ℕ) → count < cube_count tree → AreCubesRead tree text count left before now →
    HasSmallSteps marks → text ≡ cube_lines tree marks 1 (cube_count tree) ++ rest →
    left ≡ cube_line (count + 1) (mark_at marks (cube_node (count + 1) 0 (subtrees tree)))
    ++ (cube_lines tree marks (suc (count + 1)) (cube_count tree - (count + 1)) ++ rest)
front_cube tree text left count before now marks rest few h small e =
    first_cube tree marks (count + 1) (cube_count tree - count) (cube_count tree - (count + 1)) left
    rest (omega (arith, few)) (h marks rest small e).1

more_cubes : (tree : SplitTree) (count node i : ℕ) → ((i : ℕ) → IsCubeAt tree (count + 1) i →
    i ≡ node) →
    HasCube tree (count + 1) i → HasCube tree count i ⊎ (i ≡ node)
more_cubes tree count node i only has = elim (cases_eq has.0 (count + 1)) [
  | inl same ↦ inr (only i (has.3, has.4 ∙ ap cube same))
  | inr other ↦
      let high : has.0 ≤ count + 1 = has.2 in
      inl (has.0, has.1, omega (arith, high, other), has.3, has.4)
]

pub cubes_step : (tree : SplitTree) (text left next : List ℕ) (count node : ℕ)
    (before now after : List Mark) (mark : Mark) → count < cube_count tree → count + 1 < 2 ^ 64 →
    IsCubeAt tree (count + 1) node → ((i : ℕ) → IsCubeAt tree (count + 1) i → i ≡ node) →
    length now ≡ size tree → after ≡ set now node mark →
    ((number : ℕ) (m : Mark) (r : List ℕ) → number < 2 ^ 64 → HasSmallStep m →
    left ≡ cube_line number m ++ r → (mark ≡ m) × (next ≡ r)) →
    AreCubesRead tree text count left before now →
    AreCubesRead tree text (count + 1) next before after
cubes_step tree text left next count node before now after mark few fits here only long is reads h
    marks rest small e =
    let front = front_cube tree text left count before now marks rest few h small e in
    let place = cube_node_is tree (count + 1) node here only in
    let both = reads (count + 1) (mark_at marks (cube_node (count + 1) 0 (subtrees tree)))
    (cube_lines tree marks (suc (count + 1)) (cube_count tree - (count + 1)) ++ rest) fits
    (small_step marks (cube_node (count + 1) 0 (subtrees tree)) small) front in
    let told : mark ≡ mark_at marks node = both.0 ∙ ap (mark_at marks) place in
    let q : suc (count + 1) ≡ count + 1 + 1 = omega arith in (
      one_found marks before now after (HasCube tree count) (HasCube tree (count + 1)) node
          (h marks rest small e).0 (omega (arith, long, here.0)) (is ∙ ap (set now node) told)
          (λ i. more_cubes tree count node i only),
      both.1 ∙ ap (λ (n : ℕ). cube_lines tree marks n (cube_count tree - (count + 1)) ++ rest) q,
    )

pub cubes_stop : (tree : SplitTree) (text left : List ℕ) (count : ℕ) (before now marks : List Mark)
    (rest : List ℕ) → count < cube_count tree → count + 1 < 2 ^ 64 →
    ((number : ℕ) (m : Mark) (r : List ℕ) → number < 2 ^ 64 → HasSmallStep m →
    left ≡ cube_line number m ++ r → ⊥) → AreCubesRead tree text count left before now →
    HasSmallSteps marks → text ≡ cube_lines tree marks 1 (cube_count tree) ++ rest → ⊥
cubes_stop tree text left count before now marks rest few fits none h small e =
    none (count + 1) (mark_at marks (cube_node (count + 1) 0 (subtrees tree)))
    (cube_lines tree marks (suc (count + 1)) (cube_count tree - (count + 1)) ++ rest) fits
    (small_step marks (cube_node (count + 1) 0 (subtrees tree)) small)
    (front_cube tree text left count before now marks rest few h small e)

-- ---- missing leaves

-- the lines of so many missing leaves are read, and this is left of the text
abbrev pub AreMissingRead : SplitTree → List ℕ → ℕ → List ℕ → List Mark → List Mark → Type 0
AreMissingRead tree text count left before now = (marks : List Mark) (rest : List ℕ) →
    IsLegible tree → HasSmallSteps marks →
    text ≡ missing_lines tree marks 1 (missing_nodes tree) ++ rest →
    AreFound marks (HasMissing tree count) before now
    × (left ≡ missing_lines tree marks (count + 1) (drop count (missing_nodes tree)) ++ rest)

first_missing : (tree : SplitTree) (marks : List Mark) (number node : ℕ) (nodes more : List ℕ)
    (left rest : List ℕ) → nodes ≡ node ∷ more →
    left ≡ missing_lines tree marks number nodes ++ rest →
    left ≡ missing_line number (path_at tree node) (mark_at marks node)
    ++ (missing_lines tree marks (suc number) more ++ rest)
first_missing tree marks number node nodes more left rest e is =
    is ∙ (ap (λ (ns : List ℕ). missing_lines tree marks number ns ++ rest) e
    ∙ append_assoc (missing_line number (path_at tree node) (mark_at marks node))
    (missing_lines tree marks (suc number) more) rest)

front_missing : (tree : SplitTree) (text left : List ℕ) (count node : ℕ)
    (before now marks : List Mark) (rest : List ℕ) → count < length (missing_nodes tree) →
    node ≡ get_or (missing_nodes tree) count 0 → AreMissingRead tree text count left before now →
    IsLegible tree → HasSmallSteps marks →
    text ≡ missing_lines tree marks 1 (missing_nodes tree) ++ rest →
    left ≡ missing_line (count + 1) (path_at tree node) (mark_at marks node)
    ++ (missing_lines tree marks (suc (count + 1)) (drop (count + 1) (missing_nodes tree)) ++ rest)
front_missing tree text left count node before now marks rest few here h legible small e =
    first_missing tree marks (count + 1) node (drop count (missing_nodes tree))
    (drop (count + 1) (missing_nodes tree)) left rest
    (drop_more (missing_nodes tree) count 0 few
    ∙ ap (λ (n : ℕ). n ∷ drop (count + 1) (missing_nodes tree)) (sym here))
    (h marks rest legible small e).1

more_missing : (tree : SplitTree) (count node i : ℕ) → node ≡ get_or (missing_nodes tree) count 0 →
    HasMissing tree (count + 1) i → HasMissing tree count i ⊎ (i ≡ node)
more_missing tree count node i here has = elim (cases_eq has.0 count) [
  | inl same ↦ inr (has.2 ∙ (ap (λ (n : ℕ). get_or (missing_nodes tree) n 0) same ∙ sym here))
  | inr other ↦
      let high : has.0 < count + 1 = has.1 in inl (has.0, omega (arith, high, other), has.2)
]

pub missing_step : (tree : SplitTree) (text left next : List ℕ) (count node : ℕ)
    (before now after : List Mark) (mark : Mark) → count < length (missing_nodes tree) →
    count + 1 < 2 ^ 64 → node ≡ get_or (missing_nodes tree) count 0 → node < size tree →
    length now ≡ size tree → after ≡ set now node mark →
    ((number : ℕ) (path : List Literal) (m : Mark) (r : List ℕ) → number < 2 ^ 64 →
    AreVariables path → HasSmallStep m → left ≡ missing_line number path m ++ r →
    (mark ≡ m) × (next ≡ r)) → AreMissingRead tree text count left before now →
    AreMissingRead tree text (count + 1) next before after
missing_step tree text left next count node before now after mark few fits here inside long is
    reads h marks rest legible small e =
    let both = reads (count + 1) (path_at tree node) (mark_at marks node)
    (missing_lines tree marks (suc (count + 1)) (drop (count + 1) (missing_nodes tree)) ++ rest)
    fits
    (legible_path tree node inside legible.variables) (small_step marks node small)
    (front_missing tree text left count node before now marks rest few here h legible small e) in
    let q : suc (count + 1) ≡ count + 1 + 1 = omega arith in (
      one_found marks before now after (HasMissing tree count) (HasMissing tree (count + 1)) node
          (h marks rest legible small e).0 (omega (arith, long, inside)) (is
          ∙ ap (set now node) both.0)
          (λ i. more_missing tree count node i here),
      both.1 ∙ ap (λ (n : ℕ). missing_lines tree marks n (drop (count + 1) (missing_nodes tree)) ++
          rest) q,
    )

pub missing_stop : (tree : SplitTree) (text left : List ℕ) (count node : ℕ)
    (before now marks : List Mark) (rest : List ℕ) → count < length (missing_nodes tree) →
    count + 1 < 2 ^ 64 → node ≡ get_or (missing_nodes tree) count 0 → node < size tree →
    ((number : ℕ) (path : List Literal) (m : Mark) (r : List ℕ) → number < 2 ^ 64 →
    AreVariables path → HasSmallStep m → left ≡ missing_line number path m ++ r → ⊥) →
    AreMissingRead tree text count left before now → IsLegible tree → HasSmallSteps marks →
    text ≡ missing_lines tree marks 1 (missing_nodes tree) ++ rest → ⊥
missing_stop tree text left count node before now marks rest few fits here inside none h legible
    small e =
    none (count + 1) (path_at tree node) (mark_at marks node)
    (missing_lines tree marks (suc (count + 1)) (drop (count + 1) (missing_nodes tree)) ++ rest)
    fits
    (legible_path tree node inside legible.variables) (small_step marks node small)
    (front_missing tree text left count node before now marks rest few here h legible small e)
