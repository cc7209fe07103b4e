-- Which bundle is judged, by what is known of the files: the input's or a file's, with the proofs
-- that a folder has for its leaves.
use Rattle.std.specs.Prelude.{◌≡◌, ◌≢◌, ℕ, zero, suc, Bool, List, [], ◌∷◌, ◌++◌, map, length}
use Rattle.std.specs.Prelude.{decimal, Option, None, Some, IfSome, is_some, unwrap_or, ◌⊎◌}
use Rattle.std.specs.Prelude.{true, false, codes}
use Rattle.std.specs.Prelude.{option_map}
use Rattle.std.specs.List.{All, flat_map}
use Rattle.byte_flow.specs.Device.{GrewBy, IsLeft}
use Rattle.case_core.specs.Binary.{proof_text}
use Rattle.case_core.specs.SplitTree.{SplitTree}
use Rattle.case_core.specs.Target.{Target}
use Rattle.case_core.specs.Target.TheVariants.{Leaf as Named, Node}
use Rattle.case_core.specs.Leaves.{missing_nodes, cube_count}
use Rattle.case_core.specs.Case.{CaseOf}
use Rattle.case_core.specs.Sections.{IsCaseOf, IsFaultOf}
use Rattle.case_core.specs.declared.fault.CaseFault.{CaseFault}
use Rattle.proof_folder.specs.Added.{proof_path, section_text}
use Rattle.proof_folder.specs.Given.{name_of}

-- what lies at each path, where that is known: no file, or a file with these bytes
abbrev pub Held : Type 0
Held = List ℕ → Option (Option (List ℕ))

-- what reading a path gave, no file or these bytes, is what is known to lie there
abbrev pub IsGivenAt : Held → List ℕ → Option (List ℕ) → Type 0
IsGivenAt held path given = IfSome (held path) (λ known. given ≡ known)

-- a text that lies at a path, as far as is known
abbrev pub may_lie_at : Held → List ℕ → List ℕ → Type 0
may_lie_at held path text = IsGivenAt held path (Some text)

-- what may be written at a path may still be written there
abbrev pub StaysAllowed : (List ℕ → List ℕ → Type 0) → (List ℕ → List ℕ → Type 0) → Type 0
StaysAllowed old new = (path bytes : List ℕ) → old path bytes → new path bytes

-- the same of every path but this one
abbrev pub StaysAllowedBeside : List ℕ → (List ℕ → List ℕ → Type 0) → (List ℕ → List ℕ → Type 0) →
    Type 0
StaysAllowedBeside path old new =
    (other bytes : List ℕ) → other ≢ path → old other bytes → new other bytes

-- the text that is read: the one of the file that is asked for, of those that a path has, or the
-- input
abbrev pub IsTextAt : (List ℕ → List ℕ → Type 0) → Option (List ℕ) → Option (List ℕ) → List ℕ →
    Type 0
IsTextAt has None input text = IfSome input (λ known. text ≡ known)
IsTextAt has (Some path) input text = has path text

-- the bundle that is read: that of the file that is asked for, or the input
abbrev pub IsRead : Held → Option (List ℕ) → Option (List ℕ) → List ℕ → Type 0
IsRead held file input bundle = IsTextAt (may_lie_at held) file input bundle

-- so many names of leaves of a kind, from this number on
abbrev pub names_from : List ℕ → ℕ → ℕ → List (List ℕ)
names_from kind number zero = []
names_from kind number (suc count) = (kind ++ decimal number) ∷ names_from kind (suc number) count

-- the names of a tree's leaves, in order: 1, 2, .. for the cubes, and m1, m2, .. for the missing
-- leaves
abbrev pub leaf_names : SplitTree → List (List ℕ)
leaf_names tree =
    names_from (codes "") 1 (cube_count tree)
    ++ names_from (codes "m") 1 (length (missing_nodes tree))

-- the leaves whose proofs are looked for: those of the bundle's tree, or none where the bundle has
-- a fault
abbrev pub AreLeavesOf : List ℕ → List (List ℕ) → Type 0
AreLeavesOf bundle names =
    ((case : CaseOf) × IsCaseOf bundle case × (names ≡ leaf_names case.tree))
    ⊎ ((fault : CaseFault) × IsFaultOf bundle fault × (names ≡ []))

-- what lies at each path, where that is known, as proofs are read: in the place of a binary one the
-- text that it stands for
abbrev pub as_proofs : Held → Held
as_proofs held path = option_map (λ lies. option_map proof_text lies) (held path)

-- Leaves with these names were added, in this order: each whose file is there, with what lies there
-- as its proof.
pub record AreAdded (held : Held) (folder : List ℕ) (names : List (List ℕ)) (bundle whole : List ℕ)
    : Type 0 where
  pub leaves : List (List ℕ × Option (List ℕ))
  pub named : map (λ leaf. leaf.0) leaves ≡ names
  pub files : All (λ leaf. IsGivenAt held (proof_path folder leaf.0) leaf.1) leaves
  pub text : whole ≡ bundle ++ flat_map (λ leaf. section_text leaf.0 leaf.1) leaves

-- the whole is the bundle with the folder's proofs for all leaves of its tree
abbrev pub IsWithProofs : Held → List ℕ → List ℕ → List ℕ → Type 0
IsWithProofs held folder bundle whole =
    (names : List (List ℕ)) × AreLeavesOf bundle names
    × AreAdded (as_proofs held) folder names bundle whole

-- the bundle that is judged: the one that was read, with the proofs of the folder that is asked for
abbrev pub IsJudgedOf : Held → Option (List ℕ) → List ℕ → List ℕ → Type 0
IsJudgedOf held None bundle whole = whole ≡ bundle
IsJudgedOf held (Some folder) bundle whole = IsWithProofs held folder bundle whole

-- what is known to lie at the path of a leaf's proof, in the place of a binary one its text; for an
-- inner node a folder has none
abbrev pub held_for : Held → List ℕ → Target → Option (Option (List ℕ))
held_for held folder (Named leaf) = as_proofs held (proof_path folder (name_of leaf))
held_for held folder (Node node) = Some None

-- ---- what single calls do

-- what is left to be read is one of these texts
abbrev pub GivesOneOf : (List ℕ → Type 0) → Option (List ℕ) → Type 0
GivesOneOf texts left = (text : List ℕ) → IsLeft left text → texts text

-- bytes grew by the text of the file, or of the input where no file is asked for
abbrev pub IsAppended : (List ℕ → List ℕ → Type 0) → Option (List ℕ) → Option (List ℕ) →
    List ℕ → List ℕ → Type 0
IsAppended has file input old new = GrewBy (IsTextAt has file input) old new

-- what lies at a path, where it is known what lies there
abbrev pub held_if : Bool → Option (List ℕ) → Option (Option (List ℕ))
held_if false lies = None
held_if true lies = Some lies

-- a file that was opened: it lies there, and its bytes are what is left to read
abbrev pub IsOpened : Option (List ℕ) → Option (List ℕ) → Type 0
IsOpened lies remaining = (bytes : List ℕ) × (lies ≡ Some bytes) × (remaining ≡ Some bytes)

-- reading a path appended the bytes of its file, or nothing where there is none
abbrev pub IsFound : Option (Option (List ℕ)) → List ℕ → List ℕ → Bool → Type 0
IsFound known old new there =
    (given : Option (List ℕ)) × IfSome known (λ held. given ≡ held)
    × (there ≡ is_some given) × (new ≡ old ++ unwrap_or given [])
