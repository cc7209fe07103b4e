-- The text of a bundle with the proofs of a folder, from where it is read.
use Rattle.std.specs.Prelude.{◌≡◌, ◌-◌, ℕ, suc, List, ◌++◌, Option, IfSome, codes, drop}
use Rattle.std.specs.String.{string_bytes}
use Rattle.proof_folder.specs.Added.{section_text}
use Rattle.file_store.specs.Files.{AreAdded, Held, as_proofs, names_from}
use Rattle.file_store.specs.declared.folder.FolderText.{FolderText}
use Rattle.file_store.specs.declared.folder.LeavesLeft.{LeavesLeft}

-- the names of the leaves that aren't passed
abbrev pub names_left : LeavesLeft → List (List ℕ)
names_left leaves =
    names_from (codes "") (suc leaves.cubes_done) (leaves.cubes - leaves.cubes_done)
    ++ names_from (codes "m") (suc leaves.missing_done) (leaves.missing - leaves.missing_done)

-- what a leaf of this name adds, by what is known to lie at its path
abbrev pub IsAddedSection : Option (Option (List ℕ)) → List ℕ → List ℕ → Type 0
IsAddedSection known name text =
    (given : Option (List ℕ)) × IfSome known (λ held. given ≡ held)
    × (text ≡ section_text name given)

-- the texts that may still be given, by what is known of the files: what is in memory, and the
-- proofs of the leaves that aren't passed
abbrev pub folder_gives : {F : Type 0} → Held → FolderText F → List ℕ → Type 0
folder_gives held folder whole =
    AreAdded (as_proofs held) (string_bytes folder.folder) (names_left folder.leaves)
    (drop folder.at folder.part.items) whole
