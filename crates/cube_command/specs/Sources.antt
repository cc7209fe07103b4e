-- The files that the bundle is read from, by what words ask for.
use Rattle.std.specs.Prelude.{◌≡◌, List, ℕ, ◌++◌, codes, Option, None, Some, if◌then◌else◌}
use Rattle.std.specs.Str.{bytes_eq}
use Rattle.case_core.specs.Binary.{proof_text}
use Rattle.bundle_files.specs.Files.{Held, IsTextAt, may_lie_at}
use Rattle.bundle_files.specs.Formula.{Sources, sources_by}
use Rattle.cube_command.specs.Words.{Asked}

-- the files that the bundle is read from
abbrev pub sources_of : Asked → Sources
sources_of asked = sources_by asked.formula asked.file

-- one proof of a whole formula, as a text of cubes and proofs: the cube without a literal, which is
-- the only leaf of its tree, and below that leaf's label the proof
abbrev pub of_one_proof : List ℕ → List ℕ
of_one_proof proof = codes "a 0\nl 1\n" ++ proof

-- the file of the one proof that is asked for: none where its path is `-`, which is the input
abbrev pub file_at : List ℕ → Option (List ℕ)
file_at path = if bytes_eq path (codes "-") then None else Some path

-- the text of that proof, as far as it is known; in the place of a binary one the text that it
-- stands for
abbrev pub IsProofAt : Held → List ℕ → Option (List ℕ) → List ℕ → Type 0
IsProofAt held path input proof =
    (bytes : List ℕ) × IsTextAt (may_lie_at held) (file_at path) input bytes
    × (proof ≡ proof_text bytes)

-- this is so of what is read where no file has the cubes and proofs: of the input, or of one proof
-- where that is asked for
abbrev pub IsSoBy : Held → Option (List ℕ) → Option (List ℕ) → (Option (List ℕ) → Type 0) → Type 0
IsSoBy held None input so = so input
IsSoBy held (Some path) input so =
    (proof : List ℕ) × IsProofAt held path input proof × so (Some (of_one_proof proof))

abbrev pub IsSoOf : Held → Asked → Option (List ℕ) → (Option (List ℕ) → Type 0) → Type 0
IsSoOf held asked input so = IsSoBy held asked.proof input so

-- what is known of it where nobody asks what the proof is
abbrev pub input_handed : Option (List ℕ) → Option (List ℕ) → Option (List ℕ)
input_handed None input = input
input_handed (Some path) input = None
