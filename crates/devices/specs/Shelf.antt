-- What lies on a shelf.
use Rattle.std.specs.Prelude.{ℕ, List, [], ◌∷◌, Option, None, Some, if◌then◌else◌, bytes_eq}

-- the bytes of the first of these files, each a path and its bytes, that is at the path
abbrev pub bytes_at : List (List ℕ × List ℕ) → List ℕ → Option (List ℕ)
bytes_at [] path = None
bytes_at (file ∷ files) path = if bytes_eq file.0 path then Some file.1 else bytes_at files path

-- a file that was made lies in the place of those that were there
abbrev pub lies_at : Option (List ℕ × List ℕ) → List (List ℕ × List ℕ) → List ℕ → Option (List ℕ)
lies_at None files path = bytes_at files path
lies_at (Some made) files path = if bytes_eq made.0 path then Some made.1 else bytes_at files path
