-- The path of a leaf's proof.
use Rattle.std.proofs.Common.{◌≡◌, ◌∙◌, sym, append_assoc, List, ℕ, ◌++◌, codes}
use Rattle.proof_folder.specs.Added.{proof_path}

-- its parts, written one behind the other
pub path_parts : (folder name : List ℕ)
    → folder ++ (codes "/" ++ (name ++ codes ".lrat")) ≡ proof_path folder name
path_parts folder name =
    sym (append_assoc folder (codes "/") (name ++ codes ".lrat"))
    ∙ sym (append_assoc (folder ++ codes "/") name (codes ".lrat"))
