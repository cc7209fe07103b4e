-- The names of the leaves whose proofs are still to be read.
use Rattle.std.proofs.Common.{◌≡◌, ◌∙◌, sym, ap, ap₂, ℕ, suc, ◌+◌, ◌-◌, ◌<◌, ◌≤◌, List, []}
use Rattle.std.proofs.Common.{◌∷◌, ◌++◌, arith, codes, decimal}
use Rattle.file_store.specs.Files.{names_from}
use Rattle.file_store.specs.Folder.{names_left}
use Rattle.file_store.specs.declared.folder.LeavesLeft.{LeavesLeft}

names_first : (kind : List ℕ) (done count : ℕ) → done < count
    → names_from kind (suc done) (count - done)
    ≡ (kind ++ decimal (done + 1)) ∷ names_from kind (suc (done + 1)) (count - (done + 1))
names_first kind done count more =
    ap (names_from kind (suc done)) (one_less done count more)
    ∙ ap (λ (n : ℕ). (kind ++ decimal n) ∷ names_from kind (suc n) (count - (done + 1)))
    (one_on done)
  where
    one_less : (done count : ℕ) → done < count → count - done ≡ suc (count - (done + 1))
    one_less done count more = omega arith

    one_on : (n : ℕ) → suc n ≡ n + 1
    one_on n = omega arith

no_names : (kind : List ℕ) (done count : ℕ) → count ≤ done
    → names_from kind (suc done) (count - done) ≡ []
no_names kind done count over = ap (names_from kind (suc done)) (none done count over)
  where
    none : (done count : ℕ) → count ≤ done → count - done ≡ 0
    none done count over = omega arith

pub next_cube : (leaves : LeavesLeft) → leaves.cubes_done < leaves.cubes
    → names_left leaves ≡ decimal (leaves.cubes_done + 1)
    ∷ names_left (record leaves { cubes_done = leaves.cubes_done + 1 })
next_cube leaves more =
    ap (λ (names : List (List ℕ)). names ++ names_from (codes "m") (suc leaves.missing_done)
    (leaves.missing - leaves.missing_done))
    (names_first (codes "") leaves.cubes_done leaves.cubes more)

pub next_missing : (leaves : LeavesLeft) → leaves.cubes ≤ leaves.cubes_done
    → leaves.missing_done < leaves.missing
    → names_left leaves ≡ (codes "m" ++ decimal (leaves.missing_done + 1))
    ∷ names_left (record leaves { missing_done = leaves.missing_done + 1 })
next_missing leaves over more =
    let none = no_names (codes "") leaves.cubes_done leaves.cubes over in
    ap (λ (names : List (List ℕ)). names ++ names_from (codes "m") (suc leaves.missing_done)
    (leaves.missing - leaves.missing_done)) none
    ∙ names_first (codes "m") leaves.missing_done leaves.missing more
    ∙ ap (λ (names : List (List ℕ)). (codes "m" ++ decimal (leaves.missing_done + 1)) ∷ (names
    ++ names_from (codes "m") (suc (leaves.missing_done + 1))
    (leaves.missing - (leaves.missing_done + 1)))) (sym none)

pub none_next : (leaves : LeavesLeft) → leaves.cubes ≤ leaves.cubes_done
    → leaves.missing ≤ leaves.missing_done → names_left leaves ≡ []
none_next leaves over none =
    ap₂ (λ (a b : List (List ℕ)). a ++ b) (no_names (codes "") leaves.cubes_done leaves.cubes over)
    (no_names (codes "m") leaves.missing_done leaves.missing none)
