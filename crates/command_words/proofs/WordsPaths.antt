-- Paths that words ask for: which are one, and which are those of proofs in a folder.
use Rattle.std.proofs.Common.{◌≡◌, ◌≢◌, ◌∙◌, ◌↔◌, ap, refl, sym, ℕ, Bool, true, false, not}
use Rattle.std.proofs.Common.{Option, Some, None, List, ◌++◌, codes, Bor, IsTrue, inl, inr}
use Rattle.std.specs.Prelude.{is_some, MatchOption}
use Rattle.std.specs.Str.{bytes_eq}
use Rattle.std.proofs.lemmas.Bool.{not-true}
use Rattle.std.proofs.lemmas.List.{append_assoc, append_cancel_left}
use Rattle.std.proofs.lemmas.Slice.Eq.{bytes_eq-Decides}
use Rattle.proof_folder.specs.Added.{proof_path}
use Rattle.clap.specs.Words.{Text}
use Rattle.command_words.specs.Words.{AreSpared, Asked, HaveTwoPaths, IsElsewhere, IsInput}
use Rattle.command_words.specs.Words.{IsNoProof}

unless_equal : (one other : Text) (equal : Bool) → bytes_eq one other ≡ equal →
    HaveTwoPaths (Some one) (Some other) → not equal ≡ true
unless_equal one other true is apart =
    absurd (apart one refl (ap (λ (t : Text). Some t) (sym ((bytes_eq-Decides one other).0 is))))
unless_equal one other false is apart = refl

-- two files are apart exactly where their paths differ
pub apart_where : (one other : Text) →
    IsTrue (not (bytes_eq one other)) ↔ HaveTwoPaths (Some one) (Some other)
apart_where one other = (
  λ yes path at there.
      let same : one ≡ other = cc in
      let equal : bytes_eq one other ≡ true = (bytes_eq-Decides one other).1 same in
      let differ : bytes_eq one other ≡ false = not-true (bytes_eq one other) yes in absurd (cc),
  λ apart. unless_equal one other (bytes_eq one other) refl apart,
)

-- where three things are so, all four are exactly where the last one is
pub all_with_last : {A B C D : Type 0} (last : Bool) → A → B → C → IsTrue last ↔ D →
    IsTrue last ↔ (A × B × C × D)
all_with_last last one two three four =
    (λ yes. (one, two, three, four.0 yes), λ all. four.1 all.3)

-- ---- proofs of a folder

path_parts : (folder name : Text) →
    proof_path folder name ≡ folder ++ (codes "/" ++ (name ++ codes ".lrat"))
path_parts folder name =
    append_assoc (folder ++ codes "/") name (codes ".lrat")
    ∙ append_assoc folder (codes "/") (name ++ codes ".lrat")

-- a path that doesn't begin with a folder's is that of none of its proofs
pub outside : (folder path : Text) → ((rest : List ℕ) → path ≢ folder ++ rest) →
    (name : List ℕ) → path ≢ proof_path folder name
outside folder path not_there name same =
    not_there (codes "/" ++ (name ++ codes ".lrat")) (same ∙ path_parts folder name)

-- nor is one that has no slash behind it
pub beside : (folder path inside : Text) → path ≡ folder ++ inside →
    ((rest : List ℕ) → inside ≢ codes "/" ++ rest) →
    (name : List ℕ) → path ≢ proof_path folder name
beside folder path inside is no_slash name same =
    no_slash (name ++ codes ".lrat")
    (append_cancel_left folder inside (codes "/" ++ (name ++ codes ".lrat"))
    (sym is ∙ same ∙ path_parts folder name))

-- one with a folder and a slash is that of a proof where it ends so, and of none otherwise
pub within : (folder path inside behind : Text) (name : Option (Bor (List ℕ)))
    → path ≡ folder ++ inside → inside ≡ codes "/" ++ behind
    → MatchOption name ((front : List ℕ) → behind ≢ front ++ codes ".lrat")
    (λ front. behind ≡ front.now ++ codes ".lrat")
    → MatchOption name ((front : List ℕ) → path ≢ proof_path folder front)
    (λ front. path ≡ proof_path folder front.now)
within folder path inside behind None is slash other =
    λ front same. other front
    (append_cancel_left (codes "/") behind (front ++ codes ".lrat")
    (sym slash ∙ append_cancel_left folder inside (codes "/" ++ (front ++ codes ".lrat"))
    (sym is ∙ same ∙ path_parts folder front)))
within folder path inside behind (Some front) is slash ends =
    is ∙ ap (λ (t : List ℕ). folder ++ t) (slash ∙ ap (λ (t : List ℕ). codes "/" ++ t) ends)
    ∙ sym (path_parts folder front.now)

-- a path is that of no proof in a folder where it has no such name
pub no_proof_where : (folder path : Text) (name : Option (Bor (List ℕ))) (none : Bool)
    → is_some name ≡ not none
    → MatchOption name ((front : List ℕ) → path ≢ proof_path folder front)
    (λ front. path ≡ proof_path folder front.now)
    → IsTrue none ↔ IsNoProof (Some folder) (Some path)
no_proof_where folder path None true says absent = (
  λ yes in_folder at front one other same.
      let folders : folder ≡ in_folder = cc in
      let paths : path ≡ at = cc in
      absent front
      (paths ∙ same ∙ ap (λ (f : Text). proof_path f front) (sym folders)),
  λ outside. refl,
)
no_proof_where folder path None false says absent = absurd (cc)
no_proof_where folder path (Some front) true says is = absurd (cc)
no_proof_where folder path (Some front) false says is =
    (λ yes. absurd (cc), λ outside. absurd (outside folder path front.now refl refl is))

-- ---- files that are read

-- a file that is read is neither the picture nor the record
pub input_apart : (asked : Asked) (path : Text) → AreSpared asked → IsInput asked path →
    IsElsewhere asked path
input_apart asked path spared (inl formula) = (
  λ there. spared.1.0 path there formula,
  λ there. spared.2.0 path there formula,
)
input_apart asked path spared (inr (inl file)) = (
  λ there. spared.1.1 path there file,
  λ there. spared.2.1 path there file,
)
input_apart asked path spared (inr (inr (inl one))) = (
  λ there. spared.1.2 path there one,
  λ there. spared.2.2 path there one,
)
input_apart asked path spared (inr (inr (inr proof))) = (
  λ there. spared.1.3 proof.0 path proof.1 proof.2 there proof.3,
  λ there. spared.2.3 proof.0 path proof.1 proof.2 there proof.3,
)
