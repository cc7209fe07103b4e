-- Files that are read and joined one after the other.
use Rattle.std.proofs.Common.{◌≡◌, ◌+◌, ◌<◌, ℕ, zero, suc, List, [], ◌∷◌, ◌++◌, length, take}
use Rattle.std.proofs.Common.{get_or}
use Rattle.std.proofs.Common.{refl, sym, subst, ap, ◌∙◌, arith, map, Bor}
use Rattle.std.proofs.lemmas.List.{append_cancel_left, map-append}
use Rattle.case_core.specs.SplitTree.{SplitTree}
use Rattle.cube_report.specs.Mark.{Mark}
use Rattle.bundle_files.specs.Files.{Held}
use Rattle.cube_join.specs.Joined.{IsJoinedSoFar, IsStranger, IsToldBy, joined}
use Rattle.cube_join.proofs.JoinedAll.{so_far_more}
use Rattle.join_command.specs.declared.fault.JoinFault.{JoinFault}
use Rattle.join_command.specs.declared.fault.JoinFault.TheVariants.{Run, Stranger}
use Rattle.join_command.specs.Program.{AreFiles, AreTextsAt, behind_each}
use Rattle.join_command.specs.Inner.Files.{AreNotAdded, IsNotAdded, lies_handed}

take_last : (texts : List (List ℕ)) (i : ℕ) → i < length texts →
    take (i + 1) texts ≡ take i texts ++ get_or texts i [] ∷ []
take_last [] i l = absurd (omega (arith, l))
take_last (t ∷ texts) zero l = refl
take_last (t ∷ texts) (suc i) l =
    let q : suc i + 1 ≡ suc (i + 1) = omega arith in
    rw q (ap (λ (xs : List (List ℕ)). t ∷ xs) (take_last texts i (omega (arith, l))))

files_last : (has : List ℕ → List ℕ → Type 0) (paths texts : List (List ℕ)) (path text : List ℕ) →
    AreTextsAt has paths texts → has path text →
    AreTextsAt has (paths ++ path ∷ []) (texts ++ text ∷ [])
files_last has [] [] path text h g = (g, tt)
files_last has [] (t ∷ texts) path text h g = absurd h
files_last has (p ∷ paths) [] path text h g = absurd h
files_last has (p ∷ paths) (t ∷ texts) path text h g =
    (h.0, files_last has paths texts path text h.1 g)

-- texts that lie there and were handed over lie there
pub texts_known : (held : Held) (hands : List ℕ → List ℕ → Type 0) (paths texts : List (List ℕ)) →
    AreTextsAt (lies_handed held hands) paths texts → AreFiles held paths texts
texts_known held hands [] [] h = tt
texts_known held hands [] (t ∷ texts) h = absurd h
texts_known held hands (p ∷ paths) [] h = absurd h
texts_known held hands (p ∷ paths) (t ∷ texts) h =
    (h.0.0, texts_known held hands paths texts h.1)

-- and they were handed over
pub texts_handed : (held : Held) (hands : List ℕ → List ℕ → Type 0)
    (paths texts : List (List ℕ)) →
    AreTextsAt (lies_handed held hands) paths texts → AreTextsAt hands paths texts
texts_handed held hands [] [] h = tt
texts_handed held hands [] (t ∷ texts) h = absurd h
texts_handed held hands (p ∷ paths) [] h = absurd h
texts_handed held hands (p ∷ paths) (t ∷ texts) h =
    (h.0.1, texts_handed held hands paths texts h.1)

-- the reports that were joined before, behind the line in the first of these files, so many
abbrev pub AreJoined : (List ℕ → List ℕ → Type 0) → List ℕ → SplitTree → List (List ℕ) → ℕ →
    List Mark → Type 0
AreJoined has line tree paths index marks =
    (reports : List (List ℕ)) × AreTextsAt has (take index paths) (behind_each line reports)
    × IsJoinedSoFar tree reports marks

-- one more file
pub more_files : (has : List ℕ → List ℕ → Type 0) (line : List ℕ) (tree : SplitTree)
    (paths : List (List ℕ)) (index : ℕ) (marks next : List Mark) → index < length paths →
    AreJoined has line tree paths index marks →
    (report : List ℕ) × has (get_or paths index []) (line ++ report)
    × (told : List Mark) × IsToldBy tree report told × (next ≡ joined marks told) →
    AreJoined has line tree paths (index + 1) next
more_files has line tree paths index marks next l h one = (
  h.0 ++ one.0 ∷ [],
  rw (take_last paths index l, map-append (λ (report : List ℕ). line ++ report) h.0 (one.0 ∷ []))
      (files_last has (take index paths) (behind_each line h.0) (get_or paths index [])
      (line ++ one.0) h.1 one.1),
  so_far_more tree h.0 marks next one.2 one.0 h.2 one.3 one.4,
)

-- why one of them wasn't joined is why they weren't
pub one_not_added : (held : Held) (hands : List ℕ → List ℕ → Type 0) (line : List ℕ)
    (tree : SplitTree) (paths : List (List ℕ))
    (index before after : ℕ) (marks : List Mark) (fault : JoinFault) → index < length paths →
    AreJoined (lies_handed held hands) line tree paths index marks →
    IsNotAdded held line tree (get_or paths index []) (index + 1) before after fault →
    AreNotAdded held line tree paths before after fault
one_not_added held hands line tree paths index before after marks (Run fault) l h why = why
one_not_added held hands line tree paths index before after marks (Stranger number) l h why = (
  why.1,
  record {
    index = index;
    is_number = why.0;
    inside = l;
    before = h.0;
    files = texts_known held hands (take index paths) (behind_each line h.0) h.1;
    marks = marks;
    reports = h.2;
    text = why.2.0;
    file = why.2.1;
    stranger = why.2.2;
  },
)

-- a text with a line and no report behind it has none behind that line
pub stranger_behind : (line text report : List ℕ) (tree : SplitTree) → text ≡ line ++ report →
    IsStranger tree report → (other : List ℕ) → text ≡ line ++ other → IsStranger tree other
stranger_behind line text report tree is stranger other also =
    subst (IsStranger tree) (append_cancel_left line report other (sym is ∙ also)) stranger

-- the text of an entry
pub at_path : (xs : List (Bor (List ℕ))) (i : ℕ) (d : Bor (List ℕ)) → i < length xs →
    (get_or xs i d).now ≡ get_or (map (λ path. path.now) xs) i []
at_path [] i d l = absurd (omega (arith, l))
at_path (x ∷ xs) zero d l = refl
at_path (x ∷ xs) (suc i) d l = at_path xs i d (omega (arith, l))

pub long_paths : (xs : List (Bor (List ℕ))) → length (map (λ path. path.now) xs) ≡ length xs
long_paths [] = refl
long_paths (x ∷ xs) = ap suc (long_paths xs)
