-- What the text of a bundle with a folder's proofs may still give.
use Rattle.std.proofs.Common.{◌≡◌, ◌∙◌, sym, ap, subst, refl, ℕ, ◌+◌, List, [], ◌∷◌, ◌++◌}
use Rattle.std.proofs.Common.{Bool, Option, None, Some, take, drop, append_assoc}
use Rattle.std.proofs.Common.{take-append-drop, Result, Ok, Err, OnErr}
use Rattle.std.specs.List.{flat_map}
use Rattle.std.specs.String.{string_bytes}
use Rattle.std.proofs.lemmas.List.{drop-drop}
use Rattle.byte_flow.specs.Device.{HasGiven}
use Rattle.proof_folder.specs.Added.{proof_path, section_text}
use Rattle.file_store.specs.Files.{AreAdded, Held, IsGivenAt, as_proofs, held_if}
use Rattle.file_store.specs.Folder.{IsAddedSection, folder_gives, names_left}
use Rattle.file_store.specs.declared.folder.FolderText.{FolderText}
use Rattle.file_store.proofs.FilesSections.{added_more, nothing_added, one_leaf}

-- a leaf's section stands in memory
leaf_read : (held : Held) (folder name part : List ℕ) (names : List (List ℕ)) (whole : List ℕ)
    → IsAddedSection (held (proof_path folder name)) name part
    → AreAdded held folder names part whole → AreAdded held folder (name ∷ names) [] whole
leaf_read held folder name part names whole is added =
    added_more held folder (name ∷ []) names [] part whole
    (one_leaf held folder name [] part is.0 is.1 is.2) added

-- the next bytes of what stands in memory were given
bytes_given : (held : Held) (folder : List ℕ) (names : List (List ℕ)) (part : List ℕ)
    (at count : ℕ) (rest : List ℕ) → AreAdded held folder names (drop (at + count) part) rest
    → AreAdded held folder names (drop at part) (take count (drop at part) ++ rest)
bytes_given held folder names part at count rest added = record {
  leaves = added.leaves;
  named = added.named;
  files = added.files;
  text =
      let behind =
      flat_map (λ (leaf : List ℕ × Option (List ℕ)). section_text leaf.0 leaf.1) added.leaves in
      ap (λ (t : List ℕ). take count (drop at part) ++ t) added.text
      ∙ sym (append_assoc (take count (drop at part)) (drop (at + count) part) behind)
      ∙ ap (λ (t : List ℕ). t ++ behind)
      (ap (λ (t : List ℕ). take count (drop at part) ++ t) (sym (drop-drop count at part))
      ∙ take-append-drop count (drop at part));
}

-- some text may be given, whatever is known of the files
pub some_added : (held : Held) (folder : List ℕ) (names : List (List ℕ)) (bundle : List ℕ)
    → (whole : List ℕ) × AreAdded held folder names bundle whole
some_added held folder [] bundle = (bundle, nothing_added held folder bundle)
some_added held folder (name ∷ names) bundle =
    let lies = known (held (proof_path folder name)) in
    let more = some_added held folder names (bundle ++ section_text name lies.0) in (
      more.0,
      added_more held folder (name ∷ []) names bundle (bundle ++ section_text name lies.0) more.0
          (one_leaf held folder name bundle (bundle ++ section_text name lies.0) lies.0 lies.1 refl)
          more.1,
    )
  where
    known : (o : Option (Option (List ℕ)))
        → (given : Option (List ℕ)) × IsGivenAt (λ _. o) (proof_path folder name) given
    known None = (None, tt)
    known (Some lies) = (lies, refl)

pub on_err : {T E : Type 0} (result : Result T E) (P : Type 0) → P → OnErr result P
on_err (Ok value) P holds = tt
on_err (Err fault) P holds = holds

-- ---- while it is read

module _ {F : Type 0} (knows : F → Bool) (files : F → List ℕ → Option (List ℕ)) where
  abbrev pub proofs_of : F → Held
  proofs_of opener = as_proofs (λ path. held_if (knows opener) (files opener path))

  abbrev pub gives : FolderText F → List ℕ → Type 0
  gives text = folder_gives (λ path. held_if (knows text.files.opener)
      (files text.files.opener path)) text

  -- it is read of the same folder
  pub record IsSameFolder (first now : FolderText F) : Type 0 where
    pub known : knows now.files.opener ≡ knows first.files.opener
    pub lies : files now.files.opener ≡ files first.files.opener
    pub folder : now.folder ≡ first.folder

  -- what is left makes up what was left
  abbrev pub GoesOn : FolderText F → FolderText F → Type 0
  GoesOn first now =
      (whole : List ℕ) → AreAdded (proofs_of first.files.opener) (string_bytes first.folder)
      (names_left now.leaves) (drop now.at now.part.items) whole → gives first whole

  same_both : (first now new : FolderText F) → IsSameFolder first now → IsSameFolder now new
      → IsSameFolder first new
  same_both first now new was next = record {
    known = next.known ∙ was.known;
    lies = next.lies ∙ was.lies;
    folder = next.folder ∙ was.folder;
  }

  proofs_same : (first now : FolderText F) → IsSameFolder first now
      → proofs_of now.files.opener ≡ proofs_of first.files.opener
  proofs_same first now same =
      ap (λ (k : Bool). as_proofs (λ path. held_if k (files now.files.opener path))) same.known
      ∙ ap (λ (f : List ℕ → Option (List ℕ)). as_proofs (λ path.
      held_if (knows first.files.opener) (f path))) same.lies

  moved : (first now : FolderText F) → IsSameFolder first now → (names : List (List ℕ))
      (part whole : List ℕ)
      → AreAdded (proofs_of now.files.opener) (string_bytes now.folder) names part whole
      → AreAdded (proofs_of first.files.opener) (string_bytes first.folder) names part whole
  moved first now same names part whole added =
      subst (λ (f : List ℕ). AreAdded (proofs_of first.files.opener) f names part whole)
      (ap string_bytes same.folder)
      (subst (λ (h : Held). AreAdded h (string_bytes now.folder) names part whole)
      (proofs_same first now same) added)

  -- what stands in memory is given, and no leaf is left
  pub all_given : (now : FolderText F) → names_left now.leaves ≡ []
      → drop now.at now.part.items ≡ [] → gives now []
  all_given now none empty =
      subst (λ (names : List (List ℕ)). AreAdded (proofs_of now.files.opener)
      (string_bytes now.folder) names (drop now.at now.part.items) []) (sym none)
      (subst (λ (part : List ℕ). AreAdded (proofs_of now.files.opener) (string_bytes now.folder)
      [] part []) (sym empty)
      (nothing_added (proofs_of now.files.opener) (string_bytes now.folder) []))

  -- nothing more was given
  pub nothing_given : (first now new : FolderText F) → IsSameFolder first now → GoesOn first now
      → IsSameFolder now new → names_left new.leaves ≡ names_left now.leaves
      → drop now.at now.part.items ≡ [] → drop new.at new.part.items ≡ []
      → HasGiven (gives first) (gives new) []
  nothing_given first now new was on next names empty none rest is =
      on rest
      (subst (λ (n : List (List ℕ)). AreAdded (proofs_of first.files.opener)
      (string_bytes first.folder) n (drop now.at now.part.items) rest) names
      (subst (λ (p : List ℕ). AreAdded (proofs_of first.files.opener) (string_bytes first.folder)
      (names_left new.leaves) p rest) (none ∙ sym empty)
      (moved first new (same_both first now new was next) (names_left new.leaves)
      (drop new.at new.part.items) rest is)))

  -- the next bytes were given
  pub some_given : (first now new : FolderText F) (count : ℕ) (given : List ℕ)
      → IsSameFolder first now → GoesOn first now → new ≡ record now { at = now.at + count }
      → given ≡ take count (drop now.at now.part.items)
      → HasGiven (gives first) (gives new) given
  some_given first now new count given was on same is rest left =
      let next : FolderText F = record now { at = now.at + count } in
      let left_next : gives next rest = subst (λ (t : FolderText F). gives t rest) same left in
      on (given ++ rest)
      (subst (λ (g : List ℕ). AreAdded (proofs_of first.files.opener) (string_bytes first.folder)
      (names_left now.leaves) (drop now.at now.part.items) (g ++ rest)) (sym is)
      (bytes_given (proofs_of first.files.opener) (string_bytes first.folder)
      (names_left now.leaves) now.part.items now.at count rest
      (moved first now was (names_left now.leaves) (drop (now.at + count) now.part.items) rest
      left_next)))

  -- what a leaf adds was read
  pub leaf_goes_on : (first now new : FolderText F) (name : List ℕ) → IsSameFolder first now
      → GoesOn first now → drop now.at now.part.items ≡ []
      → names_left now.leaves ≡ name ∷ names_left new.leaves → new.at ≡ 0
      → IsAddedSection (proofs_of now.files.opener (proof_path (string_bytes now.folder) name)) name
      new.part.items → GoesOn first new
  leaf_goes_on first now new name was on empty names start is whole added =
      on whole
      (subst (λ (n : List (List ℕ)). AreAdded (proofs_of first.files.opener)
      (string_bytes first.folder) n (drop now.at now.part.items) whole) (sym names)
      (subst (λ (p : List ℕ). AreAdded (proofs_of first.files.opener) (string_bytes first.folder)
      (name ∷ names_left new.leaves) p whole) (sym empty)
      (leaf_read (proofs_of first.files.opener) (string_bytes first.folder) name new.part.items
      (names_left new.leaves) whole
      (subst (λ (h : Held). IsAddedSection (h (proof_path (string_bytes first.folder) name)) name
      new.part.items) (proofs_same first now was)
      (subst (λ (f : List ℕ). IsAddedSection (proofs_of now.files.opener (proof_path f name)) name
      new.part.items) (ap string_bytes was.folder) is))
      (subst (λ (n : ℕ). AreAdded (proofs_of first.files.opener) (string_bytes first.folder)
      (names_left new.leaves) (drop n new.part.items) whole) start added))))
