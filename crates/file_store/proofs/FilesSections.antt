-- Leaves whose proofs are added to a bundle, one after the other.
use Rattle.std.proofs.Common.{◌≡◌, ◌∙◌, sym, ap, ap₂, refl, ℕ}
use Rattle.std.proofs.Common.{List, [], ◌∷◌, ◌++◌}
use Rattle.std.proofs.Common.{append_assoc, append-nil}
use Rattle.std.proofs.Common.{Option}
use Rattle.std.specs.List.{flat_map}
use Rattle.std.proofs.lemmas.Grind.{flat_map-append}
use Rattle.std.proofs.lemmas.List.{map-append}
use Rattle.std.proofs.lemmas.List.Elements.{All-append, All-cons, All-nil}
use Rattle.file_store.specs.Files.{AreAdded, Held, IsGivenAt}
use Rattle.proof_folder.specs.Added.{section_text}
use Rattle.proof_folder.specs.Added.{proof_path}

abbrev Leaf : Type 0
Leaf = List ℕ × Option (List ℕ)

pub added_more : (held : Held) (folder : List ℕ) (first second : List (List ℕ))
    (bundle part whole : List ℕ)
    → AreAdded held folder first bundle part
    → AreAdded held folder second part whole → AreAdded held folder (first ++ second) bundle whole
added_more held folder first second bundle part whole before after = record {
  leaves = before.leaves ++ after.leaves;
  named =
      map-append (λ (leaf : Leaf). leaf.0) before.leaves after.leaves
      ∙ ap₂ (λ (a b : List (List ℕ)). a ++ b) before.named after.named;
  files =
      All-append (λ (leaf : Leaf). IsGivenAt held (proof_path folder leaf.0) leaf.1) before.leaves
      after.leaves before.files after.files;
  text = after.text ∙ ap (λ (b : List ℕ). b ++ flat_map section after.leaves) before.text
      ∙ append_assoc bundle (flat_map section before.leaves) (flat_map section after.leaves)
      ∙ ap (λ (t : List ℕ). bundle ++ t) (sym (flat_map-append section before.leaves after.leaves));
}
  where
    section : Leaf → List ℕ
    section leaf = section_text leaf.0 leaf.1

-- where no leaf is added, nothing is
pub nothing_added : (held : Held) (folder bundle : List ℕ) → AreAdded held folder [] bundle bundle
nothing_added held folder bundle = record {
  leaves = [];
  named = refl;
  files = All-nil (λ (leaf : Leaf). IsGivenAt held (proof_path folder leaf.0) leaf.1);
  text = sym (append-nil bundle);
}

pub one_leaf : (held : Held) (folder name bundle whole : List ℕ) (proof : Option (List ℕ))
    → IsGivenAt held (proof_path folder name) proof → whole ≡ bundle ++ section_text name proof
    → AreAdded held folder (name ∷ []) bundle whole
one_leaf held folder name bundle whole proof known text = record {
  leaves = (name, proof) ∷ [];
  named = refl;
  files =
      All-cons (λ (leaf : Leaf). IsGivenAt held (proof_path folder leaf.0) leaf.1) (name, proof) []
      known (All-nil (λ (leaf : Leaf). IsGivenAt held (proof_path folder leaf.0) leaf.1));
  text = text ∙ ap (λ (t : List ℕ). bundle ++ t) (sym (append-nil (section_text name proof)));
}
