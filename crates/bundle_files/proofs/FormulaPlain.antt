-- Lines that are no label lines, and the first one of a text that is.
use Rattle.std.proofs.Common.{◌≡◌, ◌∙◌, ◌⊎◌, ap, sym, refl, inl, inr, ℕ, ◌+◌, false, true, List, []}
use Rattle.std.proofs.Common.{◌∷◌, ◌++◌, append_assoc}
use Rattle.std.specs.List.{AllByRecursion}
use Rattle.std.proofs.lemmas.Bool.{cases_Bool}
use Rattle.case_core.specs.Bundle.{icnf_text, is_label, labelled, lines_of, text_before}
use Rattle.case_core.proofs.BundleLines.{plain_text}
use Rattle.proof_folder.proofs.AddedLines.{with_ends}

abbrev pub ArePlain : List (List ℕ) → Type 0
ArePlain lines = AllByRecursion (λ line. is_label line ≡ false) lines

pub plain_labels : (n : ℕ) (lines : List (List ℕ)) → ArePlain lines → labelled n lines ≡ []
plain_labels n [] plain = refl
plain_labels n (line ∷ lines) plain = rw plain.0 (plain_labels (n + 1) lines plain.1)

-- a text of such lines is its iCNF text
pub plain_icnf : (text : List ℕ) → ArePlain (lines_of text) → icnf_text text ≡ text
plain_icnf text plain = plain_text 1 text (plain_labels 1 (lines_of text) plain)

pub plain_more : (lines more : List (List ℕ)) → ArePlain lines → ArePlain more →
    ArePlain (lines ++ more)
plain_more [] more plain others = others
plain_more (line ∷ lines) more plain others = (plain.0, plain_more lines more plain.1 others)

-- the text before the first label line, where the first lines are none
pub plain_front : (lines more : List (List ℕ)) → ArePlain lines → (lines ≡ [] → ⊥)
    → (more ≡ [] → ⊥)
    → text_before (lines ++ more) ≡ with_ends lines ++ 10 ∷ text_before more
plain_front [] more plain some others = absurd (some refl)
plain_front (line ∷ lines) [] plain some others = absurd (others refl)
plain_front (line ∷ []) (next ∷ more) plain some others = rw plain.0 refl
plain_front (line ∷ second ∷ lines) (next ∷ more) plain some others =
    rw plain.0
    (ap (λ (t : List ℕ). line ++ 10 ∷ t)
    (plain_front (second ∷ lines) (next ∷ more) plain.1 (λ e. cc) others)
    ∙ sym (append_assoc line (10 ∷ with_ends (second ∷ lines)) (10 ∷ text_before (next ∷ more))))

-- the lines up to the first label line, where there is one
pub record HasLabelIn (lines : List (List ℕ)) : Type 0 where
  pub before : List (List ℕ)
  pub label : List ℕ
  pub more : List (List ℕ)
  pub plain : ArePlain before
  pub is : is_label label ≡ true
  pub parts : lines ≡ before ++ label ∷ more

pub plain_or_not : (lines : List (List ℕ)) → ArePlain lines ⊎ HasLabelIn lines
plain_or_not [] = inl tt
plain_or_not (line ∷ lines) =
    elim (cases_Bool (is_label line)) [
      | inl is ↦ inr (record {
        before = [];
        label = line;
        more = lines;
        plain = tt;
        is = is;
        parts = refl;
      })
      | inr other ↦ elim (plain_or_not lines) [
        | inl plain ↦ inl (other, plain)
        | inr has ↦ inr (record {
          before = line ∷ has.before;
          label = has.label;
          more = has.more;
          plain = (other, has.plain);
          is = has.is;
          parts = ap (λ (l : List (List ℕ)). line ∷ l) has.parts;
        })
      ]
    ]
