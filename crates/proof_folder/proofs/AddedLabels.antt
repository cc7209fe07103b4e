-- The label lines of lines behind which another label line comes.
use Rattle.std.proofs.Common.{◌≡◌, ◌∙◌, sym, ap, refl, ℕ, ◌+◌, true, List, [], ◌∷◌}
use Rattle.std.proofs.Common.{◌++◌, inl, inr, subst}
use Rattle.std.proofs.lemmas.Bool.{cases_Bool}
use Rattle.case_core.specs.Tokens.{words}
use Rattle.case_core.specs.SplitTree.{SplitTree}
use Rattle.case_core.specs.Bundle.{lines_of, is_label, line_onto, text_before, Labelled, labelled}
use Rattle.case_core.specs.Case.{SectionOf}
use Rattle.case_core.specs.Label.{label_name, IsTargetOf}
use Rattle.case_core.specs.Sections.{IsSectionOf, AreLabelled}
use Rattle.proof_folder.specs.Added.{IsAlmost, AreAlmost, HasNoLabelLine}
use Rattle.proof_folder.proofs.AddedLines.{before_label, with_ends, text_is_lines}

-- label lines with the same numbers and words, whose sections differ by line ends alone
abbrev pub AreAlmostLabels : List Labelled → List Labelled → Type 0
AreAlmostLabels [] [] = Unit {0}
AreAlmostLabels (one ∷ labels) (other ∷ others) =
    (one.label ≡ other.label) × IsAlmost one.section other.section × AreAlmostLabels labels others
AreAlmostLabels [] (other ∷ others) = ⊥
AreAlmostLabels (one ∷ labels) [] = ⊥

-- the label lines of some lines, where a label line and more follow them
pub record LabelsMore (n : ℕ) (lines : List (List ℕ)) (label : List ℕ) (more : List (List ℕ))
    : Type 0 where
  pub changed : List Labelled
  pub almost : AreAlmostLabels (labelled n lines) changed
  pub at : ℕ
  pub parts : labelled n (lines ++ label ∷ more)
      ≡ changed ++ record { line = at; label = words label; section = text_before more }
      ∷ labelled (at + 1) more

abbrev at_number : ℕ → List ℕ → List (List ℕ) → Labelled
at_number n line lines = record { line = n; label = words line; section = text_before lines }

pub labels_more : (n : ℕ) (lines : List (List ℕ)) (label : List ℕ) (more : List (List ℕ)) →
    is_label label ≡ true → LabelsMore n lines label more
labels_more n [] label more is = record {
  changed = [];
  almost = tt;
  at = n;
  parts = rw is refl;
}
labels_more n (line ∷ lines) label more is =
    let below = labels_more (n + 1) lines label more is in
    elim (cases_Bool (is_label line)) [
      | inl is_one ↦ record {
        changed = at_number n line (lines ++ label ∷ more) ∷ below.changed;
        almost = rw is_one (refl, before_label lines label more is, below.almost);
        at = below.at;
        parts =
            rw is_one (ap (λ (l : List Labelled). at_number n line (lines ++ label ∷ more) ∷ l)
            below.parts);
      }
      | inr other ↦ record {
        changed = below.changed;
        almost = rw other below.almost;
        at = below.at;
        parts = rw other below.parts;
      }
    ]

-- the sections of label lines whose sections got line ends
pub record SectionsMore (tree : SplitTree) (labels : List Labelled) (sections : List SectionOf)
    : Type 0 where
  pub changed : List SectionOf
  pub almost : AreAlmost sections changed
  pub labelled : AreLabelled tree labels changed

pub sections_almost : (tree : SplitTree) (labels changed : List Labelled)
    (sections : List SectionOf) → AreAlmostLabels labels changed → AreLabelled tree labels sections
    → SectionsMore tree changed sections
sections_almost tree [] [] [] almost are = record { changed = []; almost = tt; labelled = tt }
sections_almost tree [] [] (section ∷ sections) almost are = absurd are
sections_almost tree [] (label ∷ changed) sections almost are = absurd almost
sections_almost tree (label ∷ labels) [] sections almost are = absurd almost
sections_almost tree (label ∷ labels) (other ∷ changed) [] almost are = absurd are
sections_almost tree (label ∷ labels) (other ∷ changed) (section ∷ sections) almost are =
    let below = sections_almost tree labels changed sections almost.2 are.1 in record {
      changed = record { target = section.target; proof = other.section } ∷ below.changed;
      almost = (
        refl,
        subst (λ (p : List ℕ). IsAlmost p other.section) (sym are.0.proof) almost.1,
        below.almost,
      );
      labelled = (
        record {
          target =
              subst (λ (w : List (List ℕ)). IsTargetOf tree
              (label_name w) section.target) almost.0 are.0.target;
          proof = refl;
        },
        below.labelled,
      );
    }

-- one more label line and its section
pub labelled_more : (tree : SplitTree) (labels : List Labelled) (sections : List SectionOf)
    (label : Labelled) (section : SectionOf) → AreLabelled tree labels sections →
    IsSectionOf tree label section
    → AreLabelled tree (labels ++ label ∷ []) (sections ++ section ∷ [])
labelled_more tree [] [] label section h s = (s, tt)
labelled_more tree [] (x ∷ sections) label section h s = absurd h
labelled_more tree (l ∷ labels) [] label section h s = absurd h
labelled_more tree (l ∷ labels) (x ∷ sections) label section h s =
    (h.0, labelled_more tree labels sections label section h.1 s)

-- ---- lines without a label line

some_labels : (label : Labelled) (labels : List Labelled) → label ∷ labels ≡ [] → ⊥
some_labels label labels e = cc

-- such lines have none from whatever number on, and the text before the first is all of them
pub plain_lines : (n m : ℕ) (lines : List (List ℕ)) → labelled n lines ≡ [] →
    (labelled m lines ≡ []) × (text_before lines ≡ with_ends lines)
plain_lines n m [] none = (refl, refl)
plain_lines n m (line ∷ lines) none = elim (cases_Bool (is_label line)) [
  | inl is_one ↦ absurd
      (some_labels (at_number n line lines) (labelled (n + 1) lines) (rw is_one at none))
  | inr other ↦
      let below = plain_lines (n + 1) (m + 1) lines (rw other at none) in
      rw other (below.0, ap (λ (t : List ℕ). line_onto line lines t) below.1)
]

pub plain_text : (text : List ℕ) (m : ℕ) → HasNoLabelLine text →
    (labelled m (lines_of text) ≡ []) × (text_before (lines_of text) ≡ text)
plain_text text m none =
    let plain = plain_lines 1 m (lines_of text) none in (plain.0, plain.1 ∙ text_is_lines text)
