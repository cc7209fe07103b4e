-- Sections that are added to a bundle leave its formula as it is.
use Rattle.std.proofs.Common.{◌≡◌, ◌∙◌, ◌↔◌, sym, ap, refl, ℕ, true, List, [], ◌∷◌, ◌++◌, codes}
use Rattle.std.proofs.Common.{append-nil, Option, Some, None, subst, inl, inr}
use Rattle.std.proofs.lemmas.Bool.{cases_Bool}
use Rattle.std.specs.List.{flat_map, onto_first}
use Rattle.std.specs.Option.{option_map}
use Rattle.std.specs.Prelude.{MatchOption}
use Rattle.case_core.specs.Literal.{Literal}
use Rattle.case_core.specs.Tokens.{Token, token_lines}
use Rattle.case_core.specs.Icnf.{Item, IsTextFault, IsTokensFault, StandsFor, after_header}
use Rattle.case_core.specs.Icnf.{symbols_of}
use Rattle.case_core.specs.TextFault.{TextFault}
use Rattle.case_core.specs.TextFault.TheVariants.{Header}
use Rattle.case_core.specs.Bundle.{lines_of, is_label, text_before, icnf_text}
use Rattle.cube_report.specs.Correct.{IsFormulaOf, IsUnsatisfiable}
use Rattle.proof_folder.specs.Added.{IsAlmost, section_text}
use Rattle.case_core.proofs.BundleMore.{no_lines, lines_more}
use Rattle.proof_folder.proofs.AddedLines.{label_begun, before_label, almost_header}
use Rattle.file_store.specs.Files.{AreAdded, Held, IsJudgedOf, IsWithProofs, as_proofs}

pub first_label : (rest : List ℕ) (lines : List (List ℕ)) → lines_of rest ≡ lines
    →
    (label : List ℕ) × (more : List (List ℕ)) × (lines_of (108 ∷ 32 ∷ rest) ≡ label ∷ more)
    × (is_label label ≡ true)
first_label rest [] is = absurd (no_lines rest is)
first_label rest (line ∷ lines) is = (
  108 ∷ 32 ∷ line,
  lines,
  ap (λ (l : List (List ℕ)). onto_first 108 (onto_first 32 l)) is,
  label_begun line,
)

icnf_more : (bundle rest : List ℕ)
    → IsAlmost (icnf_text bundle) (icnf_text (bundle ++ 10 ∷ 108 ∷ 32 ∷ rest))
icnf_more bundle rest =
    let begins = first_label rest (lines_of rest) refl in
    let split : lines_of (bundle ++ 10 ∷ 108 ∷ 32 ∷ rest) ≡ lines_of bundle ++ begins.0 ∷ begins.1 =
    lines_more bundle (108 ∷ 32 ∷ rest)
    ∙ ap (λ (l : List (List ℕ)). lines_of bundle ++ l) begins.2 in
    subst (λ (l : List (List ℕ)). IsAlmost (icnf_text bundle) (text_before l)) (sym split)
    (before_label (lines_of bundle) begins.0 begins.1 begins.3)

same_tokens : (bundle rest : List ℕ)
    →
    after_header (token_lines 1 (icnf_text (bundle ++ 10 ∷ 108 ∷ 32 ∷ rest)))
    ≡ after_header (token_lines 1 (icnf_text bundle))
same_tokens bundle rest =
    almost_header (icnf_text bundle) (icnf_text (bundle ++ 10 ∷ 108 ∷ 32 ∷ rest))
    (icnf_more bundle rest)

-- texts with the same words behind their headers have the same clauses
formula_by_words : (one other : List ℕ) (formula : List (List Literal))
    →
    after_header (token_lines 1 (icnf_text one)) ≡ after_header (token_lines 1 (icnf_text other))
    → IsFormulaOf one formula ↔ IsFormulaOf other formula
formula_by_words one other formula same = (
  λ is. (is.0, sym (ap (option_map symbols_of) same) ∙ is.1, is.2),
  λ is. (is.0, ap (option_map symbols_of) same ∙ is.1, is.2),
)

-- a section behind a bundle leaves its clauses and its cubes as they are
pub section_keeps_items : (bundle rest : List ℕ) (items : List Item)
    → StandsFor (icnf_text (bundle ++ 10 ∷ 108 ∷ 32 ∷ rest)) items
    → StandsFor (icnf_text bundle) items
section_keeps_items bundle rest items stands =
    (stands.0, sym (same_tokens bundle rest) ∙ stands.1, stands.2)

-- and those that it has are those with a section behind it
pub items_with_section : (bundle rest : List ℕ) (items : List Item)
    → StandsFor (icnf_text bundle) items
    → StandsFor (icnf_text (bundle ++ 10 ∷ 108 ∷ 32 ∷ rest)) items
items_with_section bundle rest items stands =
    (stands.0, same_tokens bundle rest ∙ stands.1, stands.2)

-- nor does it change the first fault of the text
pub text_fault_with_section : (bundle rest : List ℕ) (fault : TextFault)
    → IsTextFault (icnf_text bundle) fault
    → IsTextFault (icnf_text (bundle ++ 10 ∷ 108 ∷ 32 ∷ rest)) fault
text_fault_with_section bundle rest fault is =
    subst (λ (t : Option (List Token)). MatchOption t (fault ≡ Header)
    (λ tokens. IsTokensFault tokens fault)) (sym (same_tokens bundle rest)) is

-- a bundle whose formula has no model with a section behind it has a formula with no model
pub unsatisfiable_before : (bundle rest : List ℕ)
    → IsUnsatisfiable (bundle ++ 10 ∷ 108 ∷ 32 ∷ rest) → IsUnsatisfiable bundle
unsatisfiable_before bundle rest none = (
  none.0,
  (formula_by_words (bundle ++ 10 ∷ 108 ∷ 32 ∷ rest) bundle none.0 (same_tokens bundle rest)).0
      none.1,
  none.2,
)

-- what stands before a label line doesn't depend on what stands below it
text_before_label : (lines : List (List ℕ)) (label : List ℕ) (more other : List (List ℕ))
    → is_label label ≡ true
    → text_before (lines ++ label ∷ more) ≡ text_before (lines ++ label ∷ other)
text_before_label [] label more other is = rw is refl
text_before_label (line ∷ []) label more other is = elim (cases_Bool (is_label line)) [
  | inl one ↦ rw one refl
  | inr plain ↦ rw (plain, is) refl
]
text_before_label (line ∷ next ∷ lines) label more other is = elim (cases_Bool (is_label line)) [
  | inl one ↦ rw one refl
  | inr plain ↦ rw plain
      (ap (λ (t : List ℕ). line ++ 10 ∷ t) (text_before_label (next ∷ lines) label more other is))
]

pub icnf_before_label : (bundle rest other : List ℕ)
    → icnf_text (bundle ++ 10 ∷ 108 ∷ 32 ∷ 49 ∷ 10 ∷ rest)
    ≡ icnf_text (bundle ++ 10 ∷ 108 ∷ 32 ∷ 49 ∷ 10 ∷ other)
icnf_before_label bundle rest other =
    ap text_before (lines_more bundle (108 ∷ 32 ∷ 49 ∷ 10 ∷ rest))
    ∙ text_before_label (lines_of bundle) (108 ∷ 32 ∷ 49 ∷ []) (lines_of rest) (lines_of other)
    (label_begun (49 ∷ []))
    ∙ sym (ap text_before (lines_more bundle (108 ∷ 32 ∷ 49 ∷ 10 ∷ other)))

abbrev Leaf : Type 0
Leaf = List ℕ × Option (List ℕ)

-- sections that are added leave the words behind the header as they are
one_keeps_words : (bundle name : List ℕ) (proof : Option (List ℕ)) (rest : List ℕ)
    →
    after_header (token_lines 1 (icnf_text (bundle ++ rest)))
    ≡ after_header (token_lines 1 (icnf_text bundle))
    →
    after_header (token_lines 1 (icnf_text (bundle ++ (section_text name proof ++ rest))))
    ≡ after_header (token_lines 1 (icnf_text bundle))
one_keeps_words bundle name None rest same = same
one_keeps_words bundle name (Some proof) rest same =
    same_tokens bundle ((name ++ codes "\n" ++ proof) ++ rest)

sections_keep_words : (bundle : List ℕ) (leaves : List Leaf)
    →
    after_header (token_lines 1
    (icnf_text (bundle ++ flat_map (λ leaf. section_text leaf.0 leaf.1) leaves)))
    ≡ after_header (token_lines 1 (icnf_text bundle))
sections_keep_words bundle [] =
    ap (λ (text : List ℕ). after_header (token_lines 1 (icnf_text text))) (append-nil bundle)
sections_keep_words bundle (leaf ∷ leaves) =
    one_keeps_words bundle leaf.0 leaf.1 (flat_map (λ leaf. section_text leaf.0 leaf.1) leaves)
    (sections_keep_words bundle leaves)

added_keep_words : (held : Held) (folder : List ℕ) (names : List (List ℕ))
    (bundle whole : List ℕ) → AreAdded held folder names bundle whole
    →
    after_header (token_lines 1 (icnf_text whole)) ≡ after_header (token_lines 1 (icnf_text bundle))
added_keep_words held folder names bundle whole added =
    ap (λ (text : List ℕ). after_header (token_lines 1 (icnf_text text))) added.text
    ∙ sections_keep_words bundle added.leaves

pub added_keep_formula : (held : Held) (folder : List ℕ) (names : List (List ℕ))
    (bundle whole : List ℕ) (formula : List (List Literal)) →
    AreAdded held folder names bundle whole
    → IsFormulaOf whole formula ↔ IsFormulaOf bundle formula
added_keep_formula held folder names bundle whole formula added =
    formula_by_words whole bundle formula (added_keep_words held folder names bundle whole added)

-- added proofs leave the formula as it is
pub proofs_keep_formula : (held : Held) (folder bundle whole : List ℕ)
    (formula : List (List Literal))
    → IsWithProofs held folder bundle whole
    → IsFormulaOf whole formula ↔ IsFormulaOf bundle formula
proofs_keep_formula held folder bundle whole formula with_them =
    added_keep_formula (as_proofs held) folder with_them.0 bundle whole formula with_them.2

-- a bundle whose formula has no model with proofs added to it has a formula with no model
pub judged_unsatisfiable : (held : Held) (folder : Option (List ℕ)) (bundle whole : List ℕ)
    → IsJudgedOf held folder bundle whole → IsUnsatisfiable whole → IsUnsatisfiable bundle
judged_unsatisfiable held None bundle whole same none = subst IsUnsatisfiable same none
judged_unsatisfiable held (Some folder) bundle whole with_them none =
    let kept = (proofs_keep_formula held folder bundle whole none.0 with_them).0 none.1 in
    (none.0, kept, none.2)

-- the bundle that is judged has the clauses and the cubes of the one that was read
pub judged_keeps_items : (held : Held) (folder : Option (List ℕ)) (bundle whole : List ℕ)
    (items : List Item) → IsJudgedOf held folder bundle whole →
    StandsFor (icnf_text whole) items → StandsFor (icnf_text bundle) items
judged_keeps_items held None bundle whole items same stands =
    subst (λ (text : List ℕ). StandsFor (icnf_text text) items) same stands
judged_keeps_items held (Some folder) bundle whole items with_them stands = (
  stands.0,
  sym (added_keep_words (as_proofs held) folder with_them.0 bundle whole with_them.2) ∙ stands.1,
  stands.2,
)
