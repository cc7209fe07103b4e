-- Lines and tokens of a text with more behind it.
use Rattle.std.proofs.Common.{◌≡◌, ◌∙◌, ◌↔◌, sym, ap, refl, ℕ, Bool, true, false, cond, List}
use Rattle.std.proofs.Common.{[], ◌∷◌, ◌++◌, append-nil, append_assoc, ◌⊎◌, inl, inr, subst}
use Rattle.std.proofs.lemmas.Bool.{eqb-true}
use Rattle.std.specs.List.{onto_first}
use Rattle.case_core.specs.Tokens.{Token, is_line_end, is_blank, words, token_lines, all_tokens}
use Rattle.case_core.specs.Tokens.{tokens_of}
use Rattle.case_core.specs.Icnf.{after_header}
use Rattle.case_core.specs.Proof.{Proof, IsProofOf}
use Rattle.case_core.specs.Grammar.{step_symbols_of, Longest}
use Rattle.case_core.specs.Bundle.{lines_of, is_label, line_onto, text_before}
use Rattle.case_core.proofs.BundleMore.{no_lines, one_end, joined_more, lines_end, header_end}
use Rattle.proof_folder.specs.Added.{AreEnds, IsAlmost}

almost_of : (text longer : List ℕ) → (longer ≡ text) ⊎ (longer ≡ text ++ 10 ∷ []) →
    IsAlmost text longer
almost_of text longer (inl same) = ([], tt, same ∙ sym (append-nil text))
almost_of text longer (inr more) = (10 ∷ [], (refl, tt), more)

pub before_label : (lines : List (List ℕ)) (label : List ℕ) (more : List (List ℕ)) →
    is_label label ≡ true → IsAlmost (text_before lines) (text_before (lines ++ label ∷ more))
before_label lines label more is =
    almost_of (text_before lines) (text_before (lines ++ label ∷ more))
    (one_end lines label more is)

-- what a line end changes nothing of, no line ends do
pub ends_by : {T : Type 0} (f : List ℕ → T) → ((t : List ℕ) → f (t ++ 10 ∷ []) ≡ f t) →
    (text ends : List ℕ) → AreEnds ends → f (text ++ ends) ≡ f text
ends_by f one text [] are = ap f (append-nil text)
ends_by f one text (byte ∷ ends) are =
    ap f (ap (λ (b : ℕ). text ++ b ∷ ends) are.0 ∙ sym (append_assoc text (10 ∷ []) ends))
    ∙ ends_by f one (text ++ 10 ∷ []) ends are.1 ∙ one text

pub almost_by : {T : Type 0} (f : List ℕ → T) → ((t : List ℕ) → f (t ++ 10 ∷ []) ≡ f t) →
    (text longer : List ℕ) → IsAlmost text longer → f longer ≡ f text
almost_by f one text longer almost = ap f almost.2 ∙ ends_by f one text almost.0 almost.1

-- a line that begins with an l and a space is a label line
pub label_begun : (rest : List ℕ) → is_label (108 ∷ 32 ∷ rest) ≡ true
unfolding is_label words is_blank
label_begun rest = refl

pub almost_header : (text longer : List ℕ) → IsAlmost text longer
    → after_header (token_lines 1 longer) ≡ after_header (token_lines 1 text)
almost_header text longer almost =
    almost_by (λ (t : List ℕ). after_header (token_lines 1 t)) header_end text longer almost

-- ---- a proof with a line end behind it

pub tokens_end : (text : List ℕ) → tokens_of (text ++ 10 ∷ []) ≡ tokens_of text
tokens_end text = ap all_tokens (lines_end text) ∙ joined_more (token_lines 1 text)

same_proof : (one other : List ℕ) (proof : Proof) → tokens_of one ≡ tokens_of other →
    IsProofOf one proof → IsProofOf other proof
same_proof one other proof same is = record {
  left = is.left;
  longest =
      subst (λ (tokens : List Token). Longest (step_symbols_of tokens) proof.steps is.left) same
      is.longest;
  blank = is.blank;
}

pub line_end_keeps_proof : (text : List ℕ) (proof : Proof)
    → IsProofOf (text ++ 10 ∷ []) proof ↔ IsProofOf text proof
line_end_keeps_proof text proof = (
  same_proof (text ++ 10 ∷ []) text proof (tokens_end text),
  same_proof text (text ++ 10 ∷ []) proof (sym (tokens_end text)),
)

pub almost_proof : (text longer : List ℕ) (proof : Proof) → IsAlmost text longer →
    IsProofOf longer proof → IsProofOf text proof
almost_proof text longer proof almost is =
    same_proof longer text proof (almost_by tokens_of tokens_end text longer almost) is

-- ---- a text without a label line

-- lines, joined by line ends
abbrev pub with_ends : List (List ℕ) → List ℕ
with_ends [] = []
with_ends (line ∷ lines) = line_onto line lines (with_ends lines)

joined_line : (test : Bool) (x : ℕ) (lines : List (List ℕ)) → (lines ≡ [] → ⊥)
    → (test ≡ true → x ≡ 10)
    → with_ends (cond test ([] ∷ lines) (onto_first x lines)) ≡ x ∷ with_ends lines
joined_line test x [] some is = absurd (some refl)
joined_line true x (line ∷ lines) some is =
    ap (λ (n : ℕ). n ∷ with_ends (line ∷ lines)) (sym (is refl))
joined_line false x (line ∷ []) some is = refl
joined_line false x (line ∷ next ∷ lines) some is = refl

-- a text is its lines, joined
pub text_is_lines : (text : List ℕ) → with_ends (lines_of text) ≡ text
text_is_lines [] = refl
text_is_lines (x ∷ text) =
    joined_line (is_line_end x) x (lines_of text) (no_lines text) (eqb-true x 10)
    ∙ ap (λ (t : List ℕ). x ∷ t) (text_is_lines text)
