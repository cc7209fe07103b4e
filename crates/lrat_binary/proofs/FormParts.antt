-- Which form a proof has by its first byte, and what its bytes stand for when all were read.
use Rattle.std.proofs.Common.{◌≡◌, ◌∙◌, sym, ap, ℕ, List, [], ◌∷◌, ◌++◌, ◌⊎◌, inl, inr, refl}
use Rattle.std.proofs.Common.{append-nil, take, drop, length, ◌-◌, take-append-drop}
use Rattle.std.proofs.Common.{length-drop, arith}
use Rattle.std.proofs.lemmas.List.{take_all}
use Rattle.lrat_binary.specs.Binary.{proof_text, text_of}
use Rattle.lrat_binary.specs.Decoder.{Begun, text_left}
use Rattle.lrat_binary.specs.Form.{text_in_form}
use Rattle.lrat_binary.specs.declared.form.ProofForm.{ProofForm}
use Rattle.lrat_binary.specs.declared.form.ProofForm.TheVariants.{Unread, Text, Binary}

-- an a or a d
pub binary_by : (first : ℕ) (rest : List ℕ) → (first ≡ 97) ⊎ (first ≡ 100) →
    text_of (first ∷ rest) ≡ proof_text (first ∷ rest)
binary_by first rest (inl is) = rw is refl
binary_by first rest (inr is) = rw is refl

-- what has no form of a binary proof is its text
pub no_text : (form : ProofForm) (bytes : List ℕ) → (form ≡ Binary → ⊥) →
    ((more : List ℕ) → text_in_form form (bytes ++ more) ≡ proof_text (bytes ++ more)) →
    (form ≡ Unread → bytes ≡ []) → proof_text bytes ≡ bytes
no_text Unread bytes other left none = rw (none refl) refl
no_text Text bytes other left none =
    ap proof_text (sym (append-nil bytes)) ∙ sym (left []) ∙ append-nil bytes
no_text Binary bytes other left none = absurd (other refl)

-- the text that was made of all bytes of a binary proof
pub whole_text : (form : ProofForm) (bytes made : List ℕ) (begun behind : Begun) →
    form ≡ Binary →
    ((more : List ℕ) → text_in_form form (bytes ++ more) ≡ proof_text (bytes ++ more)) →
    ((rest : List ℕ) → text_left begun rest ≡ text_of rest) →
    ((more : List ℕ) → made ++ text_left behind more ≡ text_left begun (bytes ++ more)) →
    made ≡ proof_text bytes
whole_text form bytes made begun behind is left all turned =
    sym (append-nil made) ∙ turned [] ∙ all (bytes ++ [])
    ∙ sym (ap (λ f. text_in_form f (bytes ++ [])) is) ∙ left [] ∙ ap proof_text (append-nil bytes)

-- what stands from a place on, as far as there is something
pub rest_from : (begin : ℕ) (text : List ℕ)
    → take (length text - begin) (drop begin text) ≡ drop begin text
rest_from begin text =
    take_all (length text - begin) (drop begin text) (rw (length-drop begin text) (omega arith))

-- a proof that is its text stays as it is
pub text_stays : (text : List ℕ) (begin : ℕ)
    → proof_text (take (length text - begin) (drop begin text))
    ≡ take (length text - begin) (drop begin text)
    → text ≡ take begin text ++ proof_text (drop begin text)
text_stays text begin is =
    sym (take-append-drop begin text)
    ∙ ap (λ (t : List ℕ). take begin text ++ t)
    (sym (rest_from begin text) ∙ sym is ∙ ap proof_text (rest_from begin text))
