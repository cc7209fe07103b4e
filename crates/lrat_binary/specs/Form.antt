-- Which text the bytes of a proof stand for, by its form.
use Rattle.std.specs.Prelude.{ℕ, List}
use Rattle.lrat_binary.specs.Binary.{proof_text, text_of}
use Rattle.lrat_binary.specs.declared.form.ProofForm.{ProofForm}
use Rattle.lrat_binary.specs.declared.form.ProofForm.TheVariants.{Unread, Text, Binary}

-- the text that the bytes of a proof of this form stand for
abbrev pub text_in_form : ProofForm → List ℕ → List ℕ
text_in_form Unread bytes = proof_text bytes
text_in_form Text bytes = bytes
text_in_form Binary bytes = text_of bytes
