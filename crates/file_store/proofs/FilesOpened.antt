-- What was read of a file that was opened.
use Rattle.std.proofs.Common.{◌≡◌, ◌∙◌, ap, List, ℕ, true, Option, None, Some, refl, sym}
use Rattle.std.proofs.Common.{Result, Ok, Err, OnOk}
use Rattle.std.specs.Prelude.{option_map}
use Rattle.case_core.specs.Binary.{proof_text}
use Rattle.proof_folder.specs.TargetProofs.{IsLeftOf, IsOpenedOf, left_text}
use Rattle.byte_flow.specs.Device.{GrewBy, IsReadOf}
use Rattle.file_store.specs.Files.{GivesOneOf, IsFound}

-- a file that was opened is found with the bytes that were read to its end
pub opened_is_found : (known : Option (Option (List ℕ))) (remaining : Option (List ℕ))
    (old new : List ℕ) → IsLeftOf known remaining → IsReadOf remaining old new
    → IsFound known old new true
opened_is_found None remaining old new left read = (Some read.0, tt, refl, read.1)
opened_is_found (Some lies) remaining old new left read =
    let is : read.0 ≡ left.0 = rw left.2 at read.2 in
    (Some read.0, ap (λ (b : List ℕ). Some b) is ∙ sym left.1, refl, read.1)

-- what a file gives that was opened is one of these texts
pub given_grew : {T E : Type 0} (read : Result T E) (texts : List ℕ → Type 0)
    (left : Option (List ℕ)) (old new : List ℕ) → GivesOneOf texts left
    → OnOk read (IsReadOf left old new) → OnOk read (GrewBy texts old new)
given_grew (Ok unit) texts left old new gives is = (is.0, gives is.0 is.2, is.1)
given_grew (Err fault) texts left old new gives is = tt

-- where a file that was opened is what is known to lie there, its text is that of what is known to
pub opened_as_proof : {T : Type 0} (known : Option (Option (List ℕ))) (left : T → Option (List ℕ))
    (found : Option T) → IsOpenedOf known left found
    → IsOpenedOf (option_map (λ lies. option_map proof_text lies) known)
    (λ one. left_text true (left one)) found
opened_as_proof None left None opened = tt
opened_as_proof None left (Some one) opened = tt
opened_as_proof (Some lies) left None opened =
    ap (λ (o : Option (List ℕ)). option_map proof_text o) opened
opened_as_proof (Some lies) left (Some one) opened = (
  proof_text opened.0,
  ap (λ (o : Option (List ℕ)). option_map proof_text o) opened.1,
  ap (λ (o : Option (List ℕ)). left_text true o) opened.2,
)
