-- A proof that was read, and the text that it stands for in its place.
use Rattle.std.proofs.Common.{◌≡◌, ◌∙◌, sym, ap, ap₂, ℕ, Bool, true, false, List, [], ◌++◌, length}
use Rattle.std.proofs.Common.{Option, None, Some, take, drop, refl, ◌≤◌, length-append, arith}
use Rattle.std.specs.Prelude.{IfSome, option_map, unwrap_or}
use Rattle.std.proofs.Math.Seq.{take-append_seam, drop-append_seam}
use Rattle.case_core.specs.Binary.{proof_text}
use Rattle.file_store.specs.Files.{IsFound}

-- what is known of a text is known of what it stands for
given_as : (known : Option (Option (List ℕ))) (given : Option (List ℕ))
    → IfSome known (λ held. given ≡ held)
    → IfSome (option_map (λ lies. option_map proof_text lies) known)
    (λ held. option_map proof_text given ≡ held)
given_as None given is = tt
given_as (Some lies) given is = ap (λ (o : Option (List ℕ)). option_map proof_text o) is

-- what is read is appended
pub found_longer : (known : Option (Option (List ℕ))) (old new : List ℕ) (there : Bool)
    → IsFound known old new there → length old ≤ length new
found_longer known old new there (given, same, is_there, text) =
    rw text (rw (length-append old (unwrap_or given [])) (omega arith))

-- no file, no text
pub none_turned : (known : Option (Option (List ℕ))) (old new : List ℕ) (there : Bool)
    → there ≡ false → IsFound known old new there
    → IsFound (option_map (λ lies. option_map proof_text lies) known) old new false
none_turned known old new there is (None, same, is_there, text) =
    (None, given_as known None same, refl, text)
none_turned known old new there is (Some bytes, same, is_there, text) =
    absurd (cc (sym is ∙ is_there))

-- the text of the file that was appended stands in its place
pub found_turned : (known : Option (Option (List ℕ))) (old read new : List ℕ) (there : Bool)
    (begin : ℕ) → there ≡ true → begin ≡ length old → IsFound known old read there
    → new ≡ take begin read ++ proof_text (drop begin read)
    → IsFound (option_map (λ lies. option_map proof_text lies) known) old new true
found_turned known old read new there begin is at (None, same, is_there, text) turned =
    absurd (cc (sym is ∙ is_there))
found_turned known old read new there begin is at (Some bytes, same, is_there, text) turned = (
  Some (proof_text bytes),
  given_as known (Some bytes) same,
  refl,
  turned ∙ ap₂ (λ (n : ℕ) (t : List ℕ). take n t ++ proof_text (drop n t)) at text
      ∙ ap₂ (λ (a b : List ℕ). a ++ proof_text b) (take-append_seam old bytes)
      (drop-append_seam old bytes),
)
