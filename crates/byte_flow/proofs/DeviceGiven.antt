-- What was given of the texts that a stream may give.
use Rattle.std.proofs.Common.{◌≡◌, refl, sym, subst, ℕ, List, [], ◌++◌, Option, None, Some}
use Rattle.std.proofs.Common.{append_assoc}
use Rattle.std.specs.Io.KnownBytes.{Consumes, IsAtEnd}
use Rattle.byte_flow.specs.Device.{HasGiven, IsLeft}

pub given_none : (texts : List ℕ → Type 0) → HasGiven texts texts []
given_none texts rest is = is

pub given_both : (first before after : List ℕ → Type 0) (bytes more : List ℕ)
    → HasGiven first before bytes → HasGiven before after more
    → HasGiven first after (bytes ++ more)
given_both first before after bytes more was next rest is =
    subst first (sym (append_assoc bytes more rest)) (was (more ++ rest) (next rest is))

-- ---- what a source has left

pub left_given : (before after : Option (List ℕ)) (bytes : List ℕ) → Consumes before after bytes
    → HasGiven (IsLeft before) (IsLeft after) bytes
left_given None after bytes lost rest is = tt
left_given (Some known) None bytes lost rest is = absurd lost
left_given (Some known) (Some more) bytes lost rest is =
    subst (λ (t : List ℕ). bytes ++ t ≡ known) (sym is) (sym lost)

pub left_end : (left : Option (List ℕ)) → IsAtEnd left → IsLeft left []
left_end None end = tt
left_end (Some known) end = sym end

pub left_some : (left : Option (List ℕ)) → (text : List ℕ) × IsLeft left text
left_some None = ([], tt)
left_some (Some known) = (known, refl)
