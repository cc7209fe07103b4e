-- Reasons that are read off the front of a text.
use Rattle.std.proofs.Common.{◌≡◌, ◌≢◌, ℕ, List, ◌∷◌, ◌++◌, codes}
use Rattle.case_core.specs.Reason.{Reason}
use Rattle.case_core.specs.Reason.TheVariants.{Unreadable, Id, Hint, Unit as NotUnit}
use Rattle.case_core.specs.Reason.TheVariants.{Empty, Group, Candidate, End}
use Rattle.node_fields.specs.Fields.{reason_field}

-- the text doesn't begin with this front
abbrev pub IsNotBehind : List ℕ → List ℕ → Type 0
IsNotBehind text front = (rest : List ℕ) → text ≢ front ++ rest

-- a text that goes on with a reason goes on with one of the eight
pub no_reason : (reason : Reason) (text rest : List ℕ) → IsNotBehind text (codes " unreadable\n") →
    IsNotBehind text (codes " id\n") → IsNotBehind text (codes " hint\n") →
    IsNotBehind text (codes " unit\n") → IsNotBehind text (codes " empty\n") →
    IsNotBehind text (codes " group\n") → IsNotBehind text (codes " candidate\n") →
    IsNotBehind text (codes " end\n") → text ≡ reason_field reason ++ 10 ∷ rest → ⊥
no_reason Unreadable text rest a b c d e f g h is = a rest is
no_reason Id text rest a b c d e f g h is = b rest is
no_reason Hint text rest a b c d e f g h is = c rest is
no_reason NotUnit text rest a b c d e f g h is = d rest is
no_reason Empty text rest a b c d e f g h is = e rest is
no_reason Group text rest a b c d e f g h is = f rest is
no_reason Candidate text rest a b c d e f g h is = g rest is
no_reason End text rest a b c d e f g h is = h rest is
