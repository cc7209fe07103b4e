-- What is known of the proofs that don't stand in a case, and what is opened of them.
use Rattle.std.specs.Prelude.{◌≡◌, ℕ, Bool, true, false, List, Option, None, Some, IfSome}
use Rattle.std.specs.Prelude.{MatchOption, option_map}
use Rattle.case_core.specs.Binary.{proof_text}
use Rattle.case_core.specs.Target.{Target}

-- what is known of the proofs that lie elsewhere: where it is, no proof or these bytes for each
-- target
abbrev pub Known : Type 0
Known = Target → Option (Option (List ℕ))

-- what was given for a target is what is known to lie there
abbrev pub IsGiven : Option (Option (List ℕ)) → Option (List ℕ) → Type 0
IsGiven known given = IfSome known (λ held. given ≡ held)

-- the text that a proof's bytes stand for, by whether it may be binary
abbrev pub text_by : Bool → List ℕ → List ℕ
text_by false bytes = bytes
text_by true bytes = proof_text bytes

-- what is left to read of a proof's text
abbrev pub left_text : Bool → Option (List ℕ) → Option (List ℕ)
left_text binary left = option_map (text_by binary) left

-- what is left to read of a proof is what is known to lie there for its target
abbrev pub IsLeftOf : Option (Option (List ℕ)) → Option (List ℕ) → Type 0
IsLeftOf known left =
    IfSome known (λ lies. (bytes : List ℕ) × (lies ≡ Some bytes) × (left ≡ Some bytes))

-- what was opened for a target, of which this is left to read, or nothing, is what is known to lie
-- there
abbrev pub IsOpenedOf : {T : Type 0} → Option (Option (List ℕ)) → (T → Option (List ℕ)) →
    Option T → Type 0
IsOpenedOf known left found =
    MatchOption found (IsGiven known None) (λ one. IsLeftOf known (left one))
