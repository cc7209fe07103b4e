-- The proof of bytes that spell the numbers of steps has these steps.
use Rattle.std.proofs.Common.{◌≡◌, ℕ, List, length, map, true, ◌∙◌, ap, arith}
use Rattle.std.specs.List.{flat_map, AllByRecursion}
use Rattle.cnf_text.specs.Tokens.{tokens_of}
use Rattle.lrat_text.specs.Grammar.{ProofStep, step_symbols_of}
use Rattle.lrat_text.specs.Decoding.{steps_in}
use Rattle.lrat_text.specs.Proof.{IsProofOf}
use Rattle.lrat_text.proofs.ProofUnique.{worked_out}
use Rattle.lrat_binary.specs.Binary.{capped, numbers_of, text_of}
use Rattle.lrat_binary_words.specs.Symbols.{symbols_at}
use Rattle.lrat_binary_words.specs.Encoding.{IsStepWithin, step_numbers}
use Rattle.lrat_binary_words.proofs.SymbolsText.{symbols_of_text}
use Rattle.lrat_binary_words.proofs.EncodingEncoded.{encoded, all_symbols}
use Rattle.lrat_binary_words.proofs.EncodingDecoded.{decoded}

pub round_trip : (steps : List ProofStep) (bytes : List ℕ) → AllByRecursion IsStepWithin steps
    → numbers_of bytes ≡ flat_map step_numbers steps
    → IsProofOf (text_of bytes) (record { steps = steps; blank = true })
round_trip steps bytes within is =
    let symbols : step_symbols_of (tokens_of (text_of bytes)) ≡ all_symbols steps =
    symbols_of_text bytes
    ∙ ap (λ ns. symbols_at 0 (map capped ns)) is
    ∙ encoded steps within in
    worked_out (text_of bytes) (record { steps = steps; blank = true })
    (ap (λ s. steps_in (length s) s) symbols
    ∙ decoded steps (length (all_symbols steps)) (omega arith) within)
