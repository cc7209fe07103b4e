-- A text that may go on behind a line end.
use Rattle.std.specs.Prelude.{◌≡◌, ◌++◌, ℕ, List, []}
use Rattle.cnf_text.specs.Words.{words_left}
use Rattle.lrat_text.specs.Grammar.{StepSymbol, ProofStep, BeginsWith}
use Rattle.lrat_text.specs.Proof.{Proof}
use Rattle.lrat_text.specs.Decoding.{proof_in, symbols}
use Rattle.lrat_text.specs.declared.step.OpenFault.{OpenFault}
use Rattle.lrat_text.specs.declared.step.OpenFault.TheVariants.{Unreadable, Unfinished, Memory}

-- the proof that a text stands for, from a place within a line on
abbrev pub proof_left : List ℕ → Proof
proof_left text = proof_in (symbols (words_left text))

-- what may follow where this fault is told: anything, or nothing
abbrev pub Allows : OpenFault → List StepSymbol → Type 0
Allows Unreadable more = Unit {0}
Allows Unfinished more = more ≡ []
Allows Memory more = ⊥

-- with some symbols behind them the symbols begin with a step
abbrev pub MayBegin : List StepSymbol → Type 0
MayBegin front =
    (more : List StepSymbol) × (step : ProofStep) × (left : List StepSymbol)
    × (BeginsWith (front ++ more) step left)
