-- Symbols with more behind them, and what is left of a text that goes on behind a line end.
use Rattle.std.proofs.Common.{◌≡◌, ℕ, ◌≤◌, true, false, List, [], ◌∷◌, ◌++◌}
use Rattle.std.proofs.Common.{map, refl, sym, ◌∙◌, ap, subst, append_assoc}
use Rattle.std.proofs.lemmas.List.{map-append}
use Rattle.std.proofs.lemmas.Simd.{map-map}
use Rattle.std.specs.List.{AllByRecursion}
use Rattle.cnf_text.specs.Literal.{Literal, IsVariable}
use Rattle.cnf_text.specs.Tokens.{Token, tokens_of}
use Rattle.cnf_text.specs.Words.{words_left}
use Rattle.cnf_text.proofs.WordsMore.{words_more, words_begun, words_ended}
use Rattle.lrat_text.specs.declared.steps.Stop.{Stop}
use Rattle.lrat_text.specs.declared.steps.Stop.TheVariants as stops
use Rattle.lrat_text.specs.Grammar.{StepSymbol, step_symbol_of, step_symbols_of, positive, negative}
use Rattle.lrat_text.specs.Grammar.{signed, end_mark, IsId, HintGroup, IsGroup, hint_symbols}
use Rattle.lrat_text.specs.Grammar.{ProofStep, Add, Delete, DeleteMark, BeginsWith}
use Rattle.lrat_text.specs.declared.words.Word.{Word}
use Rattle.lrat_text.specs.declared.words.Word.TheVariants as words
use Rattle.lrat_text.specs.StepWords.{NoStep, ends_behind}
use Rattle.lrat_text.specs.Inner.Steps.{stop_symbol, IsRun, NoRun, IsLiterals, NoLiterals}
use Rattle.lrat_text.specs.Inner.Steps.{NoHints, IsIds, IsHints}
use Rattle.lrat_text.specs.Decoding.{is_none_left, proof_in, symbols}
use Rattle.lrat_text.specs.Proof.{Proof, IsProofOf}
use Rattle.lrat_text.specs.Open.{proof_left, MayBegin}
use Rattle.lrat_text.proofs.GrammarDecoding.{stuck_run, stuck_literals, no_hints_after}
use Rattle.lrat_text.proofs.GrammarDecoding.{hints_nil, addition_begins, deletion_begins}
use Rattle.lrat_text.proofs.GrammarDecoding.{none_ended}
use Rattle.lrat_text.proofs.BufferGroups.{all_push}
use Rattle.lrat_text.proofs.ProofFronts.{none-no_step}
use Rattle.lrat_text.proofs.ProofSteps.{proof_in-step, proof_in-none}
use Rattle.lrat_text.proofs.ProofUnique.{proof_is}

pub begins_more : (symbols left more : List StepSymbol) (step : ProofStep) →
    BeginsWith symbols step left → BeginsWith (symbols ++ more) step (left ++ more)
begins_more symbols left more step begins =
    (begins.0, begins.1, ap (λ s. s ++ more) begins.2 ∙ append_assoc begins.0 left more)

pub run_more : (t left more : List StepSymbol) (xs : List ℕ) (stop : Stop) →
    IsRun t xs stop left → IsRun (t ++ more) xs stop (left ++ more)
run_more t left more xs stop run = (
  run.0,
  run.1,
  ap (λ s. s ++ more) run.2 ∙ append_assoc (map positive xs) (stop_symbol stop ∷ left) more,
)

pub literals_more : (t left more : List StepSymbol) (ls : List Literal) →
    IsLiterals t ls left → IsLiterals (t ++ more) ls (left ++ more)
literals_more t left more ls found =
    (found.0, ap (λ s. s ++ more) found.1 ∙ append_assoc (map signed ls) (end_mark ∷ left) more)

pub stuck_run_more : (start left more : List StepSymbol) (xs : List ℕ) →
    start ≡ map positive xs ++ left → AllByRecursion IsId xs → NoRun (left ++ more) →
    NoRun (start ++ more)
stuck_run_more start left more xs is all none =
    stuck_run (start ++ more) (left ++ more) xs
    (ap (λ s. s ++ more) is ∙ append_assoc (map positive xs) left more) all none

pub stuck_literals_more : (start left more : List StepSymbol) (ls : List Literal) →
    start ≡ map signed ls ++ left →
    AllByRecursion (λ literal. IsVariable literal.variable) ls →
    NoLiterals (left ++ more) → NoLiterals (start ++ more)
stuck_literals_more start left more ls is all none =
    stuck_literals (start ++ more) (left ++ more) ls
    (ap (λ s. s ++ more) is ∙ append_assoc (map signed ls) left more) all none

pub no_hints_after_more : (hints : List ℕ) (groups : List HintGroup) (k : ℕ)
    (t more : List StepSymbol) → AllByRecursion IsId hints → AllByRecursion IsGroup groups →
    NoHints (t ++ more) → NoHints ((hint_symbols hints groups ++ negative k ∷ t) ++ more)
no_hints_after_more hints groups k t more all each none =
    subst NoHints (sym (append_assoc (hint_symbols hints groups) (negative k ∷ t) more))
    (no_hints_after hints groups k (t ++ more) all each none)

-- ---- what an end mark would make of symbols

-- ids
pub run_ends : (t left : List StepSymbol) (xs : List ℕ) → AllByRecursion IsId xs →
    t ≡ map positive xs ++ left → left ≡ [] → IsRun (t ++ end_mark ∷ []) xs stops.End []
run_ends t left xs all is none = (
  all,
  tt,
  ap (λ s. s ++ end_mark ∷ []) (is ∙ ap (λ s. map positive xs ++ s) none)
      ∙ append_assoc (map positive xs) [] (end_mark ∷ []),
)

-- the ids of a run
pub ids_of_run : (t : List StepSymbol) → ((run : List ℕ) × IsRun t run stops.End []) →
    (ids : List ℕ) × IsIds t ids []
ids_of_run t run = (run.0, (run.1.0, run.1.2))

-- hints without groups
pub hints_of_run : (t : List StepSymbol) → ((run : List ℕ) × IsRun t run stops.End []) →
    (hints : List ℕ) × (groups : List HintGroup) × IsHints t hints groups []
hints_of_run t run =
    (run.0, [], (run.1.0, tt, run.1.2 ∙ sym (hints_nil run.0 (end_mark ∷ []))))

-- literals behind which nothing is left
pub literals_end : (t left : List StepSymbol) (ls : List Literal) → t ≡ map signed ls ++ left
    → left ≡ [] → AllByRecursion (λ literal. IsVariable literal.variable) ls
    → (literals : List Literal) × IsLiterals (t ++ end_mark ∷ []) literals []
literals_end t left ls is none all = (
  ls,
  (
    all,
    ap (λ s. s ++ end_mark ∷ []) (is ∙ ap (λ s. map signed ls ++ s) none)
        ∙ append_assoc (map signed ls) [] (end_mark ∷ []),
  ),
)

-- one literal more
literal_on : (whole : List StepSymbol) (ls : List Literal) (l : Literal) (symbol : StepSymbol)
    (between : ℕ → List StepSymbol) (word : Word) →
    whole ≡ map signed ls ++ symbol ∷ between (ends_behind word 1) → symbol ≡ signed l →
    (word ≡ words.End → ⊥) → whole ≡ map signed (ls ++ l ∷ []) ++ between 2
literal_on whole ls l symbol between word is last other =
    is
    ∙ ap (λ s. map signed ls ++ s ∷ between (ends_behind word 1)) last
    ∙ ap (λ s. map signed ls ++ signed l ∷ s) (ap between (none_ended word 1 other))
    ∙ sym (append_assoc (map signed ls) (signed l ∷ []) (between 2))
    ∙ ap (λ s. s ++ between 2) (sym (map-append signed ls (l ∷ [])))

-- some literals more
pub run_on : (whole between left : List StepSymbol) (ls run : List Literal) →
    whole ≡ map signed ls ++ between → between ≡ map signed run ++ left →
    whole ≡ map signed (ls ++ run) ++ left
run_on whole between left ls run is more =
    is
    ∙ ap (λ s. map signed ls ++ s) more
    ∙ sym (append_assoc (map signed ls) (map signed run) left)
    ∙ ap (λ s. s ++ left) (sym (map-append signed ls run))

-- one literal more, and some behind it
pub literals_on : (whole left : List StepSymbol) (ls run pushed all : List Literal) (l : Literal)
    (symbol : StepSymbol) (between : ℕ → List StepSymbol) (word : Word) →
    whole ≡ map signed ls ++ symbol ∷ between (ends_behind word 1) → symbol ≡ signed l →
    (word ≡ words.End → ⊥) → pushed ≡ ls ++ l ∷ [] → all ≡ pushed ++ run
    → between 2 ≡ map signed run ++ left → whole ≡ map signed all ++ left
literals_on whole left ls run pushed all l symbol between word is last other push more run_is =
    rw (more, push)
    (run_on whole (between 2) left (ls ++ l ∷ []) run
    (literal_on whole ls l symbol between word is last other) run_is)

-- and the word behind these
pub literals_next : (whole left after : List StepSymbol) (ls run pushed all : List Literal)
    (l : Literal) (symbol : StepSymbol) (between : ℕ → List StepSymbol) (word : Word) →
    whole ≡ map signed ls ++ symbol ∷ between (ends_behind word 1) → symbol ≡ signed l →
    (word ≡ words.End → ⊥) → pushed ≡ ls ++ l ∷ [] → all ≡ pushed ++ run
    → between 2 ≡ map signed run ++ left → left ≡ after → whole ≡ map signed all ++ after
literals_next whole left after ls run pushed all l symbol between word is last other push more
    run_is next =
    literals_on whole left ls run pushed all l symbol between word is last other push more run_is
    ∙ ap (λ s. map signed all ++ s) next

all_both : (ls run : List Literal) → AllByRecursion (λ literal. IsVariable literal.variable) ls
    → AllByRecursion (λ literal. IsVariable literal.variable) run
    → AllByRecursion (λ literal. IsVariable literal.variable) (ls ++ run)
all_both [] run all more = more
all_both (l ∷ ls) run all more = (all.0, all_both ls run all.1 more)

-- all of them have variables
pub all_on : (ls run pushed all : List Literal) (l : Literal)
    → AllByRecursion (λ literal. IsVariable literal.variable) ls → IsVariable l.variable
    → AllByRecursion (λ literal. IsVariable literal.variable) run → pushed ≡ ls ++ l ∷ []
    → all ≡ pushed ++ run → AllByRecursion (λ literal. IsVariable literal.variable) all
all_on ls run pushed all l each one more push is =
    rw (is, push)
    (all_both (ls ++ l ∷ []) run
    (all_push (λ literal. IsVariable literal.variable) ls l each one) more)

-- an addition of literals without hints
pub literals_then : (id : ℕ) (first : StepSymbol) (t : List StepSymbol) → IsId id →
    ((literals : List Literal)
    × IsLiterals (first ∷ (t ++ end_mark ∷ [])) literals []) → MayBegin (positive id ∷ first ∷ t)
literals_then id first t is found = (
  end_mark ∷ end_mark ∷ [],
  Add (record { id = id; literals = found.0; hints = []; groups = [] }),
  [],
  addition_begins id (first ∷ (t ++ end_mark ∷ end_mark ∷ [])) (end_mark ∷ []) [] found.0 [] [] is
      (subst (λ s. IsLiterals (first ∷ s) found.0 (end_mark ∷ []))
      (append_assoc t (end_mark ∷ []) (end_mark ∷ []))
      (literals_more (first ∷ (t ++ end_mark ∷ [])) [] (end_mark ∷ []) found.0 found.1))
      (tt, tt, refl),
)

-- an addition of literals and hints
pub hints_end : (id : ℕ) (t left : List StepSymbol) (ls : List Literal) → IsId id →
    IsLiterals t ls left →
    ((hints : List ℕ) × (groups : List HintGroup)
    × IsHints (left ++ end_mark ∷ []) hints groups []) → MayBegin (positive id ∷ t)
hints_end id t left ls is literals found = (
  end_mark ∷ [],
  Add (record { id = id; literals = ls; hints = found.0; groups = found.1 }),
  [],
  addition_begins id (t ++ end_mark ∷ []) (left ++ end_mark ∷ []) [] ls found.0 found.1 is
      (literals_more t left (end_mark ∷ []) ls literals) found.2,
)

-- a deletion of ids
pub ids_end : (front : ℕ) (t : List StepSymbol) → front ≤ 4611686018427387904 →
    ((ids : List ℕ) × IsIds (t ++ end_mark ∷ []) ids []) →
    MayBegin (positive front ∷ DeleteMark ∷ t)
ids_end front t bound found = (
  end_mark ∷ [],
  Delete found.0,
  [],
  deletion_begins front (t ++ end_mark ∷ []) [] found.0 bound found.1,
)

-- a deletion of nothing
pub front_alone : (symbol : StepSymbol) (t : List StepSymbol) (front : ℕ) →
    front ≤ 4611686018427387904 → symbol ≡ positive front → t ≡ [] → MayBegin (symbol ∷ t)
front_alone symbol t front bound is none =
    rw (is, none) (
      DeleteMark ∷ end_mark ∷ [],
      Delete [],
      [],
      deletion_begins front (end_mark ∷ []) [] [] bound (tt, refl),
    )

-- ---- what a call of the reader says

-- with a step at the front, and whatever behind
pub open-step : (seen symbols left more : List StepSymbol) (step : ProofStep) →
    seen ≡ symbols → BeginsWith seen step left →
    proof_in (symbols ++ more)
    ≡ record {
      steps = step ∷ (proof_in (left ++ more)).steps;
      blank = (proof_in (left ++ more)).blank;
    }
open-step seen symbols left more step same begins =
    ap (λ s. proof_in (s ++ more)) (sym same)
    ∙ proof_in-step (seen ++ more) step (left ++ more) (begins_more seen left more step begins)

-- with nothing
pub open-blank : (seen symbols : List StepSymbol) → seen ≡ symbols → seen ≡ [] →
    proof_in (symbols ++ []) ≡ record { steps = []; blank = true }
open-blank seen symbols same none =
    ap (λ s. proof_in (s ++ [])) (sym same ∙ none) ∙ proof_in-none [] (none-no_step [] refl)

some_more : (symbols more : List StepSymbol) → (symbols ≡ [] → ⊥) →
    is_none_left (symbols ++ more) ≡ false
some_more [] more some = absurd (some refl)
some_more (symbol ∷ symbols) more some = refl

-- with symbols that begin no step
pub open-nothing : (seen symbols more : List StepSymbol) → seen ≡ symbols →
    NoStep (seen ++ more) → (seen ≡ [] → ⊥) →
    proof_in (symbols ++ more) ≡ record { steps = []; blank = false }
open-nothing seen symbols more same none some =
    ap (λ s. proof_in (s ++ more)) (sym same) ∙ proof_in-none (seen ++ more) none
    ∙ ap (λ blank. record { steps = []; blank = blank }) (some_more seen more some)

-- ---- a text that goes on behind a line end

symbols_more : (text rest : List ℕ) →
    symbols (words_left (text ++ 10 ∷ rest))
    ≡ symbols (words_left text) ++ step_symbols_of (tokens_of rest)
symbols_more text rest =
    ap symbols (words_more text rest)
    ∙ map-append step_symbol_of (words_left text)
    (map (λ (token : Token). token.bytes) (tokens_of rest))
    ∙ ap (λ s. symbols (words_left text) ++ s)
    (map-map step_symbol_of (λ (token : Token). token.bytes) (tokens_of rest))

-- the proof of a text with a rest behind a line end
pub left-more : (text rest : List ℕ) →
    proof_left (text ++ 10 ∷ rest)
    ≡ proof_in (symbols (words_left text) ++ step_symbols_of (tokens_of rest))
left-more text rest = ap proof_in (symbols_more text rest)

-- behind a line end stands a text of whole lines
pub left-begun : (text : List ℕ) (proof : Proof) → IsProofOf text proof →
    proof_left (10 ∷ text) ≡ proof
left-begun text proof is =
    ap proof_in (ap symbols (words_begun text)
    ∙ map-map step_symbol_of (λ (token : Token). token.bytes) (tokens_of text))
    ∙ proof_is text proof is

-- a line end behind a text changes nothing
pub left-ended : (text : List ℕ) → proof_left (text ++ 10 ∷ []) ≡ proof_left text
left-ended text = ap (λ found. proof_in (symbols found)) (words_ended text)
