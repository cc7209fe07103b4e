-- What is said of a run on one proof, in the place of cubes and proofs.
use Rattle.std.proofs.Common.{◌≡◌, refl, subst, ℕ, Bool, List}
use Rattle.std.proofs.Common.{Option, None, Some, Result, Ok, Err, IfOk}
use Rattle.cube_report.specs.Fault.{Fault}
use Rattle.bundle_files.specs.Files.{Held, IsTextAt}
use Rattle.bundle_files.specs.Formula.{IsBundleBy, IsBundleOf}
use Rattle.cube_command.specs.Sources.{IsSoBy, sources_of}
use Rattle.cube_command.specs.Words.{Asked}
use Rattle.cube_command.specs.Inner.Recorded.{IsRecordedFor, IsRecordedFrom}
use Rattle.cube_command.specs.declared.program.Recorded.{Recorded}

-- ---- where nothing is known of what lies at a path

text_at : (has : List ℕ → List ℕ → Type 0) (file : Option (List ℕ)) (text rest : List ℕ) →
    IsTextAt has file (Some text) rest → IsTextAt has file None rest
text_at has None text rest at = tt
text_at has (Some path) text rest at = at

pub bundle_by : (has : List ℕ → List ℕ → Type 0) (formula file : Option (List ℕ))
    (text read : List ℕ)
    → IsBundleBy has formula file (Some text) read → IsBundleBy has formula file None read
bundle_by has None file text read by = text_at has file text read by
bundle_by has (Some path) file text read by = record {
  text = by.text;
  given = by.given;
  formula = by.formula;
  dimacs = by.dimacs;
  over = by.over;
  overwritten = by.overwritten;
  rest = by.rest;
  is_rest = text_at has file text by.rest by.is_rest;
  whole = by.whole;
  no_clause_more = by.no_clause_more;
}

-- ---- what is so of what is asked for

recorded_by : (held : Held) (asked : Asked) (proof input : Option (List ℕ))
    (report map : List ℕ) (answer : Bool) (made : List ℕ) → proof ≡ asked.proof
    → IsSoBy held proof input
    (λ given. IsRecordedFrom held asked given report map answer made)
    → IsRecordedFor held asked input report map answer made
recorded_by held asked None input report map answer made same run = record {
  read = run.read;
  whole = run.whole;
  bundle = subst (λ (p : Option (List ℕ)). IsSoBy held p input (λ given. IsBundleOf held
      (sources_of asked) asked.folder given run.read run.whole)) same run.bundle;
  outcome = run.outcome;
  recorded = run.recorded;
}
recorded_by held asked (Some path) input report map answer made same run =
    let one = run.2 in record {
      read = one.read;
      whole = one.whole;
      bundle =
          subst (λ (p : Option (List ℕ)). IsSoBy held p input (λ given. IsBundleOf held
          (sources_of asked) asked.folder given one.read one.whole)) same
          (run.0, run.1, one.bundle);
      outcome = one.outcome;
      recorded = one.recorded;
    }

pub recorded_for : (run : Result Recorded Fault) (held : Held) (asked : Asked)
    (input : Option (List ℕ))
    → IfOk run (λ made. IsSoBy held asked.proof input
    (λ given. IsRecordedFrom held asked given made.outcome.text.items made.outcome.map.items
    made.outcome.refuted made.bytes.items))
    → IfOk run (λ made. IsRecordedFor held asked input made.outcome.text.items
    made.outcome.map.items made.outcome.refuted made.bytes.items)
recorded_for (Err fault) held asked input made = tt
recorded_for (Ok recorded) held asked input made =
    recorded_by held asked asked.proof input recorded.outcome.text.items
    recorded.outcome.map.items recorded.outcome.refuted recorded.bytes.items refl made
