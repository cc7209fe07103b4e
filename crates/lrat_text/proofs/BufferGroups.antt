-- Groups as runs of a list of ids that grows.
use Rattle.std.proofs.Common.{◌≡◌, ℕ, ◌-◌, ◌≤◌, List, [], ◌∷◌, ◌++◌, take, drop, length, refl, sym}
use Rattle.std.proofs.Common.{◌∙◌, ap, append_assoc, arith, inl, inr}
use Rattle.std.proofs.Math.Seq.{drop-append_seam, take-length}
use Rattle.std.proofs.lemmas.Bool.{cases_lt}
use Rattle.std.proofs.lemmas.List.{take-append-le, drop-append-le, take_rest, length-append}
use Rattle.std.proofs.lemmas.List.{length-drop, map-append}
use Rattle.std.specs.List.{AllByRecursion}
use Rattle.lrat_text.specs.declared.buffer.GroupRun.{GroupRun}
use Rattle.lrat_text.specs.declared.steps.Stop.{Stop}
use Rattle.lrat_text.specs.declared.steps.Stop.TheVariants as stops
use Rattle.lrat_text.specs.Buffer.{ids_between, group_in, groups_in}
use Rattle.lrat_text.specs.Grammar.{StepSymbol, HintGroup, IsId, IsGroup, hint_symbols, positive}
use Rattle.lrat_text.specs.Grammar.{DeleteMark, Delete, BeginsWith, negative, end_mark}
use Rattle.lrat_text.specs.Inner.Steps.{stop_symbol, ends_after, IsStop, IsRun, IsIds, IsHints}
use Rattle.lrat_text.proofs.GrammarDecoding.{hints_push, hints_nil, deletion_begins}

abbrev pub EndsWithin : List ℕ → GroupRun → Type 0
EndsWithin ids run = run.end ≤ length ids

kept_inside : (start end : ℕ) (ids more : List ℕ) → start ≤ length ids → end ≤ length ids →
    ids_between start end (ids ++ more) ≡ ids_between start end ids
kept_inside start end ids more begins within =
    rw (drop-append-le start ids more begins)
    (take-append-le (end - start) (drop start ids) more (omega (arith, length-drop start ids)))

no_room : (start end : ℕ) → end ≤ start → end - start ≡ 0
no_room start end none = omega arith

kept_empty : (start end : ℕ) (ids more : List ℕ) → end ≤ start →
    ids_between start end (ids ++ more) ≡ ids_between start end ids
kept_empty start end ids more none =
    ap (λ n. take n (drop start (ids ++ more))) (no_room start end none)
    ∙ sym (ap (λ n. take n (drop start ids)) (no_room start end none))

-- what lies within the ids stays as it is when more follow
pub kept_between : (start end : ℕ) (ids more : List ℕ) → end ≤ length ids →
    ids_between start end (ids ++ more) ≡ ids_between start end ids
kept_between start end ids more within =
    elim (cases_lt start end) [
      | inl less ↦ kept_inside start end ids more (omega arith) within
      | inr none ↦ kept_empty start end ids more none
    ]

kept_groups : (ids more : List ℕ) (runs : List GroupRun) → AllByRecursion (EndsWithin ids) runs →
    groups_in (ids ++ more) runs ≡ groups_in ids runs
kept_groups ids more [] within = refl
kept_groups ids more (run ∷ runs) within =
    let head : ids_between run.start run.end (ids ++ more) ≡ ids_between run.start run.end ids =
    kept_between run.start run.end ids more within.0 in
    let tail : groups_in (ids ++ more) runs ≡ groups_in ids runs =
    kept_groups ids more runs within.1 in
    rw (head, tail) refl

last_between : (ids more : List ℕ) →
    ids_between (length ids) (length (ids ++ more)) (ids ++ more) ≡ more
last_between ids more = take_rest (ids ++ more) (length ids) ∙ drop-append_seam ids more

abbrev pub group_of : ℕ → List ℕ → HintGroup
group_of candidate hints = record { candidate = candidate; hints = hints }

abbrev pub run_from : ℕ → List ℕ → List ℕ → GroupRun
run_from candidate ids more =
    record { candidate = candidate; start = length ids; end = length (ids ++ more) }

more_groups : (ids more : List ℕ) (runs : List GroupRun) (candidate : ℕ) →
    AllByRecursion (EndsWithin ids) runs
    →
    groups_in (ids ++ more) (runs ++ run_from candidate ids more ∷ [])
    ≡ groups_in ids runs ++ group_of candidate more ∷ []
more_groups ids more runs candidate within =
    map-append (group_in (ids ++ more)) runs (run_from candidate ids more ∷ [])
    ∙ (rw (kept_groups ids more runs within, last_between ids more) refl)

-- What was read of the hints of an addition: leading ones, groups, and what stopped the last run of
-- ids.
pub record HintsRead (ids : List ℕ) (leading : ℕ) (runs : List GroupRun) (stop : Stop)
    (whole left : List StepSymbol) : Type 0 where
  pub room : leading ≤ length ids
  pub within : AllByRecursion (EndsWithin ids) runs
  pub leading_ids : AllByRecursion IsId (ids_between 0 leading ids)
  pub each : AllByRecursion IsGroup (groups_in ids runs)
  pub is_stop : IsStop stop
  pub read : whole
      ≡ hint_symbols (ids_between 0 leading ids) (groups_in ids runs) ++ stop_symbol stop ∷ left

pub all_push : {X : Type 0} (P : X → Type 0) (xs : List X) (x : X) → AllByRecursion P xs → P x →
    AllByRecursion P (xs ++ x ∷ [])
all_push P [] x all here = (here, tt)
all_push P (y ∷ xs) x all here = (all.0, all_push P xs x all.1 here)

still_within : (ids more : List ℕ) (runs : List GroupRun) → AllByRecursion (EndsWithin ids) runs →
    AllByRecursion (EndsWithin (ids ++ more)) runs
still_within ids more [] within = tt
still_within ids more (run ∷ runs) within =
    let first : run.end ≤ length ids = within.0 in
    (omega (arith, length-append ids more), still_within ids more runs within.1)

-- one group more
pub group_read : (ids more : List ℕ) (leading candidate : ℕ) (runs : List GroupRun) (stop : Stop)
    (whole between left : List StepSymbol)
    → HintsRead ids leading runs (stops.Group candidate) whole between →
    IsRun between more stop left
    → HintsRead (ids ++ more) leading (runs ++ run_from candidate ids more ∷ []) stop whole left
group_read ids more leading candidate runs stop whole between left h run =
    let room : leading ≤ length ids = h.room in
    let front : ids_between 0 leading (ids ++ more) ≡ ids_between 0 leading ids =
    kept_between 0 leading ids more h.room in
    let groups : groups_in (ids ++ more) (runs ++ run_from candidate ids more ∷ [])
    ≡ groups_in ids runs ++ group_of candidate more ∷ [] =
    more_groups ids more runs candidate h.within in
    record {
      room = omega (arith, length-append ids more);
      within =
          all_push (EndsWithin (ids ++ more)) runs (run_from candidate ids more)
          (still_within ids more runs h.within) (omega arith);
      leading_ids = rw front h.leading_ids;
      each =
          rw groups (all_push IsGroup (groups_in ids runs) (group_of candidate more) h.each
          (h.is_stop, run.0));
      is_stop = run.1;
      read =
          rw (front, groups)
          (h.read
          ∙ rw (run.2)
          (sym (hints_push (ids_between 0 leading ids) (groups_in ids runs)
          (group_of candidate more) (stop_symbol stop ∷ left))));
    }

all_between : (ids : List ℕ) → ids_between 0 (length ids) ids ≡ ids
all_between ids =
    let whole : length ids - 0 ≡ length ids = omega arith in
    ap (λ n. take n ids) whole ∙ take-length ids

-- the leading hints, with no group yet
pub hints_begin : (cleared ids run : List ℕ) (leading : ℕ) (runs : List GroupRun) (stop : Stop)
    (whole left : List StepSymbol) → cleared ≡ [] → ids ≡ cleared ++ run
    → leading ≡ length ids → runs ≡ [] → IsRun whole run stop left →
    HintsRead ids leading runs stop whole left
hints_begin cleared ids run leading runs stop whole left none more counted no_runs read =
    rw (no_runs, counted, more, none) record {
      room = omega arith;
      within = tt;
      leading_ids = rw (all_between run) read.0;
      each = tt;
      is_stop = read.1;
      read = rw (all_between run) (read.2 ∙ sym (hints_nil run (stop_symbol stop ∷ left)));
    }

-- one group more, as it is pushed
pub hints_more : (ids more grown : List ℕ) (leading candidate start end : ℕ)
    (runs pushed : List GroupRun) (seen stop : Stop) (whole left : List StepSymbol)
    (between : ℕ → List StepSymbol)
    → HintsRead ids leading runs seen whole (between (ends_after seen)) →
    seen ≡ stops.Group candidate →
    grown ≡ ids ++ more → IsRun (between 1) more stop left → start ≡ length ids
    → end ≡ length grown →
    pushed ≡ runs ++ record { candidate = candidate; start = start; end = end } ∷ [] →
    HintsRead grown leading pushed stop whole left
hints_more ids more grown leading candidate start end runs pushed seen stop whole left between h
    group grows run starts ends pushes =
    rw (pushes, ends, starts, grows)
    (group_read ids more leading candidate runs stop whole (between 1) left (rw group at h) run)

-- a deletion of all ids that a buffer has
pub deletion_read : (n count : ℕ) (t left : List StepSymbol) (ids : List ℕ) →
    n ≤ 4611686018427387904 → count ≡ length ids → IsIds t ids left
    → BeginsWith (positive n ∷ DeleteMark ∷ t) (Delete (ids_between 0 count ids)) left
deletion_read n count t left ids bound counted read =
    rw (counted, all_between ids) (deletion_begins n t left ids bound read)

-- hints whose last run would end at an end mark
pub hints_then : (ids : List ℕ) (leading candidate : ℕ) (runs : List GroupRun) (stop : Stop)
    (whole : List StepSymbol) (between : ℕ → List StepSymbol) →
    HintsRead ids leading runs stop whole (between (ends_after stop)) →
    stop ≡ stops.Group candidate →
    ((run : List ℕ) × IsRun (between 1 ++ end_mark ∷ []) run stops.End []) →
    (hints : List ℕ) × (groups : List HintGroup)
    × IsHints (whole ++ end_mark ∷ []) hints groups []
hints_then ids leading candidate runs stop whole between read group run =
    let h = rw group at read in
    let first = ids_between 0 leading ids in
    let groups = groups_in ids runs in
    let last = group_of candidate run.0 in (
      first,
      groups ++ last ∷ [],
      (
        h.leading_ids,
        all_push IsGroup groups last h.each (h.is_stop, run.1.0),
        ap (λ s. s ++ end_mark ∷ []) h.read
            ∙ append_assoc (hint_symbols first groups) (negative candidate ∷ between 1)
            (end_mark ∷ [])
            ∙ ap (λ s. hint_symbols first groups ++ negative candidate ∷ s) run.1.2
            ∙ sym (hints_push first groups last (end_mark ∷ [])),
      ),
    )
