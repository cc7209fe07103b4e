-- Where the first line with a token stands, and a header over it.
use Rattle.std.proofs.Common.{◌≡◌, ◌≢◌, ◌∙◌, sym, ap, refl, ℕ, ◌+◌, ◌-◌, ◌≤◌}
use Rattle.std.proofs.Common.{List, [], ◌∷◌, ◌++◌, length, take, drop, append_assoc}
use Rattle.std.proofs.Common.{append-nil, length-append, arith, Option, None, Some, Bor}
use Rattle.std.specs.Prelude.{MatchOption}
use Rattle.std.specs.List.{AllByRecursion}
use Rattle.std.proofs.Math.Seq.{take-append_seam, drop-append_seam, drop-append-add}
use Rattle.case_core.specs.Tokens.{Token, line_tokens, lines_from, token_lines}
use Rattle.case_core.specs.Dimacs.{Problem, after_problem}
use Rattle.case_core.specs.Bundle.{lines_of}
use Rattle.case_core.proofs.BundleMore.{lines_more}
use Rattle.case_core.proofs.DimacsLine.{problem_line_long}
use Rattle.bundle_files.specs.Formula.{header_over, IsOverwritten}
use Rattle.bundle_files.specs.Inner.Formula.{HasProblem, IsFirstLine}
use Rattle.bundle_files.proofs.FormulaLines.{header_one}
use Rattle.bundle_files.proofs.FormulaText.{below_problem, by_lines}

abbrev AreBare : List (List ℕ) → Type 0
AreBare lines = AllByRecursion (λ line. (n : ℕ) → line_tokens n line ≡ []) lines

-- the lines in front of what is left have no token
pub record IsReached (text rest : List ℕ) : Type 0 where
  pub front : List ℕ
  pub before : List (List ℕ)
  pub parts : text ≡ front ++ rest
  pub bare : AreBare before
  pub lines : (more : List ℕ) → lines_of (front ++ more) ≡ before ++ lines_of more

pub nothing_passed : (text : List ℕ) → IsReached text text
nothing_passed text = record {
  front = [];
  before = [];
  parts = refl;
  bare = tt;
  lines = λ more. refl;
}

none_of_them : (some more : List (List ℕ)) → some ++ more ≡ more → some ≡ []
none_of_them [] more is = refl
none_of_them (line ∷ some) more is =
    let many = length-append some more in
    let same : length ((line ∷ some) ++ more) ≡ length more = ap length is in
    absurd (omega arith)

one_of_them : (some more : List (List ℕ)) (line : List ℕ) → some ++ more ≡ line ∷ more
    → some ≡ line ∷ []
one_of_them [] more line is =
    let same : length more ≡ length (line ∷ more) = ap length is in absurd (omega arith)
one_of_them (first ∷ some) more line is =
    let others : some ++ more ≡ more = cc in
    let none = none_of_them some more others in
    let same : first ≡ line = cc in cc

-- a line that was split off is one line
pub line_alone : (text line next : List ℕ) → text ≡ line ++ 10 ∷ next
    → lines_of text ≡ line ∷ lines_of next → lines_of line ≡ line ∷ []
line_alone text line next whole split =
    one_of_them (lines_of line) (lines_of next) line
    (sym (lines_more line next) ∙ ap lines_of (sym whole) ∙ split)

bare_push : (before : List (List ℕ)) (line : List ℕ) → AreBare before
    → ((n : ℕ) → line_tokens n line ≡ []) → AreBare (before ++ line ∷ [])
bare_push [] line all one = (one, tt)
bare_push (other ∷ before) line all one = (all.0, bare_push before line all.1 one)

line_regroup : (front line more : List ℕ)
    → (front ++ (line ++ 10 ∷ [])) ++ more ≡ front ++ (line ++ 10 ∷ more)
line_regroup front line more =
    append_assoc front (line ++ 10 ∷ []) more
    ∙ ap (λ (t : List ℕ). front ++ t) (append_assoc line (10 ∷ []) more)

-- one bare line more is passed
pub line_passed : (text rest line next : List ℕ) → IsReached text rest
    → ((n : ℕ) → line_tokens n line ≡ []) → rest ≡ line ++ 10 ∷ next
    → lines_of rest ≡ line ∷ lines_of next → IsReached text next
line_passed text rest line next r bare whole split =
    let one = line_alone rest line next whole split in
    record {
      front = r.front ++ (line ++ 10 ∷ []);
      before = r.before ++ line ∷ [];
      parts =
          r.parts ∙ ap (λ (t : List ℕ). r.front ++ t) whole ∙ sym (line_regroup r.front line next);
      bare = bare_push r.before line r.bare bare;
      lines = λ more.
          ap lines_of (line_regroup r.front line more) ∙ r.lines (line ++ 10 ∷ more)
          ∙ ap (λ (l : List (List ℕ)). r.before ++ l)
          (lines_more line more ∙ ap (λ (l : List (List ℕ)). l ++ lines_of more) one)
          ∙ sym (append_assoc r.before (line ∷ []) (lines_of more));
    }

none_below : (n : ℕ) (lines : List (List ℕ)) → AreBare lines →
    after_problem (lines_from n lines) ≡ None
none_below n [] bare = refl
none_below n (line ∷ lines) bare = rw (bare.0 n) (none_below (n + 1) lines bare.1)

some_problem : (found : Option (Problem × List Token)) (p : Problem × List Token) → found ≡ None
    → found ≡ Some p → ⊥
some_problem found p none some = let both : None ≡ Some p = sym none ∙ some in cc

-- the last line was reached, and it is bare: then there is no problem line
pub none_reached : (text rest line : List ℕ) → HasProblem text → IsReached text rest
    → ((n : ℕ) → line_tokens n line ≡ []) → lines_of rest ≡ line ∷ [] → ⊥
none_reached text rest line has r bare last =
    let all : lines_of text ≡ r.before ++ line ∷ [] =
    ap lines_of r.parts ∙ r.lines rest ∙ ap (λ (l : List (List ℕ)). r.before ++ l) last in
    some_problem (after_problem (token_lines 1 text)) (has.0, has.1)
    (by_lines after_problem 1 text ∙ ap (λ (l : List (List ℕ)). after_problem (lines_from 1 l)) all
    ∙ none_below 1 (r.before ++ line ∷ []) (bare_push r.before line r.bare bare)) has.2

first_long : (text : List ℕ) (before after : List (List ℕ)) (line : List ℕ) → HasProblem text
    → AreBare before → ((n : ℕ) → line_tokens n line ≢ []) → lines_of text ≡ before ++ line ∷ after
    → 9 ≤ length line
first_long text before after line has bare first lines =
    let below =
    below_problem 1 before line after has.0 has.1 bare first
    (ap (λ (l : List (List ℕ)). after_problem (lines_from 1 l)) (sym lines)
    ∙ sym (by_lines after_problem 1 text) ∙ has.2) in
    problem_line_long below.at line has.0 below.problem_is

-- the first line with a token was reached, with this behind it
first_at : (text rest line tail : List ℕ) (after : List (List ℕ)) (start count : ℕ)
    → HasProblem text → (r : IsReached text rest) → ((n : ℕ) → line_tokens n line ≢ [])
    → rest ≡ line ++ tail → lines_of rest ≡ line ∷ after → lines_of line ≡ line ∷ []
    → ((other : List ℕ) → lines_of other ≡ other ∷ [] → lines_of (other ++ tail) ≡ other ∷ after)
    → start ≡ length text - length rest → count ≡ length line → IsFirstLine text start count
first_at text rest line tail after start count has r first whole split one more start_is count_is =
    let all : length text ≡ length r.front + length rest =
    ap length r.parts ∙ length-append r.front rest in
    let long =
    first_long text r.before after line has r.bare first
    (ap lines_of r.parts ∙ r.lines rest ∙ ap (λ (l : List (List ℕ)). r.before ++ l) split) in
    record {
      front = r.front;
      line = line;
      tail = tail;
      before = r.before;
      after = after;
      parts = r.parts ∙ ap (λ (t : List ℕ). r.front ++ t) whole;
      start_is = omega arith;
      count_is = count_is;
      long = omega arith;
      bare = r.bare;
      first = first;
      one = one;
      lines = λ other alone.
          r.lines (other ++ tail) ∙ ap (λ (l : List (List ℕ)). r.before ++ l) (more other alone);
    }

pub first_reached : (text rest line : List ℕ) (below : Option (Bor (List ℕ))) (start count : ℕ)
    → HasProblem text → IsReached text rest → ((n : ℕ) → line_tokens n line ≢ [])
    → MatchOption below (lines_of rest ≡ line ∷ [])
    (λ next. lines_of rest ≡ line ∷ lines_of next.now)
    → MatchOption below (line ≡ rest) (λ next. rest ≡ line ++ 10 ∷ next.now)
    → start ≡ length text - length rest → count ≡ length line → IsFirstLine text start count
first_reached text rest line None start count has r first split whole start_is count_is =
    first_at text rest line [] [] start count has r first (sym whole ∙ sym (append-nil line)) split
    (ap lines_of whole ∙ split)
    (λ other alone. ap lines_of (append-nil other) ∙ alone) start_is count_is
first_reached text rest line (Some next) start count has r first split whole start_is count_is =
    first_at text rest line (10 ∷ next.now) (lines_of next.now) start count has r first whole split
    (line_alone rest line next.now whole split)
    (λ other alone. lines_more other next.now
    ∙ ap (λ (l : List (List ℕ)). l ++ lines_of next.now) alone) start_is count_is

-- ---- the header over it

-- a text of three parts with a header over the second
parts_over : (text front line tail : List ℕ) (start count : ℕ) → text ≡ front ++ (line ++ tail)
    → start ≡ length front → count ≡ length line
    → take start text ++ (header_over (take count (drop start text)) ++ drop (start + count) text)
    ≡ front ++ (header_over line ++ tail)
parts_over text front line tail start count whole start_is count_is =
    rw (whole, start_is, count_is)
    (let first = take-append_seam front (line ++ tail) in
    let second : take (length line) (drop (length front) (front ++ (line ++ tail))) ≡ line =
    ap (take (length line)) (drop-append_seam front (line ++ tail)) ∙ take-append_seam line tail in
    let third : drop (length front + length line) (front ++ (line ++ tail)) ≡ tail =
    drop-append-add front (line ++ tail) (length line) ∙ drop-append_seam line tail in cc)

pub overwritten : (text over : List ℕ) (start count : ℕ) → IsFirstLine text start count
    → over ≡ take start text ++ (header_over (take count (drop start text))
    ++ drop (start + count) text) → IsOverwritten text over
overwritten text over start count at is =
    let made : over ≡ at.front ++ (header_over at.line ++ at.tail) =
    is
    ∙ parts_over text at.front at.line at.tail start count at.parts at.start_is at.count_is in
    record {
      before = at.before;
      line = at.line;
      after = at.after;
      lines = ap lines_of at.parts ∙ at.lines at.line at.one;
      bare = at.bare;
      first = at.first;
      header = ap lines_of made ∙ at.lines (header_over at.line) (header_one at.line);
    }
