-- The bundle of a formula's file and another text has the formula's clauses first.
use Rattle.std.proofs.Common.{◌≡◌, ◌≢◌, ◌∙◌, sym, ap, refl, subst, ℕ, ◌+◌, List}
use Rattle.std.proofs.Common.{[], ◌∷◌, ◌++◌, length, append_assoc, Option, None, Some}
use Rattle.std.specs.List.{AllByRecursion}
use Rattle.std.specs.Option.{option_map}
use Rattle.case_core.specs.Literal.{Literal}
use Rattle.case_core.specs.Formula.{HasNoModel}
use Rattle.case_core.specs.Tokens.{Token, all_tokens, line_tokens, lines_from, token_lines}
use Rattle.case_core.specs.Icnf.{Item, StandsFor, after_header, clauses_of}
use Rattle.case_core.specs.Icnf.{symbols_of}
use Rattle.case_core.specs.Dimacs.{Problem, problem_of, after_problem, clause_symbols, IsDimacs}
use Rattle.case_core.specs.Bundle.{lines_of, text_before, icnf_text}
use Rattle.case_core.specs.Case.{CaseOf}
use Rattle.case_core.specs.Sections.{IsCaseOf}
use Rattle.case_core.proofs.BundleMore.{no_lines, lines_more}
use Rattle.case_core.proofs.DimacsFormula.{formula_of_tokens}
use Rattle.case_core.proofs.IcnfUnique.{one_text_of, text_of}
use Rattle.proof_folder.proofs.AddedLines.{text_is_lines}
use Rattle.cube_report.specs.Correct.{IsUnsatisfiable}
use Rattle.file_store.specs.Files.{Held, IsJudgedOf}
use Rattle.bundle_files.specs.Formula.{header_over, IsOverwritten, IsUnder}
use Rattle.bundle_files.proofs.LawsFormula.{judged_keeps_items}
use Rattle.bundle_files.proofs.FormulaPlain.{ArePlain, plain_front}
use Rattle.bundle_files.proofs.FormulaLines.{bare_plain, clauses_plain, header_plain, header_tokens}

-- ---- lines one after the other

joined_more : (n : ℕ) (lines more : List (List ℕ)) → (m : ℕ)
    × (all_tokens (lines_from n (lines ++ more))
    ≡ all_tokens (lines_from n lines) ++ all_tokens (lines_from m more))
joined_more n [] more = (n, refl)
joined_more n (line ∷ lines) more =
    let found = joined_more (n + 1) lines more in (
      found.0,
      ap (λ (t : List Token). line_tokens n line ++ t) found.1
          ∙ sym (append_assoc (line_tokens n line) (all_tokens (lines_from (n + 1) lines))
          (all_tokens (lines_from found.0 more))),
    )

-- ---- below the problem line, and below the header over it

problem_first : (tokens : List Token) (lines : List (List Token)) → tokens ≢ []
    → after_problem (tokens ∷ lines)
    ≡ option_map {U = Problem × List Token} (λ (problem : Problem). (problem, all_tokens lines))
    (problem_of tokens)
problem_first [] lines some = absurd (some refl)
problem_first (token ∷ tokens) lines some = refl

below_is : (found : Option Problem) (below : List Token) (problem : Problem) (tokens : List Token)
    → option_map {U = Problem × List Token} (λ (p : Problem). (p, below)) found
    ≡ Some (problem, tokens)
    → (found ≡ Some problem) × (below ≡ tokens)
below_is None below problem tokens is = absurd (cc)
below_is (Some p) below problem tokens is =
    let pair : (p, below) ≡ (problem, tokens) = cc in (
      ap (λ (x : Problem × List Token). Some x.0) pair,
      ap (λ (x : Problem × List Token). x.1) pair,
    )

-- the lines before it have no token
pub record IsBelow (n : ℕ) (line : List ℕ) (after : List (List ℕ)) (problem : Problem)
    (tokens : List Token) : Type 0 where
  pub at : ℕ
  pub problem_is : problem_of (line_tokens at line) ≡ Some problem
  pub tokens_are : all_tokens (lines_from (at + 1) after) ≡ tokens

pub below_problem : (n : ℕ) (before : List (List ℕ)) (line : List ℕ) (after : List (List ℕ))
    (problem : Problem) (tokens : List Token)
    → AllByRecursion (λ other. (m : ℕ) → line_tokens m other ≡ []) before
    → ((m : ℕ) → line_tokens m line ≢ [])
    → after_problem (lines_from n (before ++ line ∷ after)) ≡ Some (problem, tokens)
    → IsBelow n line after problem tokens
below_problem n [] line after problem tokens bare first is =
    let found =
    below_is (problem_of (line_tokens n line))
    (all_tokens (lines_from (n + 1) after)) problem tokens
    (sym (problem_first (line_tokens n line) (lines_from (n + 1) after) (first n)) ∙ is) in
    record { at = n; problem_is = found.0; tokens_are = found.1 }
below_problem n (other ∷ before) line after problem tokens bare first is =
    let same : after_problem (lines_from (n + 1) (before ++ line ∷ after))
    ≡ Some (problem, tokens) = rw (bare.0 n) at is in
    let more = below_problem (n + 1) before line after problem tokens bare.1 first same in
    record { at = more.at; problem_is = more.problem_is; tokens_are = more.tokens_are }

-- what is below the header are the formula's tokens, and then those of the other lines
pub below_header : (n : ℕ) (before : List (List ℕ)) (line : List ℕ)
    (after others : List (List ℕ)) (problem : Problem) (tokens : List Token)
    → AllByRecursion (λ other. (m : ℕ) → line_tokens m other ≡ []) before
    → ((m : ℕ) → line_tokens m line ≢ [])
    → after_problem (lines_from n (before ++ line ∷ after)) ≡ Some (problem, tokens)
    → (m : ℕ)
    × (after_header (lines_from n ((before ++ header_over line ∷ after) ++ others))
    ≡ Some (tokens ++ all_tokens (lines_from m others)))
below_header n [] line after others problem tokens bare first is =
    let found =
    below_is (problem_of (line_tokens n line))
    (all_tokens (lines_from (n + 1) after)) problem tokens
    (sym (problem_first (line_tokens n line) (lines_from (n + 1) after) (first n)) ∙ is) in
    let more = joined_more (n + 1) after others in (
      more.0,
      rw (header_tokens n line)
          (ap Some (more.1
          ∙ ap (λ (t : List Token). t ++ all_tokens (lines_from more.0 others)) found.1)),
    )
below_header n (other ∷ before) line after others problem tokens bare first is =
    let same : after_problem (lines_from (n + 1) (before ++ line ∷ after))
    ≡ Some (problem, tokens) = rw (bare.0 n) at is in
    let more = below_header (n + 1) before line after others problem tokens bare.1 first same in
    (more.0, rw (bare.0 n) more.1)

all_plain : (before after : List (List ℕ)) (line : List ℕ)
    → AllByRecursion (λ other. (m : ℕ) → line_tokens m other ≡ []) before
    → ArePlain after
    → ArePlain (before ++ header_over line ∷ after)
all_plain [] after line bare plain = (header_plain line, plain)
all_plain (other ∷ before) after line bare plain =
    (bare_plain other bare.0, all_plain before after line bare.1 plain)

-- ---- the whole bundle

pub by_lines : {T : Type 0} (f : List (List Token) → T) (n : ℕ) (text : List ℕ)
    → f (token_lines n text) ≡ f (lines_from n (lines_of text))
unfolding token_lines
by_lines f n text = refl

-- no line of the text with the header over its problem line is a label line
pub over_plain : (text over : List ℕ) (formula : List (List Literal)) → IsDimacs text formula
    → IsOverwritten text over
    → ArePlain (lines_of over)
over_plain text over formula is made =
    let there : after_problem (lines_from 1 (made.before ++ made.line ∷ made.after))
    ≡ Some (is.problem, is.has.tokens) =
    ap (λ (l : List (List ℕ)). after_problem (lines_from 1 l)) (sym made.lines)
    ∙ sym (by_lines after_problem 1 text) ∙ is.has.below in
    let below =
    below_problem 1 made.before made.line made.after is.problem is.has.tokens made.bare made.first
    there in
    subst ArePlain (sym made.header)
    (all_plain made.before made.after made.line made.bare
    (clauses_plain [] (below.at + 1) made.after formula
    (ap clause_symbols below.tokens_are ∙ is.has.written)))

-- it stands before the iCNF text of what follows it
pub over_first : (text over rest : List ℕ) (formula : List (List Literal)) → IsDimacs text formula
    → IsOverwritten text over
    → icnf_text (over ++ 10 ∷ rest) ≡ over ++ 10 ∷ icnf_text rest
over_first text over rest formula is made =
    ap text_before (lines_more over rest)
    ∙ plain_front (lines_of over) (lines_of rest) (over_plain text over formula is made)
    (no_lines over) (no_lines rest)
    ∙ ap (λ (t : List ℕ). t ++ 10 ∷ text_before (lines_of rest)) (text_is_lines over)

-- the tokens below the bundle's header are the formula's, and then those of what follows it
pub bundle_tokens : (text over rest : List ℕ) (formula : List (List Literal))
    → (is : IsDimacs text formula) → IsOverwritten text over
    → (m : ℕ)
    × (after_header (token_lines 1 (icnf_text (over ++ 10 ∷ rest)))
    ≡ Some (is.has.tokens ++ all_tokens (lines_from m (lines_of (icnf_text rest)))))
bundle_tokens text over rest formula is made =
    let there : after_problem (lines_from 1 (made.before ++ made.line ∷ made.after))
    ≡ Some (is.problem, is.has.tokens) =
    ap (λ (l : List (List ℕ)). after_problem (lines_from 1 l)) (sym made.lines)
    ∙ sym (by_lines after_problem 1 text) ∙ is.has.below in
    let front = over_first text over rest formula is made in
    let found =
    below_header 1 made.before made.line made.after (lines_of (text_before (lines_of rest)))
    is.problem is.has.tokens made.bare made.first there in (
      found.0,
      ap (λ (t : List ℕ). after_header (token_lines 1 t)) front
          ∙ by_lines after_header 1 (over ++ 10 ∷ text_before (lines_of rest))
          ∙ ap (λ (l : List (List ℕ)). after_header (lines_from 1 l))
          (lines_more over (text_before (lines_of rest))
          ∙ ap (λ (l : List (List ℕ)). l ++ lines_of (text_before (lines_of rest))) made.header)
          ∙ found.1,
    )

pub some_tokens : (a b : List Token) → Some a ≡ Some b → a ≡ b
some_tokens a b e = cc

-- a bundle that adds no clause has the formula's clauses
pub bundle_formula : (text over rest : List ℕ) (formula : List (List Literal)) (items : List Item)
    → (is : IsDimacs text formula) → IsOverwritten text over
    → StandsFor (icnf_text (over ++ 10 ∷ rest)) items
    → length (clauses_of items) ≡ length formula → clauses_of items ≡ formula
bundle_formula text over rest formula items is made stands count =
    let found = bundle_tokens text over rest formula is made in
    formula_of_tokens is.has.tokens (all_tokens (lines_from found.0 (lines_of (icnf_text rest))))
    formula items is.has.written
    (ap symbols_of (some_tokens _ stands.0 (sym found.1 ∙ stands.1)) ∙ stands.2.0) count

-- so where the bundle has no model, the published formula has none
pub published : (has : List ℕ → List ℕ → Type 0) (held : Held) (path : List ℕ)
    (file input folder : Option (List ℕ)) (read whole : List ℕ) (case : CaseOf)
    → IsUnder has path file input read → IsJudgedOf held folder read whole
    → IsCaseOf whole case → IsUnsatisfiable read
    → (text : List ℕ) × has path text
    × (formula : List (List Literal)) × IsDimacs text formula × HasNoModel formula
published has held path file input folder read whole case under judged is none =
    let stands : StandsFor (icnf_text read) is.items =
    judged_keeps_items held folder read whole is.items judged is.text in
    let same : clauses_of is.items ≡ under.formula =
    bundle_formula under.text under.over under.rest under.formula is.items under.dimacs
    under.overwritten
    (subst (λ (t : List ℕ). StandsFor (icnf_text t) is.items) under.whole stands)
    (under.no_clause_more is.items stands) in
    let one : none.1.0 ≡ is.items =
    one_text_of (icnf_text read) none.1.0 is.items none.1.1
    (text_of (icnf_text read) is.items stands) in (
      under.text,
      under.given,
      under.formula,
      under.dimacs,
      subst HasNoModel (none.1.2 ∙ ap clauses_of one ∙ same) none.2,
    )
