-- Each text stands for items or has a fault: token by token, what was read goes on, or the token is
-- a fault's.
use Rattle.std.proofs.Common.{◌≡◌, ◌≢◌, ◌⊎◌, inl, inr, ⊎_elim, ℕ, ◌<◌, ◌≤◌, List, [], ◌∷◌, ◌++◌}
use Rattle.std.proofs.Common.{length, Option, Some, None, refl, ◌∙◌, subst, arith, append_assoc}
use Rattle.std.proofs.lemmas.List.{append-nil}
use Rattle.std.proofs.lemmas.Bool.Decides.{leb_tells}
use Rattle.cnf_text.specs.declared.icnf.Open.{Open}
use Rattle.cnf_text.specs.declared.icnf.Open.TheVariants.{Nothing, InClause, InCube}
use Rattle.cnf_text.specs.declared.icnf.TextFault.{TextFault}
use Rattle.cnf_text.specs.declared.icnf.TextFault.TheVariants.{Header, Token as BadToken}
use Rattle.cnf_text.specs.declared.icnf.TextFault.TheVariants.{Unfinished, TooLarge, Limit, Memory}
use Rattle.cnf_text.specs.Literal.{Literal}
use Rattle.cnf_text.specs.Tokens.{Token, token_lines}
use Rattle.cnf_text.specs.Icnf.{Symbol, Signed, EndMark, CubeMark, Unknown, symbol_of, symbols_of}
use Rattle.cnf_text.specs.Icnf.{Item, FaultAt, AreItems, IsTokensFault, StandsFor, IsTextFault}
use Rattle.cnf_text.specs.Icnf.{after_header}
use Rattle.cnf_text.specs.Inner.Icnf.{Read}
use Rattle.cnf_text.proofs.IcnfBegins.{within_front}
use Rattle.cnf_text.proofs.IcnfSteps as steps
use Rattle.cnf_text.proofs.IcnfReading.{fault_first, symbols_push}

at_most : (a b : ℕ) → (a ≤ b) ⊎ (b < a)
at_most a b = ⊎_elim (λ h. inl h.1) (λ h. inr h.1) (leb_tells a b)

-- symbols that were read, whatever was read of them
record WasRead (b : List Symbol) : Type 0 where
  state : Open
  literals : List Literal
  clauses : List (List Literal)
  cubes : List (List Literal)
  clause_literals : ℕ
  cube_literals : ℕ
  read : Read state literals clauses cubes clause_literals cube_literals b

was_read : {state : Open} {ls : List Literal} {cls cus : List (List Literal)} {n m : ℕ}
    {b : List Symbol} → Read state ls cls cus n m b → WasRead b
was_read {state} {ls} {cls} {cus} {n} {m} r =
    record {
      state = state;
      literals = ls;
      clauses = cls;
      cubes = cus;
      clause_literals = n;
      cube_literals = m;
      read = r;
    }

-- one symbol more is read, or breaks a rule
abbrev Goes : List Symbol → Symbol → ℕ → Type 0
Goes b s line = WasRead (b ++ s ∷ []) ⊎ ((fault : TextFault) × FaultAt b s line fault)

in_range : (state : Open) (ls : List Literal) (cls cus : List (List Literal)) (n m : ℕ)
    (b : List Symbol) (l : Literal) (line : ℕ) → Read state ls cls cus n m b →
    (l.variable ≤ 268435455 → Goes b (Signed l) line) → Goes b (Signed l) line
in_range state ls cls cus n m b l line r goes =
    ⊎_elim goes (λ large.
    inr (TooLarge line, steps.large_literal state ls cls cus n m b l line r large))
    (at_most l.variable 268435455)

first_literal : (ls : List Literal) (cls cus : List (List Literal)) (n m : ℕ) (b : List Symbol)
    (l : Literal) (line : ℕ) → Read Nothing ls cls cus n m b → l.variable ≤ 268435455 →
    (16777216 ≤ length cls) ⊎ (length cls < 16777216) → (16777216 ≤ n) ⊎ (n < 16777216) →
    Goes b (Signed l) line
first_literal ls cls cus n m b l line r range (inl full) room =
    inr (Limit, steps.begin_clause_full ls cls cus n m b l line r range full)
first_literal ls cls cus n m b l line r range (inr count) (inl full) =
    inr (Limit, steps.begin_clause_no_room ls cls cus n m b l line r range full)
first_literal ls cls cus n m b l line r range (inr count) (inr room) =
    inl (was_read (steps.begin_clause ls cls cus n m b l r range count room))

clause_literal : (ls : List Literal) (cls cus : List (List Literal)) (n m : ℕ) (b : List Symbol)
    (l : Literal) (line : ℕ) → Read InClause ls cls cus n m b → l.variable ≤ 268435455 →
    (16777216 ≤ n) ⊎ (n < 16777216) → Goes b (Signed l) line
clause_literal ls cls cus n m b l line r range (inl full) =
    inr (Limit, steps.add_to_clause_no_room ls cls cus n m b l line r range full)
clause_literal ls cls cus n m b l line r range (inr room) =
    inl (was_read (steps.add_to_clause ls cls cus n m b l r range room))

cube_literal : (ls : List Literal) (cls cus : List (List Literal)) (n m : ℕ) (b : List Symbol)
    (l : Literal) (line : ℕ) → Read InCube ls cls cus n m b → l.variable ≤ 268435455 →
    (16777216 ≤ m) ⊎ (m < 16777216) → (4096 ≤ length ls) ⊎ (length ls < 4096) →
    Goes b (Signed l) line
cube_literal ls cls cus n m b l line r range (inl full) short =
    inr (Limit, steps.add_to_cube_past ls cls cus n m b l line r range (λ room _. omega arith))
cube_literal ls cls cus n m b l line r range (inr room) (inl long) =
    inr (Limit, steps.add_to_cube_past ls cls cus n m b l line r range (λ _ short. omega arith))
cube_literal ls cls cus n m b l line r range (inr room) (inr short) =
    inl (was_read (steps.add_to_cube ls cls cus n m b l r range room short))

cube_mark : (ls : List Literal) (cls cus : List (List Literal)) (n m : ℕ) (b : List Symbol)
    (line : ℕ) → Read Nothing ls cls cus n m b → (1048576 ≤ length cus) ⊎ (length cus < 1048576) →
    Goes b CubeMark line
cube_mark ls cls cus n m b line r (inl full) =
    inr (Limit, steps.begin_cube_full ls cls cus n m b line r full)
cube_mark ls cls cus n m b line r (inr count) =
    inl (was_read (steps.begin_cube ls cls cus n m b r count))

empty_clause : (ls : List Literal) (cls cus : List (List Literal)) (n m : ℕ) (b : List Symbol)
    (line : ℕ) → Read Nothing ls cls cus n m b → (16777216 ≤ length cls) ⊎ (length cls < 16777216) →
    Goes b EndMark line
empty_clause ls cls cus n m b line r (inl full) =
    inr (Limit, steps.end_between_full ls cls cus n m b line r full)
empty_clause ls cls cus n m b line r (inr count) =
    inl (was_read (steps.end_between ls cls cus n m b r count))

step : (state : Open) (ls : List Literal) (cls cus : List (List Literal)) (n m : ℕ)
    (b : List Symbol) (s : Symbol) (line : ℕ) → Read state ls cls cus n m b → Goes b s line
step Nothing ls cls cus n m b (Signed l) line r =
    in_range Nothing ls cls cus n m b l line r
    (λ range. first_literal ls cls cus n m b l line r range (at_most 16777216 (length cls))
    (at_most 16777216 n))
step InClause ls cls cus n m b (Signed l) line r =
    in_range InClause ls cls cus n m b l line r
    (λ range. clause_literal ls cls cus n m b l line r range (at_most 16777216 n))
step InCube ls cls cus n m b (Signed l) line r =
    in_range InCube ls cls cus n m b l line r
    (λ range. cube_literal ls cls cus n m b l line r range (at_most 16777216 m)
    (at_most 4096 (length ls)))
step Nothing ls cls cus n m b EndMark line r =
    empty_clause ls cls cus n m b line r (at_most 16777216 (length cls))
step InClause ls cls cus n m b EndMark line r = inl (was_read (steps.end_clause ls cls cus n m b r))
step InCube ls cls cus n m b EndMark line r = inl (was_read (steps.end_cube ls cls cus n m b r))
step Nothing ls cls cus n m b CubeMark line r =
    cube_mark ls cls cus n m b line r (at_most 1048576 (length cus))
step InClause ls cls cus n m b CubeMark line r =
    inr (BadToken line, steps.cube_in_clause ls cls cus n m b line r)
step InCube ls cls cus n m b CubeMark line r =
    inr (BadToken line, steps.cube_in_cube ls cls cus n m b line r)
step state ls cls cus n m b Unknown line r =
    inr (BadToken line, steps.unknown_symbol state ls cls cus n m b line r)

-- tokens that are those of items, or have a fault
abbrev ItemsOrFault : List Token → Type 0
ItemsOrFault tokens =
    ((items : List Item) × AreItems tokens items)
    ⊎ ((fault : TextFault) × (fault ≢ Memory) × IsTokensFault tokens fault)

at_end : (state : Open) (ls : List Literal) (cls cus : List (List Literal)) (n m : ℕ)
    (tokens : List Token) → Read state ls cls cus n m (symbols_of tokens) → ItemsOrFault tokens
at_end Nothing ls cls cus n m tokens r =
    inl (r.items, (r.written ∙ append-nil _, within_front r.items [] r.within))
at_end InClause ls cls cus n m tokens r =
    inr (
      Unfinished,
      (λ e. cc),
      (
        steps.read_begins InClause ls cls cus n m _ r,
        steps.not_ended InClause ls cls cus n m _ r (λ e. cc),
      ),
    )
at_end InCube ls cls cus n m tokens r =
    inr (
      Unfinished,
      (λ e. cc),
      (
        steps.read_begins InCube ls cls cus n m _ r,
        steps.not_ended InCube ls cls cus n m _ r (λ e. cc),
      ),
    )

no_memory : (b : List Symbol) (s : Symbol) (line : ℕ) (fault : TextFault) → FaultAt b s line fault →
    fault ≢ Memory
no_memory b s line fault broken e = rw e at broken

broken_here : (before : List Token) (token : Token) (after : List Token) →
    WasRead (symbols_of before) → (fault : TextFault) →
    FaultAt (symbols_of before) (symbol_of token.bytes) token.line fault →
    ItemsOrFault (before ++ token ∷ after)
broken_here before token after w fault broken =
    inr (
      fault,
      no_memory _ _ _ fault broken,
      fault_first (before ++ token ∷ after) fault token.line _ _ broken (record {
        before = before;
        token = token;
        after = after;
        parts = refl;
        so_far =
            steps.read_begins w.state w.literals w.clauses w.cubes w.clause_literals w.cube_literals
            _ w.read;
        broken = broken;
      }),
    )

read_on : (before left : List Token) → WasRead (symbols_of before) → ItemsOrFault (before ++ left)
read_on before [] w =
    rw append-nil
    (at_end w.state w.literals w.clauses w.cubes w.clause_literals w.cube_literals before w.read)
read_on before (token ∷ after) w =
    ⊎_elim (λ next.
    subst ItemsOrFault (append_assoc before (token ∷ []) after)
    (read_on (before ++ token ∷ []) after (rw symbols_push next)))
    (λ h. broken_here before token after w h.0 h.1)
    (step w.state w.literals w.clauses w.cubes w.clause_literals w.cube_literals (symbols_of before)
    (symbol_of token.bytes) token.line w.read)

of_header : (text : List ℕ) (header : Option (List Token)) →
    after_header (token_lines 1 text) ≡ header →
    ((items : List Item) × StandsFor text items)
    ⊎ ((fault : TextFault) × (fault ≢ Memory) × IsTextFault text fault)
of_header text None is = inr (Header, (λ e. cc), rw is refl)
of_header text (Some tokens) is =
    ⊎_elim (λ h. inl (h.0, (tokens, is, h.1))) (λ h. inr (h.0, h.1, rw is h.2))
    (read_on [] tokens (was_read steps.nothing_read))

-- each text stands for items or has a fault
pub items_or_a_fault : (text : List ℕ) →
    ((items : List Item) × StandsFor text items)
    ⊎ ((fault : TextFault) × (fault ≢ Memory) × IsTextFault text fault)
items_or_a_fault text = of_header text (after_header (token_lines 1 text)) refl
