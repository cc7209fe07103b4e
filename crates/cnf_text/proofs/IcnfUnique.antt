-- A text stands for one list of items at most, and then has no fault.
use Rattle.std.proofs.Common.{◌≡◌, ◌≢◌, Result, Ok, Err, Option, None, MatchOption, ℕ, List, []}
use Rattle.std.proofs.Common.{◌∷◌, ◌++◌, refl, sym, ◌∙◌, ap, append_assoc, Some}
use Rattle.std.proofs.lemmas.List.{append-nil, map-append}
use Rattle.std.specs.Prelude.{IfOk, IfErr, MatchResult}
use Rattle.std.specs.Option.{option_map}
use Rattle.cnf_text.specs.declared.icnf.IcnfFile.{IcnfFile}
use Rattle.cnf_text.specs.Icnf.{IsFileOf, Symbol, symbol_of, symbols_of, Item, spelled, Within}
use Rattle.cnf_text.specs.Icnf.{Begins, FaultAt, FaultAtFirst, IsTokensFault, AreItems, IsTextOf}
use Rattle.cnf_text.specs.Icnf.{StandsFor, IsTextFault, after_header}
use Rattle.cnf_text.specs.declared.icnf.TextFault.{TextFault}
use Rattle.cnf_text.specs.declared.icnf.TextFault.TheVariants.{Header, Token as BadToken}
use Rattle.cnf_text.specs.declared.icnf.TextFault.TheVariants.{Unfinished, TooLarge, Limit, Memory}
use Rattle.cnf_text.specs.Tokens.{Token, token_lines}
use Rattle.cnf_text.proofs.IcnfItems.{items_in_front, some_symbol}
use Rattle.cnf_text.proofs.ListPlaces.{Places, Same, Earlier, Later, places}

none_more : (more : List Item) → spelled more ≡ [] → more ≡ []
none_more [] e = refl
none_more (item ∷ items) e = absurd (some_symbol item (spelled items) (sym e))

pub one_spelling : (a b : List Item) → spelled a ≡ spelled b → a ≡ b
one_spelling a b e =
    let found = items_in_front b a [] (e ∙ sym (append-nil (spelled b))) in
    found.1 ∙ ap (λ m. b ++ m) (none_more found.0 found.2) ∙ append-nil b

-- a fault's token is none of a list of items within the limits
pub broken_anyway : (before : List Symbol) (s : Symbol) (line : ℕ) (fault : TextFault) →
    FaultAt before s line fault → Begins Within (before ++ s ∷ []) → ⊥
broken_anyway before s line (BadToken at_line) h begins = h.1 (begins.0, tt, begins.2)
broken_anyway before s line (TooLarge at_line) h begins =
    h.2 (begins.0, begins.1.variables, begins.2)
broken_anyway before s line Limit h begins = h.1 begins
broken_anyway before s line Header h begins = h
broken_anyway before s line Unfinished h begins = h
broken_anyway before s line Memory h begins = h

pub front_begins : (front rest : List Symbol) (items : List Item) → Within items →
    spelled items ≡ front ++ rest → Begins Within front
front_begins front rest items w e = (items, w, (rest, e))

symbols_parts : (before : List Token) (token : Token) (after : List Token) →
    symbols_of (before ++ token ∷ after)
    ≡ (symbols_of before ++ symbol_of token.bytes ∷ []) ++ symbols_of after
symbols_parts before token after =
    map-append (λ t. symbol_of t.bytes) before (token ∷ after)
    ∙ sym (append_assoc (symbols_of before) (symbol_of token.bytes ∷ []) (symbols_of after))

first_broken : (tokens : List Token) (fault : TextFault) → FaultAtFirst tokens fault →
    (items : List Item) → AreItems tokens items → ⊥
first_broken tokens fault f items x =
    broken_anyway (symbols_of f.before) (symbol_of f.token.bytes) f.token.line fault f.broken
    (front_begins _ (symbols_of f.after) items x.1
    (sym x.0 ∙ ap symbols_of f.parts ∙ symbols_parts f.before f.token f.after))

pub no_fault : (tokens : List Token) (fault : TextFault) (items : List Item) →
    AreItems tokens items → IsTokensFault tokens fault → ⊥
no_fault tokens Unfinished items x f = f.1 items x.0
no_fault tokens Header items x f = f
no_fault tokens Memory items x f = f
no_fault tokens (BadToken line) items x f = first_broken tokens (BadToken line) f items x
no_fault tokens (TooLarge line) items x f = first_broken tokens (TooLarge line) f items x
no_fault tokens Limit items x f = first_broken tokens Limit f items x

-- no token of what begins items within the limits is a fault's
begins_past : (front : List Token) (before : List Token) (token : Token) (mid : List Token)
    (fault : TextFault) → Begins Within (symbols_of front) → front ≡ before ++ token ∷ mid →
    FaultAt (symbols_of before) (symbol_of token.bytes) token.line fault → ⊥
begins_past front before token mid fault begins is broken =
    broken_anyway (symbols_of before) (symbol_of token.bytes) token.line fault broken
    (front_begins _ (symbols_of mid ++ begins.2.0) begins.0 begins.1
    (begins.2.1 ∙ ap (λ x. x ++ begins.2.0) (ap symbols_of is ∙ symbols_parts before token mid)
    ∙ append_assoc _ (symbols_of mid) begins.2.0))

-- one symbol breaks one rule
one_rule : (before : List Symbol) (s : Symbol) (line : ℕ) (a b : TextFault) →
    FaultAt before s line a → FaultAt before s line b → a ≡ b
one_rule before s line (BadToken x) (BadToken y) p q = ap BadToken (p.0 ∙ sym q.0)
one_rule before s line (BadToken x) (TooLarge y) p q = absurd (p.1 q.1)
one_rule before s line (BadToken x) Limit p q = absurd (p.1 (q.0.0, tt, q.0.2))
one_rule before s line (TooLarge x) (BadToken y) p q = absurd (q.1 p.1)
one_rule before s line (TooLarge x) (TooLarge y) p q = ap TooLarge (p.0 ∙ sym q.0)
one_rule before s line (TooLarge x) Limit p q = absurd (p.2 q.0)
one_rule before s line Limit (BadToken y) p q = absurd (q.1 (p.0.0, tt, p.0.2))
one_rule before s line Limit (TooLarge y) p q = absurd (q.2 p.0)
one_rule before s line Limit Limit p q = refl
one_rule before s line a Header p q = absurd q
one_rule before s line a Unfinished p q = absurd q
one_rule before s line a Memory p q = absurd q
one_rule before s line Header b p q = absurd p
one_rule before s line Unfinished b p q = absurd p
one_rule before s line Memory b p q = absurd p

at_one_place : (tokens : List Token) (a b : TextFault) (f : FaultAtFirst tokens a)
    (g : FaultAtFirst tokens b) → Places f.before g.before f.token g.token → a ≡ b
at_one_place tokens a b f g (Same p q) =
    one_rule (symbols_of f.before) (symbol_of f.token.bytes) f.token.line a b f.broken
    (rw (p, q) g.broken)
at_one_place tokens a b f g (Earlier mid p) =
    absurd (begins_past g.before f.before f.token mid a g.so_far p f.broken)
at_one_place tokens a b f g (Later mid p) =
    absurd (begins_past f.before g.before g.token mid b f.so_far p g.broken)

two_first : (tokens : List Token) (a b : TextFault) → FaultAtFirst tokens a →
    FaultAtFirst tokens b → a ≡ b
two_first tokens a b f g =
    at_one_place tokens a b f g
    (places f.before g.before f.token g.token f.after g.after (sym f.parts ∙ g.parts))

first_and_end : (tokens : List Token) (a : TextFault) → FaultAtFirst tokens a →
    Begins Within (symbols_of tokens) → ⊥
first_and_end tokens a f begins =
    begins_past tokens f.before f.token f.after a begins f.parts f.broken

one_fault : (tokens : List Token) (a b : TextFault) → IsTokensFault tokens a →
    IsTokensFault tokens b → a ≡ b
one_fault tokens (BadToken x) (BadToken y) p q = two_first tokens (BadToken x) (BadToken y) p q
one_fault tokens (BadToken x) (TooLarge y) p q = two_first tokens (BadToken x) (TooLarge y) p q
one_fault tokens (BadToken x) Limit p q = two_first tokens (BadToken x) Limit p q
one_fault tokens (BadToken x) Unfinished p q = absurd (first_and_end tokens (BadToken x) p q.0)
one_fault tokens (TooLarge x) (BadToken y) p q = two_first tokens (TooLarge x) (BadToken y) p q
one_fault tokens (TooLarge x) (TooLarge y) p q = two_first tokens (TooLarge x) (TooLarge y) p q
one_fault tokens (TooLarge x) Limit p q = two_first tokens (TooLarge x) Limit p q
one_fault tokens (TooLarge x) Unfinished p q = absurd (first_and_end tokens (TooLarge x) p q.0)
one_fault tokens Limit (BadToken y) p q = two_first tokens Limit (BadToken y) p q
one_fault tokens Limit (TooLarge y) p q = two_first tokens Limit (TooLarge y) p q
one_fault tokens Limit Limit p q = refl
one_fault tokens Limit Unfinished p q = absurd (first_and_end tokens Limit p q.0)
one_fault tokens Unfinished (BadToken y) p q = absurd (first_and_end tokens (BadToken y) q p.0)
one_fault tokens Unfinished (TooLarge y) p q = absurd (first_and_end tokens (TooLarge y) q p.0)
one_fault tokens Unfinished Limit p q = absurd (first_and_end tokens Limit q p.0)
one_fault tokens Unfinished Unfinished p q = refl
one_fault tokens a Header p q = absurd q
one_fault tokens a Memory p q = absurd q
one_fault tokens Header b p q = absurd p
one_fault tokens Memory b p q = absurd p

fault_of_one : (header : Option (List Token)) (a b : TextFault) →
    MatchOption header (a ≡ Header) (λ tokens. IsTokensFault tokens a) →
    MatchOption header (b ≡ Header) (λ tokens. IsTokensFault tokens b) → a ≡ b
fault_of_one None a b p q = p ∙ sym q
fault_of_one (Some tokens) a b p q = one_fault tokens a b p q

-- a text is refused for one fault at most
pub one_text_fault : (text : List ℕ) (a b : TextFault) → IsTextFault text a → IsTextFault text b →
    a ≡ b
one_text_fault text a b p q = fault_of_one (after_header (token_lines 1 text)) a b p q

some_symbols : (a b : List Symbol) → Some a ≡ Some b → a ≡ b
some_symbols a b e = cc

-- a text is that of one list of items at most, whatever the limits
pub one_text_of : (text : List ℕ) (a b : List Item) → IsTextOf text a → IsTextOf text b → a ≡ b
one_text_of text a b x y = one_spelling a b (some_symbols (spelled a) (spelled b) (sym x ∙ y))

-- what stands for items is a text of them
pub text_of : (text : List ℕ) (items : List Item) → StandsFor text items → IsTextOf text items
text_of text items stands = ap (option_map symbols_of) stands.1 ∙ ap Some stands.2.0

-- a text stands for one list of items at most
pub one_text : (text : List ℕ) (a b : List Item) → StandsFor text a → StandsFor text b → a ≡ b
one_text text a b x y = one_text_of text a b (text_of text a x) (text_of text b y)

-- a text that stands for items within the limits has no fault
pub no_text_fault : (text : List ℕ) (fault : TextFault) (items : List Item) → StandsFor text items →
    IsTextFault text fault → ⊥
no_text_fault text fault items x f = no_fault x.0 fault items x.2 (rw x.1 at f)

is_memory : (fault : TextFault) → (fault ≢ Memory → ⊥) → fault ≡ Memory
is_memory Memory h = refl
is_memory Header h = absurd (h (λ e. cc))
is_memory Unfinished h = absurd (h (λ e. cc))
is_memory Limit h = absurd (h (λ e. cc))
is_memory (BadToken line) h = absurd (h (λ e. cc))
is_memory (TooLarge line) h = absurd (h (λ e. cc))

-- what stands for items is read as them, unless memory runs out
pub read_only : (r : Result IcnfFile TextFault) (text : List ℕ) →
    IfOk r (λ file. (items : List Item) × StandsFor text items × IsFileOf file items) →
    IfErr r (λ fault. fault ≢ Memory → IsTextFault text fault) → (items : List Item) →
    StandsFor text items → MatchResult r (λ file. IsFileOf file items) (λ fault. fault ≡ Memory)
read_only (Ok file) text ok err items stands = rw (one_text text items ok.0 stands ok.1) ok.2
read_only (Err fault) text ok err items stands =
    is_memory fault (λ other. no_text_fault text fault items stands (err other))
