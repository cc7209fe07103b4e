-- A run of the reader over the tokens.
use Rattle.std.proofs.Common.{◌≡◌, ◌≢◌, ℕ, ◌+◌, List, [], ◌∷◌, ◌++◌, length, ap, Result, Ok, Err}
use Rattle.std.proofs.lemmas.List.{map-append}
use Rattle.std.specs.Prelude.{IfErr, IfOk}
use Rattle.cnf_text.specs.declared.icnf.Reader.{Reader}
use Rattle.cnf_text.specs.declared.icnf.Word.{Word}
use Rattle.cnf_text.specs.declared.icnf.Broken.{Broken}
use Rattle.cnf_text.specs.declared.icnf.TextFault.{TextFault}
use Rattle.cnf_text.specs.declared.icnf.TextFault.TheVariants.{Header, Token as BadToken}
use Rattle.cnf_text.specs.declared.icnf.TextFault.TheVariants.{Unfinished, TooLarge, Limit, Memory}
use Rattle.cnf_text.specs.Icnf.{Symbol, symbol_of, symbols_of, Item, spelled, Within, FaultAt}
use Rattle.cnf_text.specs.Icnf.{FaultAtFirst, IsTokensFault, AreItems, IsFileOf}
use Rattle.cnf_text.specs.Inner.Icnf.{Means, HasRead, Advances, BreaksRule, told_on}
use Rattle.cnf_text.specs.declared.icnf.IcnfFile.{IcnfFile}
use Rattle.cnf_text.specs.Tokens.{Token}
use Rattle.cnf_text.proofs.IcnfSteps.{read_begins}
use Rattle.cnf_text.proofs.TokensUpTo.{UpTo, next_token, one_more, at_end}

-- how far the reader is in the tokens, which it has read
pub record ReadUpTo (reader : Reader) (tokens : List Token) (words : List (List ℕ)) (count : ℕ)
    : Type 0 where
  pub up : UpTo tokens words count
  pub read : HasRead reader (symbols_of up.before)

-- what a function refuses of a symbol, said of the word for it
pub err_here : {R : Type 0} (r : Result R Broken) (reader : Reader) (s : Symbol) (word : Word) →
    ((symbol : Symbol) → Means word symbol → symbol ≡ s) → IfErr r (BreaksRule reader s) →
    IfErr r (λ rule. (symbol : Symbol) → Means word symbol → BreaksRule reader symbol rule)
err_here (Ok x) reader s word is h = tt
err_here (Err rule) reader s word is h = λ symbol means. rw (is symbol means) h

-- the first token that breaks a rule is the fault of the tokens
pub fault_first : (tokens : List Token) (fault : TextFault) →
    (line : ℕ) (b : List Symbol) (s : Symbol) → FaultAt b s line fault → FaultAtFirst tokens fault →
    IsTokensFault tokens fault
fault_first tokens (BadToken at_line) line b s h first = first
fault_first tokens (TooLarge at_line) line b s h first = first
fault_first tokens Limit line b s h first = first
fault_first tokens Header line b s h first = absurd h
fault_first tokens Unfinished line b s h first = absurd h
fault_first tokens Memory line b s h first = absurd h

-- one token more is one symbol more
pub symbols_push : (before : List Token) (token : Token) →
    symbols_of (before ++ token ∷ []) ≡ symbols_of before ++ symbol_of token.bytes ∷ []
symbols_push before token = map-append (λ t. symbol_of t.bytes) before (token ∷ [])

-- one token more is read
pub one_more_token : (old new : Reader) (tokens : List Token) (words more : List (List ℕ))
    (bytes : List ℕ) (count : ℕ) →
    ReadUpTo old tokens words count → words ≡ bytes ∷ more → Advances old new (symbol_of bytes) →
    ReadUpTo new tokens more (count + 1)
one_more_token old new tokens words more bytes count r is advances =
    let next = next_token tokens words more bytes count r.up is in
    record {
      up = one_more tokens r.up.before bytes more count r.up.counted next;
      read = rw (symbols_push r.up.before next.token, next.same)
          (advances (symbols_of r.up.before) r.read);
    }

-- the next token breaks a rule, and its line is told
pub broken_by : (reader : Reader) (tokens : List Token) (words more : List (List ℕ))
    (bytes : List ℕ) (count line : ℕ) (rule : Broken) →
    ReadUpTo reader tokens words count → words ≡ bytes ∷ more →
    BreaksRule reader (symbol_of bytes) rule →
    ((before after : List Token) (token : Token) → tokens ≡ before ++ token ∷ after →
    length before ≡ count → line ≡ token.line) →
    told_on line rule ≢ Memory → IsTokensFault tokens (told_on line rule)
broken_by reader tokens words more bytes count line rule r is refuses line_of other =
    let next = next_token tokens words more bytes count r.up is in
    let on_line : line ≡ next.token.line =
    line_of r.up.before next.after next.token next.parts r.up.counted in
    let broken : FaultAt (symbols_of r.up.before) (symbol_of next.token.bytes) next.token.line
    (told_on line rule) =
    rw (next.same, ← on_line)
    (refuses line (λ e. other (ap (told_on line) e)) (symbols_of r.up.before) r.read) in
    fault_first tokens (told_on line rule) next.token.line (symbols_of r.up.before)
    (symbol_of next.token.bytes) broken
    (record {
      before = r.up.before;
      token = next.token;
      after = next.after;
      parts = next.parts;
      so_far = read_begins _ _ _ _ _ _ _ r.read;
      broken = broken;
    })

-- no token is left
pub all_read : (reader : Reader) (tokens : List Token) (words : List (List ℕ)) (count : ℕ) →
    ReadUpTo reader tokens words count → words ≡ [] → HasRead reader (symbols_of tokens)
all_read reader tokens words count r is = rw (at_end tokens words count r.up is) at r.read

pub unfinished : (reader : Reader) (tokens : List Token) → HasRead reader (symbols_of tokens) →
    ((before : List Symbol) → HasRead reader before → (items : List Item) → before ≡ spelled items →
    ⊥) → IsTokensFault tokens Unfinished
unfinished reader tokens r none = (read_begins _ _ _ _ _ _ _ r, none (symbols_of tokens) r)

-- what `finish` gives, said of the tokens
pub finished : (r : Result IcnfFile TextFault) (reader : Reader) (tokens : List Token) →
    HasRead reader (symbols_of tokens) →
    IfOk r (λ file. (before : List Symbol) → HasRead reader before →
    (items : List Item) × (before ≡ spelled items) × Within items × IsFileOf file items) →
    IfOk r (λ file. (items : List Item) × AreItems tokens items × IsFileOf file items)
finished (Err fault) reader tokens read h = tt
finished (Ok file) reader tokens read h =
    let found = h (symbols_of tokens) read in
    (found.0, (found.1, found.2), found.3)

-- tokens that end inside an item have no fault but that
pub not_finished : (r : Result IcnfFile TextFault) (reader : Reader) (tokens : List Token) →
    HasRead reader (symbols_of tokens) →
    IfErr r (λ fault. (fault ≡ Unfinished)
    × ((before : List Symbol) → HasRead reader before → (items : List Item) →
    before ≡ spelled items → ⊥)) → IfErr r (λ fault. fault ≢ Memory → IsTokensFault tokens fault)
not_finished (Ok file) reader tokens read h = tt
not_finished (Err fault) reader tokens read h = λ _. rw h.0 (unfinished reader tokens read h.1)
