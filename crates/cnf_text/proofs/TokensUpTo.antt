-- How far a reader of words is in the tokens that they are those of.
use Rattle.std.proofs.Common.{arith, ◌<◌}
use Rattle.std.proofs.Common.{◌≡◌, ℕ, ◌+◌, List, [], ◌∷◌, ◌++◌, map, length, refl, sym, ◌∙◌, ap}
use Rattle.std.proofs.Common.{append_assoc, length-append, drop, drop-drop, Option, None, Some}
use Rattle.std.specs.Prelude.{MatchOption}
use Rattle.std.proofs.lemmas.List.{append-nil}
use Rattle.cnf_text.specs.Tokens.{Token}

-- the tokens so far, so many, and those whose words are left
pub record UpTo (tokens : List Token) (words : List (List ℕ)) (count : ℕ) : Type 0 where
  pub before : List Token
  pub left : List Token
  pub parts : tokens ≡ before ++ left
  pub are_left : words ≡ map (λ (t : Token). t.bytes) left
  pub counted : length before ≡ count

-- no token is read
abbrev pub at_start : (tokens : List Token) (words : List (List ℕ))
    → words ≡ map (λ (t : Token). t.bytes) tokens → UpTo tokens words 0
at_start tokens words is =
    record { before = []; left = tokens; parts = refl; are_left = is; counted = refl }

-- one word less is left
pub one_less : (words more : List (List ℕ)) (bytes : List ℕ) (count : ℕ) → words ≡ bytes ∷ more
    → count + length words < 18446744073709551616
    → count + 1 + length more < 18446744073709551616
one_less words more bytes count is few =
    let shorter : length words ≡ length (bytes ∷ more) = ap length is in omega arith

-- the token whose word is the next, and how far a reader is behind it
pub record NextToken (tokens so_far : List Token) (bytes : List ℕ) (more : List (List ℕ))
    (count : ℕ) : Type 0 where
  pub token : Token
  pub after : List Token
  pub parts : tokens ≡ so_far ++ token ∷ after
  pub same : token.bytes ≡ bytes
  pub others : more ≡ map (λ (t : Token). t.bytes) after

next_of : (tokens so_far left : List Token) (bytes : List ℕ) (more : List (List ℕ)) (count : ℕ)
    → tokens ≡ so_far ++ left → bytes ∷ more ≡ map (λ (t : Token). t.bytes) left
    → NextToken tokens so_far bytes more count
next_of tokens so_far [] bytes more count parts h = absurd (cc)
next_of tokens so_far (token ∷ after) bytes more count parts h =
    record { token = token; after = after; parts = parts; same = cc; others = cc }

pub next_token : (tokens : List Token) (words more : List (List ℕ)) (bytes : List ℕ) (count : ℕ)
    (up : UpTo tokens words count) → words ≡ bytes ∷ more
    → NextToken tokens up.before bytes more count
next_token tokens words more bytes count up is =
    next_of tokens up.before up.left bytes more count up.parts (sym is ∙ up.are_left)

-- one token more is read
abbrev pub one_more : (tokens so_far : List Token) (bytes : List ℕ) (more : List (List ℕ))
    (count : ℕ) → length so_far ≡ count → NextToken tokens so_far bytes more count
    → UpTo tokens more (count + 1)
one_more tokens so_far bytes more count counted next = record {
  before = so_far ++ next.token ∷ [];
  left = next.after;
  parts = next.parts ∙ sym (append_assoc so_far (next.token ∷ []) next.after);
  are_left = next.others;
  counted = length-append so_far (next.token ∷ []) ∙ ap (λ n. n + 1) counted;
}

no_token : (left : List Token) → [] ≡ map (λ (t : Token). t.bytes) left → left ≡ []
no_token [] h = refl
no_token (token ∷ left) h = absurd (cc)

-- no token is left
pub at_end : (tokens : List Token) (words : List (List ℕ)) (count : ℕ)
    (up : UpTo tokens words count) → words ≡ [] → up.before ≡ tokens
at_end tokens words count up is =
    sym (up.parts ∙ rw (no_token up.left (sym is ∙ up.are_left)) (append-nil up.before))

-- ---- the line of a token, found by a walk

-- what is left behind so many tokens, and one more
pub walked : (tokens left rest : List Token) (count : ℕ) → left ≡ drop count tokens
    → rest ≡ drop 1 left → rest ≡ drop (count + 1) tokens
walked tokens left rest count is further = further ∙ ap (drop 1) is ∙ drop-drop 1 count tokens

-- what is left behind the next token, if there is one
pub next_behind : (next : Option Token) (left rest : List Token)
    → MatchOption next ((left ≡ []) × (rest ≡ [])) (λ token. left ≡ token ∷ rest)
    → rest ≡ drop 1 left
next_behind None left rest is = is.1 ∙ sym (ap (drop 1) is.0)
next_behind (Some token) left rest is = sym (ap (drop 1) is)
