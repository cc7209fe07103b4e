-- The ids listed for each literal.
use Rattle.std.proofs.Common.{◌≡◌, ◌==◌, ◌||◌, ◌&&◌, ℕ, Bool, true, false, cond, nat_eq, Option}
use Rattle.std.proofs.Common.{◌+◌, ◌<◌, suc, Some, None, List, [], ◌∷◌, ◌++◌, length}
use Rattle.std.proofs.Common.{get_or, refl, sym, ap, ◌∙◌, inl, inr, subst, arith}
use Rattle.std.proofs.lemmas.List.{get_or-map, length-map}
use Rattle.std.specs.Prelude.{if◌then◌else◌}
use Rattle.std.specs.Option.{IfSome}
use Rattle.std.specs.FinMap as fin
use Rattle.std.specs.Ordering.{nat_cmp, eq_by_cmp}
use Rattle.hint_check.proofs.LiveMaps.{same_key}
use Rattle.hint_check.proofs.LiveParts.{find-lookup, IfSome-weaker}
use Rattle.hint_check.specs.declared.holders.Holder.{Holder}
use Rattle.hint_check.specs.Inner.Holders.{holder_of, NamesEach}
use Rattle.hint_check.specs.Inner.Live.{IsIndexOf}
use Rattle.std.specs.List.{Contains, list_any, enumerate_from}
use Rattle.std.specs.Map.{lookup}
use Rattle.std.proofs.lemmas.Bool.{false≢true, or_cases, or_left, or_right, and_parts, and_from}
use Rattle.std.proofs.lemmas.Bool.{eqb-true, eq-eqb, cond-true, cond-false}
use Rattle.cnf_text.specs.Literal.{Literal, literal_number, same}
use Rattle.hint_check.specs.Literals.{has, is_tautology, with_literal}
use Rattle.hint_check.specs.Inner.Index.{Links, once, ids_at, Adds, is_listed, Lists, Indexes}
use Rattle.hint_check.specs.Inner.Index.{MayList, NamesEntries, still_has, Awaits}
use Rattle.hint_check.specs.Inner.Index.{AddsHolders, indexed_part, shows}
use Rattle.hint_check.proofs.LiteralsSets.{same-true, has-push}

none_listed : (b : Bool) → false ≡ true → b ≡ true
none_listed b h = absurd (false≢true h)

-- no literals are listed without a change
pub Lists-none : (rows : Links) (id : ℕ) → Lists rows rows [] id
unfolding Lists has
Lists-none rows id l q h =
    elim (or_cases (is_listed rows l q) false h) [
      | inl listed ↦ listed
      | inr none ↦ none_listed (is_listed rows l q) none
    ]

once-kept : (id q : ℕ) (ids : List ℕ) → list_any (λ n. n == q) ids ≡ true →
    list_any (λ n. n == q) (once id ids) ≡ true
once-kept id q [] h = absurd (false≢true h)
once-kept id q (last ∷ ids) h =
    elim (last == id) as
    (λ b. list_any (λ n. n == q) (if b then last ∷ ids else id ∷ last ∷ ids) ≡ true) [
      | true ↦ h
      | false ↦ or_right (id == q) (list_any (λ n. n == q) (last ∷ ids)) h
    ]

once-new : (id q : ℕ) (ids : List ℕ) → (id == q) ≡ true →
    list_any (λ n. n == q) (once id ids) ≡ true
once-new id q [] h = or_left (id == q) false h
once-new id q (last ∷ ids) h =
    elim (last == id) as
    (λ b. (last == id) ≡ b →
    list_any (λ n. n == q) (if b then last ∷ ids else id ∷ last ∷ ids) ≡ true) [
      | true ↦ λ same.
          or_left (last == q) (list_any (λ n. n == q) ids)
          (ap (λ k. k == q) (eqb-true last id same) ∙ h)
      | false ↦ λ _. or_left (id == q) (list_any (λ n. n == q) (last ∷ ids)) h
    ] refl

module _ (before after : Links) (m : Literal) (id : ℕ)
    (adds : Adds before after (literal_number m) id) where
  kept : (l : Literal) (q : ℕ) → is_listed before l q ≡ true → is_listed after l q ≡ true
  unfolding Adds
  kept l q h =
      ap (list_any (λ n. n == q)) (adds (literal_number l))
      ∙ elim (nat_eq (literal_number m) (literal_number l)) as
      (λ b. list_any (λ n. n == q)
      (if b then once id (ids_at before (literal_number l)) else ids_at before (literal_number l))
      ≡ true) [
        | true ↦ once-kept id q (ids_at before (literal_number l)) h
        | false ↦ h
      ]

  new : (q : ℕ) → (id == q) ≡ true → is_listed after m q ≡ true
  unfolding Adds
  new q h =
      ap (list_any (λ n. n == q))
      (adds (literal_number m)
      ∙ cond-true (nat_eq (literal_number m) (literal_number m))
      (once id (ids_at before (literal_number m))) (ids_at before (literal_number m))
      (eq-eqb (literal_number m) (literal_number m) refl))
      ∙ once-new id q (ids_at before (literal_number m)) h

  -- one more literal is listed
  pub Lists-push : (start : Links) (literals : List Literal) → Lists start before literals id →
      Lists start after (literals ++ m ∷ []) id
  unfolding Lists with_literal
  Lists-push start literals h l q either =
      elim (or_cases (is_listed start l q) (has (literals ++ m ∷ []) l && (id == q)) either) [
        | inl old ↦ kept l q
            (h l q (or_left (is_listed start l q) (has literals l && (id == q)) old))
        | inr both ↦ let parts = and_parts (has (literals ++ m ∷ []) l) (id == q) both in
            elim (or_cases (same m l) (has literals l)
            (sym (ap (λ s. s l) (has-push literals m)) ∙ parts.0)) [
              | inl this ↦ subst (λ k. is_listed after k q ≡ true) (same-true m l this)
                  (new q parts.1)
              | inr earlier ↦ kept l q
                  (h l q (or_right (is_listed start l q) (has literals l && (id == q))
                  (and_from (has literals l) (id == q) earlier parts.1)))
            ]
      ]

-- the ids listed for a literal name all clauses that show it
pub Indexes-names : (rows : Links) (entries : List (ℕ × List Literal)) (l : Literal)
    (ids : List ℕ) → Indexes rows entries → ids ≡ ids_at rows (literal_number l) →
    NamesEntries entries l ids
unfolding Indexes NamesEntries
Indexes-names rows entries l ids h is q =
    subst (λ named.
    IfSome (fin.find nat_cmp q entries)
    (λ clause. shows clause l ≡ true → list_any (λ n. n == q) named ≡ true)) (sym is) (h q l)

-- ---- entries by ids, one put or taken out

put-Indexes : (before after : Links) (clause : List Literal) (id q : ℕ) (l : Literal)
    (old : Option (List Literal)) (b : Bool) → nat_eq id q ≡ b →
    Lists before after (indexed_part clause) id →
    IfSome old (λ c. shows c l ≡ true → is_listed before l q ≡ true) →
    IfSome (cond b (Some clause) old) (λ c. shows c l ≡ true → is_listed after l q ≡ true)
unfolding Lists
put-Indexes before after clause id q l old true here lists was =
    λ holds. lists l q
    (or_right (is_listed before l q) (shows clause l && (id == q))
    (and_from (shows clause l) (id == q) holds here))
put-Indexes before after clause id q l old false apart lists was =
    IfSome-weaker old was
    (λ c listed holds.
    lists l q (or_left (is_listed before l q) (shows clause l && (id == q)) (listed holds)))

take-Indexes : (rows : Links) (q : ℕ) (l : Literal) (old : Option (List Literal)) (b : Bool) →
    IfSome old (λ c. shows c l ≡ true → is_listed rows l q ≡ true) →
    IfSome (cond b None old) (λ c. shows c l ≡ true → is_listed rows l q ≡ true)
take-Indexes rows q l old true was = tt
take-Indexes rows q l old false was = was

module _ (own own' : List (ℕ × List Literal)) (id : ℕ) where
  Indexes-put : (before after : Links) (clause : List Literal) → Indexes before own →
      Lists before after (indexed_part clause) id →
      ((q : ℕ) →
      lookup (nat_eq q) own' ≡ cond (nat_eq id q) (Some clause) (lookup (nat_eq q) own)) →
      Indexes after own'
  unfolding Indexes
  Indexes-put before after clause h lists put q l =
      subst (λ o. IfSome o (λ c. shows c l ≡ true → is_listed after l q ≡ true))
      (sym (find-lookup q own' ∙ put q))
      (put-Indexes before after clause id q l (lookup (nat_eq q) own) (nat_eq id q) refl lists
      (subst (λ o. IfSome o (λ c. shows c l ≡ true → is_listed before l q ≡ true))
      (find-lookup q own)
      (h q l)))

  Indexes-take : (rows : Links) → Indexes rows own →
      ((q : ℕ) → lookup (nat_eq q) own' ≡ cond (nat_eq id q) None (lookup (nat_eq q) own)) →
      Indexes rows own'
  unfolding Indexes
  Indexes-take rows h taken q l =
      subst (λ o. IfSome o (λ c. shows c l ≡ true → is_listed rows l q ≡ true))
      (sym (find-lookup q own' ∙ taken q))
      (take-Indexes rows q l (lookup (nat_eq q) own) (nat_eq id q)
      (subst (λ o. IfSome o (λ c. shows c l ≡ true → is_listed rows l q ≡ true)) (find-lookup q own)
      (h q l)))

  -- a clause that was listed, and then put under its id, is in the index where there is one
  pub MayIndex-put : (index after : Option (Links)) (clause : List Literal) →
      IfSome index (λ rows. Indexes rows own) → MayList index after (indexed_part clause) id →
      ((q : ℕ) →
      lookup (nat_eq q) own' ≡ cond (nat_eq id q) (Some clause) (lookup (nat_eq q) own)) →
      IfSome after (λ rows. Indexes rows own')
  MayIndex-put index None clause h lists put = tt
  MayIndex-put None (Some after) clause h lists put = absurd lists
  MayIndex-put (Some before) (Some after) clause h lists put =
      Indexes-put before after clause h lists put

  -- an index stays one of the clauses that are left
  pub MayIndex-take : (index : Option (Links)) → IfSome index (λ rows. Indexes rows own) →
      ((q : ℕ) → lookup (nat_eq q) own' ≡ cond (nat_eq id q) None (lookup (nat_eq q) own)) →
      IfSome index (λ rows. Indexes rows own')
  MayIndex-take None h taken = tt
  MayIndex-take (Some rows) h taken = Indexes-take rows h taken

Indexes-more : (before after : Links) (own : List (ℕ × List Literal)) (id : ℕ)
    (clause : List Literal) → Indexes before own → Lists before after (indexed_part clause) id →
    Indexes after own
unfolding Indexes Lists
Indexes-more before after own id clause h lists q l =
    IfSome-weaker (fin.find nat_cmp q own) (h q l)
    (λ c was holds.
    lists l q (or_left (is_listed before l q) (shows clause l && (id == q)) (was holds)))

-- an index that names more than the entries is an index of them still
pub MayIndex-more : (own : List (ℕ × List Literal)) (id : ℕ) (index after : Option (Links))
    (clause : List Literal) → IfSome index (λ rows. Indexes rows own) →
    MayList index after (indexed_part clause) id → IfSome after (λ rows. Indexes rows own)
MayIndex-more own id index None clause h lists = tt
MayIndex-more own id None (Some after) clause h lists = absurd lists
MayIndex-more own id (Some before) (Some after) clause h lists =
    Indexes-more before after own id clause h lists

-- ---- an index made one entry after another

find-still_has : (entries : List (ℕ × List Literal)) (q : ℕ) (l : Literal) →
    IfSome (fin.find nat_cmp q entries)
    (λ clause. shows clause l ≡ true → still_has entries l q ≡ true)
find-still_has [] q l = tt
find-still_has (e ∷ es) q l =
    elim (eq_by_cmp nat_cmp q e.0) as
    (λ b. eq_by_cmp nat_cmp q e.0 ≡ b →
    IfSome (cond b (Some e.1) (fin.find nat_cmp q es))
    (λ clause. shows clause l ≡ true → still_has (e ∷ es) l q ≡ true)) [
      | true ↦ λ here holds.
          or_left (shows e.1 l && (e.0 == q)) (still_has es l q)
          (and_from (shows e.1 l) (e.0 == q) holds (eq-eqb e.0 q (sym (same_key q e.0 here))))
      | false ↦ λ apart.
          IfSome-weaker (fin.find nat_cmp q es) (find-still_has es q l)
          (λ clause later holds.
          or_right (shows e.1 l && (e.0 == q)) (still_has es l q) (later holds))
    ] refl

-- before the first entry is listed, any links await all entries
pub Awaits-all : (rows : Links) (entries : List (ℕ × List Literal)) → Awaits rows entries entries
unfolding Awaits
Awaits-all rows entries q l =
    IfSome-weaker (fin.find nat_cmp q entries) (find-still_has entries q l)
    (λ clause still holds. or_right (is_listed rows l q) (still_has entries l q) (still holds))

next-listed : (before after : Links) (e : ℕ × List Literal) (rest : List (ℕ × List Literal))
    (l : Literal) (q : ℕ) → Lists before after (indexed_part e.1) e.0 →
    (is_listed before l q || still_has (e ∷ rest) l q) ≡ true →
    (is_listed after l q || still_has rest l q) ≡ true
unfolding Lists
next-listed before after e rest l q lists h =
    elim (or_cases (is_listed before l q) (still_has (e ∷ rest) l q) h) [
      | inl old ↦ or_left (is_listed after l q) (still_has rest l q)
          (lists l q (or_left (is_listed before l q) (shows e.1 l && (e.0 == q)) old))
      | inr still ↦ elim (or_cases (shows e.1 l && (e.0 == q)) (still_has rest l q) still) [
        | inl this ↦ or_left (is_listed after l q) (still_has rest l q)
            (lists l q (or_right (is_listed before l q) (shows e.1 l && (e.0 == q)) this))
        | inr later ↦ or_right (is_listed after l q) (still_has rest l q) later
      ]
    ]

-- links that await entries await one fewer when the first of them has been listed
pub Awaits-next : (before after : Links) (e : ℕ × List Literal)
    (rest entries : List (ℕ × List Literal)) → Awaits before (e ∷ rest) entries →
    Lists before after (indexed_part e.1) e.0 → Awaits after rest entries
unfolding Awaits
Awaits-next before after e rest entries h lists q l =
    IfSome-weaker (fin.find nat_cmp q entries) (h q l)
    (λ clause was holds. next-listed before after e rest l q lists (was holds))

or_none : (b : Bool) → (b || false) ≡ true → b ≡ true
or_none true h = refl
or_none false h = h

-- links that await no more entries index all of them
pub Awaits-none : (rows : Links) (entries : List (ℕ × List Literal)) → Awaits rows [] entries →
    Indexes rows entries
unfolding Awaits Indexes
Awaits-none rows entries h q l =
    IfSome-weaker (fin.find nat_cmp q entries) (h q l)
    (λ clause was holds. or_none (is_listed rows l q) (was holds))

-- ---- what an index shows of a clause

-- nothing of a tautology
pub part-tautology : (clause : List Literal) → is_tautology clause ≡ true →
    indexed_part clause ≡ []
unfolding indexed_part
part-tautology clause clash = cond-true (is_tautology clause) [] clause clash

-- and all of any other
pub part-whole : (clause : List Literal) → is_tautology clause ≡ false →
    indexed_part clause ≡ clause
unfolding indexed_part
part-whole clause clear = cond-false (is_tautology clause) [] clause clear

-- what is true of each clause that shows a literal, by its place, is true by its id
shown-named : (n : ℕ) (clauses : List (List Literal)) (l : Literal) (Named : ℕ → Type 0) →
    ((k : ℕ) → k < length clauses → shows (get_or clauses k []) l ≡ true → Named (n + k)) →
    (q : ℕ) →
    IfSome (fin.find nat_cmp q (enumerate_from n clauses))
    (λ clause. shows clause l ≡ true → Named q)
shown-named n [] l Named named q = tt
shown-named n (clause ∷ clauses) l Named named q =
    elim (eq_by_cmp nat_cmp q n) as
    (λ b. eq_by_cmp nat_cmp q n ≡ b →
    IfSome (cond b (Some clause) (fin.find nat_cmp q (enumerate_from (n + 1) clauses)))
    (λ clause. shows clause l ≡ true → Named q)) [
      | true ↦ λ here holds.
          subst Named (let e : n + 0 ≡ q = omega (arith, same_key q n here) in e)
          (named 0 (omega arith) holds)
      | false ↦ λ apart. shown-named (n + 1) clauses l Named
          (λ k below holds.
          subst Named (let e : n + suc k ≡ n + 1 + k = omega arith in e)
          (named (suc k) (omega (arith, below)) holds)) q
    ] refl

-- what an index of these clauses lists names each of them that shows the literal
pub index-adds : (holders : List Holder) (clauses : List (List Literal)) (lit : Literal)
    (before after : List ℕ) → IsIndexOf holders clauses →
    ((more : List ℕ) × (after ≡ before ++ more)
    × ((id : ℕ) → Contains holders (holder_of (literal_number lit) id)
    → list_any (λ named. named == id) more ≡ true)) →
    AddsHolders (enumerate_from 1 clauses) lit before after
unfolding AddsHolders NamesEntries NamesEach
index-adds holders clauses lit before after is listed = (
  listed.0,
  listed.1,
  shown-named 1 clauses lit (λ q. list_any (λ named. named == q) listed.0 ≡ true)
      (λ k below holds. listed.2 (1 + k)
      (subst (λ q. Contains holders (holder_of (literal_number lit) q))
      (let e : k + 1 ≡ 1 + k = omega arith in e)
      (is k lit (omega (arith, length-map clauses indexed_part, below))
      (ap (λ clause. has clause lit) (get_or-map indexed_part clauses k [] [] below) ∙ holds)))),
)
