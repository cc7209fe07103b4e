-- Chains of links: for each number the ids that were listed for it, from the last one back.
use Rattle.std.proofs.Common.{zero, suc, ◌+◌, ◌-◌, ◌<◌, ◌≤◌, length, get_or, take, arith, ◌≡◌, ◌==◌}
use Rattle.std.proofs.Common.{◌&&◌, ℕ, Bool, true, false, nat_eq, List, [], ◌∷◌, ◌++◌, refl, sym}
use Rattle.std.proofs.Common.{ap, ◌∙◌, inl, inr, subst}
use Rattle.std.specs.Prelude.{if◌then◌else◌, nat_lt}
use Rattle.std.proofs.lemmas.Bool.{cases_Bool, cases_lt, eqb-true, eq-eqb, lt-ltb}
use Rattle.std.proofs.lemmas.Bool.{ltb-true, both_ways, and_parts, and_from, false_from_ne_true}
use Rattle.std.proofs.lemmas.Bool.{cond-true, cond-false, or_left, or_right}
use Rattle.std.proofs.lemmas.List.{take_more, take_all, take-append-le, get_or_append_left}
use Rattle.std.proofs.lemmas.List.{get_or_push, length_push}
use Rattle.std.proofs.lemmas.List.{append-nil, append_assoc}
use Rattle.hint_check.specs.Inner.Stamps.{is_named}
use Rattle.hint_check.specs.declared.index.Link.{Link}
use Rattle.hint_check.specs.Inner.Index.{Links, no_link, ids_at, once, IsLast, LeadBack}
use Rattle.hint_check.specs.Inner.Index.{NotesLast, Adds, numbers_of}
use Rattle.hint_check.specs.Inner.Stamps.{Marks, stamp_at, Forgets}

-- one more link
pub ids_at-push : (links : Links) (x : Link) (n : ℕ)
    →
    ids_at (links ++ x ∷ []) n
    ≡ (if nat_eq x.number n then x.id ∷ ids_at links n else ids_at links n)
ids_at-push [] x n =
    elim (nat_eq x.number n) as
    (λ b. [] ++ (if b then x.id ∷ [] else []) ≡ (if b then x.id ∷ [] else []))
    [ true ↦ refl | false ↦ refl ]
ids_at-push (l ∷ links) x n =
    let own = if nat_eq l.number n then l.id ∷ [] else [] in
    ap (λ ids. ids ++ own) (ids_at-push links x n)
    ∙ elim (nat_eq x.number n) as (λ b. (if b then x.id ∷ ids_at links n else ids_at links n) ++ own
    ≡ (if b then x.id ∷ (ids_at links n ++ own) else ids_at links n ++ own)) [
      | true ↦ refl
      | false ↦ refl
    ]

-- whether the link in this place, counted from 1, is there and has the id
abbrev pub has_id : Links → ℕ → ℕ → Bool
has_id links place id = nat_lt 0 place && (get_or links (place - 1) no_link).id == id

-- nothing is noted where there is no link
pub LeadBack-none : LeadBack []
unfolding LeadBack
LeadBack-none place below = absurd (omega (arith, below))

-- nothing is noted of no links
none-last : (n place : ℕ) → 0 ≡ place → IsLast [] n 0 place
unfolding IsLast
none-last n place none =
    subst (IsLast [] n 0) none (omega arith, refl, λ some. absurd (omega (arith, some)))

no-stamp : (n : ℕ) → 0 ≡ stamp_at ([], []) n
no-stamp n = elim (nat_lt n 2097152) as (λ b. ◌≡◌ {A = ℕ} 0 (if b then get_or [] n 0 else 0)) [
  | true ↦ refl
  | false ↦ refl
]

pub NotesLast-none : NotesLast [] ([], [])
unfolding NotesLast
NotesLast-none n = none-last n (stamp_at ([], []) n) (no-stamp n)

-- A walk along a number's chain has come to this place: the ids it has put behind the first ones,
-- and those from the place on, are all ids of the number.
abbrev pub Walks : Links → ℕ → List ℕ → List ℕ → ℕ → Type 0
Walks links n first ids place =
    (place ≤ length links) × (ids ++ ids_at (take place links) n ≡ first ++ ids_at links n)
    × (0 < place → (get_or links (place - 1) no_link).number ≡ n)

-- a walk begins at the last link of its number
pub Walks-start : (links : Links) (heads : Marks) (n place : ℕ)
    (first : List ℕ)
    → NotesLast links heads → place ≡ stamp_at heads n →
    Walks links n first first place
unfolding NotesLast IsLast
Walks-start links heads n place first notes is =
    let last = subst (λ p. IsLast links n (length links) p) (sym is) (notes n) in (
      last.0,
      ap (λ ids. first ++ ids)
          (last.1 ∙ ap (λ ls. ids_at ls n) (take_all (length links) links (omega arith))),
      last.2,
    )

-- a walk that has come to no link has all ids of the number
pub Walks-end : (links : Links) (n : ℕ) (first ids : List ℕ) (place : ℕ) → place ≤ 0 →
    Walks links n first ids place
    → ids ≡ first ++ ids_at links n
Walks-end links n first ids place none walks =
    sym (append-nil ids)
    ∙ ap (λ k. ids ++ ids_at (take k links) n) (let e : 0 ≡ place = omega (arith, none) in e)
    ∙ walks.1

module _ (links : Links) (n : ℕ) (first ids : List ℕ) (place : ℕ) (link : Link)
    (leads : LeadBack links) (some : 0 < place)
    (walks : Walks links n first ids place) (is : link ≡ get_or links (place - 1) no_link) where
  here : link.number ≡ n
  here = ap (λ l. l.number) is ∙ walks.2 some

  back : IsLast links n (place - 1) link.before
  unfolding LeadBack
  back =
      subst (λ k. IsLast links k (place - 1) link.before) here
      (subst (λ l. IsLast links l.number (place - 1) l.before) (sym is)
      (leads (place - 1) (omega (arith, walks.0, some))))

  -- a walk goes back
  pub Walks-smaller : link.before < place
  unfolding IsLast
  Walks-smaller = omega (arith, back.0, some)

  -- the ids from a link on: its own, and those from the one before it on
  pub first-id : ids_at (take place links) n ≡ link.id ∷ ids_at (take link.before links) n
  unfolding IsLast
  first-id =
      ap (λ k. ids_at (take k links) n) (let e : place ≡ place - 1 + 1 = omega (arith, some) in e)
      ∙ ap (λ ls. ids_at ls n) (take_more links (place - 1) no_link (omega (arith, walks.0, some)))
      ∙ ap (λ l. ids_at (take (place - 1) links ++ l ∷ []) n) (sym is)
      ∙ ids_at-push (take (place - 1) links) link n
      ∙ cond-true (nat_eq link.number n) (link.id ∷ ids_at (take (place - 1) links) n)
      (ids_at (take (place - 1) links) n)
      (eq-eqb link.number n here)
      ∙ ap (λ more. link.id ∷ more) (sym back.1)

  -- a walk goes on from a link to the one before it
  pub Walks-step : Walks links n first (ids ++ link.id ∷ []) link.before
  unfolding IsLast
  Walks-step = (
    omega (arith, back.0, walks.0),
    append_assoc ids (link.id ∷ []) (ids_at (take link.before links) n)
        ∙ ap (λ more. ids ++ more) (sym first-id) ∙ walks.1,
    back.2,
  )

-- where a number's last link stands
module _ (links : Links) (heads : Marks)
    (notes : NotesLast links heads) (n : ℕ) where
  pub start-ids : ids_at (take (stamp_at heads n) links) n ≡ ids_at links n
  unfolding NotesLast IsLast
  start-ids = (notes n).1 ∙ ap (λ ls. ids_at ls n) (take_all (length links) links (omega arith))

  -- the last link of a number is one of the links
  pub start-within : stamp_at heads n ≤ length links
  unfolding NotesLast IsLast
  start-within = (notes n).0

-- one more link, which leads back to the last one of its number
module _ (links : Links) (heads : Marks) (x : Link)
    (leads : LeadBack links) (notes : NotesLast links heads)
    (back : x.before ≡ stamp_at heads x.number) where
  abbrev pub pushed : Links
  pushed = links ++ x ∷ []

  carried : (n bound place : ℕ) → bound ≤ length links → IsLast links n bound place →
      IsLast pushed n bound place
  unfolding IsLast
  carried n bound place within last = (
    last.0,
    ap (λ ls. ids_at ls n) (take-append-le place links (x ∷ []) (omega (arith, within, last.0)))
        ∙ last.1
        ∙ sym (ap (λ ls. ids_at ls n) (take-append-le bound links (x ∷ []) within)),
    λ some. ap (λ l. l.number)
        (get_or_append_left links (x ∷ []) no_link (place - 1)
        (omega (arith, within, last.0, some)))
        ∙ last.2 some,
  )

  -- a link that leads to the one noted for its number leads back, as those before it do
  pub LeadBack-push : LeadBack pushed
  unfolding LeadBack NotesLast
  LeadBack-push place below =
      elim (cases_lt place (length links)) [
        | inl old ↦
            subst (λ l. IsLast pushed l.number place l.before)
            (sym (get_or_append_left links (x ∷ []) no_link place old))
            (carried (get_or links place no_link).number place (get_or links place no_link).before
            (omega (arith, old)) (leads place old))
        | inr new ↦
            let at : length links ≡ place = let more = length_push links x in
            omega (arith, below, more, new) in
            subst (λ l. IsLast pushed l.number place l.before)
            (sym (get_or_push links x no_link place at))
            (subst (λ p. IsLast pushed x.number place p) (sym back)
            (subst (λ p. IsLast pushed x.number p (stamp_at heads x.number)) at
            (carried x.number (length links) (stamp_at heads x.number) (omega arith)
            (notes x.number))))
      ]

  -- the last link of each number is noted, after one more link
  pub NotesLast-push : (heads' : Marks) → ((n : ℕ) → stamp_at heads' n
      ≡ (if nat_eq x.number n then length pushed else stamp_at heads n)) → NotesLast pushed heads'
  unfolding NotesLast IsLast
  NotesLast-push heads' sets n =
      subst (λ p. IsLast pushed n (length pushed) p) (sym (sets n))
      (elim (cases_Bool (nat_eq x.number n)) [
        | inl this ↦
            subst (λ p. IsLast pushed n (length pushed) p)
            (sym
            (cond-true (nat_eq x.number n) (length pushed) (stamp_at heads n) this)) (
              omega arith,
              refl,
              λ some. ap (λ l. l.number)
                  (get_or_push links x no_link (length pushed - 1)
                  (let more = length_push links x in omega (arith, more)))
                  ∙ eqb-true x.number n this,
            )
        | inr other ↦
            let was =
            carried n (length links) (stamp_at heads n) (omega arith) (notes n) in
            subst (λ p. IsLast pushed n (length pushed) p)
            (sym (cond-false (nat_eq x.number n) (length pushed) (stamp_at heads n)
            other)) (
              let more = length_push links x in omega (arith, more, was.0),
              was.1
                  ∙ ap (λ ls. ids_at ls n)
                  (take-append-le (length links) links (x ∷ []) (omega arith)
                  ∙ take_all (length links) links (omega arith))
                  ∙ sym (cond-false (nat_eq x.number n) (x.id ∷ ids_at links n) (ids_at links n)
                  other)
                  ∙ sym (ids_at-push links x n)
                  ∙ sym (ap (λ ls. ids_at ls n) (take_all (length pushed) pushed (omega arith))),
              was.2,
            )
      ])

-- other stamps that note the same
pub NotesLast-same : (links : Links) (heads heads' : Marks)
    → ((n : ℕ) → stamp_at heads' n ≡ stamp_at heads n) → NotesLast links heads
    → NotesLast links heads'
unfolding NotesLast
NotesLast-same links heads heads' same notes n =
    subst (λ p. IsLast links n (length links) p) (sym (same n)) (notes n)

-- what is noted for a number, once room was made and one of them was set
pub noted : (number n place count stamp middle old : ℕ)
    → stamp ≡ (if nat_eq number n then place else middle) → place ≡ count → middle ≡ old
    → stamp ≡ (if nat_eq number n then count else old)
noted number n place count stamp middle old set is same = set ∙ rw (is, same) refl

-- ---- an id listed once

module _ (links : Links) (heads : Marks) (leads : LeadBack links)
    (notes : NotesLast links heads) (n id : ℕ) where
  abbrev last : Link
  last = get_or links (stamp_at heads n - 1) no_link

  -- where the number has a link, its ids are the last link's and others
  last-first : 0 < stamp_at heads n → (more : List ℕ) × (ids_at links n ≡ last.id ∷ more)
  last-first some =
      let walks =
      Walks-start links heads n (stamp_at heads n) [] notes refl in (
        ids_at (take last.before links) n,
        sym (start-ids links heads notes n)
            ∙ first-id links n [] [] (stamp_at heads n) last leads some walks refl,
      )

  -- an id that the last link has isn't listed again
  pub once-there : has_id links (stamp_at heads n) id ≡ true →
      once id (ids_at links n) ≡ ids_at links n
  once-there there =
      let parts = and_parts (nat_lt 0 (stamp_at heads n)) (last.id == id) there in
      let found = last-first (ltb-true 0 (stamp_at heads n) parts.0) in
      ap (once id) found.1
      ∙ cond-true (last.id == id) (last.id ∷ found.0) (id ∷ last.id ∷ found.0) parts.1 ∙ sym found.1

  -- an id that the last link doesn't have is listed
  pub once-more : has_id links (stamp_at heads n) id ≡ false →
      once id (ids_at links n) ≡ id ∷ ids_at links n
  once-more apart =
      elim (cases_lt 0 (stamp_at heads n)) [
        | inl some ↦
            let found = last-first some in
            let differ : (last.id == id) ≡ false =
            false_from_ne_true (last.id == id)
            (λ same. both_ways (has_id links (stamp_at heads n) id) apart
            (and_from (nat_lt 0 (stamp_at heads n)) (last.id == id)
            (lt-ltb 0 (stamp_at heads n) some) same)) in
            ap (once id) found.1
            ∙ cond-false (last.id == id) (last.id ∷ found.0) (id ∷ last.id ∷ found.0) differ
            ∙ ap (λ ids. id ∷ ids) (sym found.1)
        | inr none ↦
            let empty : ids_at links n ≡ [] = sym (start-ids links heads notes n)
            ∙ ap (λ k. ids_at (take k links) n)
            (let e : stamp_at heads n ≡ 0 = omega (arith, none) in e) in
            ap (once id) empty ∙ ap (λ ids. id ∷ ids) (sym empty)
      ]

-- one more link lists its id, where the last one has another
pub Adds-push : (links : Links) (x : Link) →
    once x.id (ids_at links x.number) ≡ x.id ∷ ids_at links x.number
    → Adds links (links ++ x ∷ []) x.number x.id
unfolding Adds
Adds-push links x more n =
    ids_at-push links x n
    ∙ elim (cases_Bool (nat_eq x.number n)) [
      | inl this ↦ cond-true (nat_eq x.number n) (x.id ∷ ids_at links n) (ids_at links n) this
          ∙ ap (λ k. x.id ∷ ids_at links k) (sym (eqb-true x.number n this)) ∙ sym more
          ∙ ap (λ k. once x.id (ids_at links k)) (eqb-true x.number n this)
          ∙ sym (cond-true (nat_eq x.number n) (once x.id (ids_at links n)) (ids_at links n) this)
      | inr other ↦ cond-false (nat_eq x.number n) (x.id ∷ ids_at links n) (ids_at links n) other
          ∙ sym (cond-false (nat_eq x.number n) (once x.id (ids_at links n)) (ids_at links n) other)
    ]

-- nothing is added where the id is listed as the last one
pub Adds-nothing : (links : Links) (number id : ℕ) →
    once id (ids_at links number) ≡ ids_at links number → Adds links links number id
unfolding Adds
Adds-nothing links number id there n =
    elim (cases_Bool (nat_eq number n)) [
      | inl this ↦ ap (ids_at links) (sym (eqb-true number n this)) ∙ sym there
          ∙ ap (λ k. once id (ids_at links k)) (eqb-true number n this)
          ∙ sym (cond-true (nat_eq number n) (once id (ids_at links n)) (ids_at links n) this)
      | inr other ↦ sym
          (cond-false (nat_eq number n) (once id (ids_at links n)) (ids_at links n) other)
    ]

-- ---- no link any more

number-there : (links : Links) (i n : ℕ) → i < length links → (get_or links i no_link).number ≡ n →
    is_named (numbers_of links) n ≡ true
number-there [] i n below is = absurd (omega arith)
number-there (link ∷ links) zero n below is =
    or_left (nat_eq link.number n) (is_named (numbers_of links) n) (eq-eqb link.number n is)
number-there (link ∷ links) (suc i) n below is =
    or_right (nat_eq link.number n) (is_named (numbers_of links) n)
    (number-there links i n (omega arith) is)

-- where all links are forgotten, nothing is noted
module _ (links : Links) (heads heads' : Marks) (notes : NotesLast links heads)
    (forgets : Forgets (numbers_of links) heads heads') where
  none-noted : (n : ℕ) → 0 ≡ stamp_at heads' n
  unfolding NotesLast IsLast
  none-noted n =
      elim (cases_Bool (is_named (numbers_of links) n)) [
        | inl there ↦ sym (forgets n
            ∙ cond-true (is_named (numbers_of links) n) 0 (stamp_at heads n) there)
        | inr none ↦ sym (forgets n
            ∙ cond-false (is_named (numbers_of links) n) 0 (stamp_at heads n) none
            ∙ elim (cases_lt 0 (stamp_at heads n)) [
              | inl some ↦ absurd (both_ways (is_named (numbers_of links) n) none
                  (number-there links (stamp_at heads n - 1) n
                  (let within = (notes n).0 in omega (arith, some, within)) ((notes n).2 some)))
              | inr at ↦ let e : stamp_at heads n ≡ 0 = omega (arith, at) in e
            ])
      ]

  -- with all heads forgotten, nothing is noted of no links
  pub NotesLast-forgotten : NotesLast [] heads'
  unfolding NotesLast
  NotesLast-forgotten n = none-last n (stamp_at heads' n) (none-noted n)
