-- The holders of literals, in order of their numbers.
use Rattle.std.proofs.Common.{◌≡◌, ℕ, suc, ◌+◌, ◌-◌, ◌<◌, ◌≤◌, ◌∙◌, List, [], ◌∷◌, length}
use Rattle.std.proofs.Common.{take, drop, get_or, map, true, inl, inr, ◌==◌, ap, sym, refl, arith}
use Rattle.std.proofs.Common.{Ordering, Less, Greater, Bool, ◌&&◌, nat_eq, rules}
use Rattle.std.proofs.lemmas.Bool.{cases_lt, or_cases, false≢true, eq-eqb, eqb-true, and_parts}
use Rattle.std.proofs.lemmas.List.{get_or-take, get_or-drop, length-take-le, length-drop}
use Rattle.std.proofs.lemmas.List.{get_or-map, length-map}
use Rattle.std.proofs.lemmas.List.Folds.{list_any_at}
use Rattle.std.specs.List.{Contains, dedup, list_any}
use Rattle.std.specs.List.Sorted.{IsSorted, IsNonDecreasingBy, IsStrictlySortedBy}
use Rattle.std.specs.Ordering.{nat_cmp, ordering_then}
use Rattle.std.proofs.lemmas.Cmp.{by_ranked, ranked, then_total, on_total, nat_cmp_total}
use Rattle.std.proofs.lemmas.Cmp.{and_equiv, on_equiv, nat_eq_equiv}
use Rattle.std.proofs.lemmas.List.Kept.{IsStrictlySortedBy-dedup, Contains-dedup}
use Rattle.std.proofs.lemmas.Map.Keys.{Less-from_sorted}
use Rattle.cnf_text.specs.Literal.{Literal, literal_number, same}
use Rattle.hint_check.specs.Literals.{has}
use Rattle.hint_check.specs.declared.holders.Holder.{Holder}
use Rattle.hint_check.specs.Inner.Holders.{holder_of, holders_by, AreInOrder}
use Rattle.hint_check.proofs.LiteralsSets.{same-true}

-- each literal of a clause is one that the clause holds
pub all-hold : (id : ℕ) (lits : List Literal) (l : Literal) → has lits l ≡ true →
    Contains (holders_by id lits) (holder_of (literal_number l) id)
unfolding has
all-hold id [] l none = absurd (false≢true none)
all-hold id (m ∷ lits) l holds =
    elim (or_cases (same m l) (has lits l) holds) [
      | inl this ↦ (0, omega arith, ap (λ n. holder_of (literal_number n) id) (same-true m l this))
      | inr later ↦
          let (k, below, is) = all-hold id lits l later in
          (suc k, omega (arith, below), is)
    ]

-- Of a list in order a lower number stands in front of a part, and a greater one behind it.
module _ (list : List Holder) (number id begin count : ℕ) where
  abbrev rest : List Holder
  rest = take (length list - begin) (drop begin list)

  abbrev run : List Holder
  run = take count rest

  -- so the ids of the part name each holder of the number
  pub named : AreInOrder list → begin ≤ length list → count ≤ length rest →
      ((h : Holder) → 0 < begin → (get_or list (begin - 1) h).number < number) →
      ((h : Holder) → count < length rest → number < (get_or rest count h).number) →
      Contains list (holder_of number id) →
      list_any (λ named. named == id) (map (λ h. h.id) run) ≡ true
  named order inside within lower greater (k, below, is) =
      let holder = holder_of number id in
      let long : length rest ≡ length list - begin =
      length-take-le (length list - begin) (drop begin list)
      (omega (arith, length-drop begin list)) in
      let behind : begin ≤ k = elim (cases_lt k begin) [
        | inl before ↦ absurd (omega (
          arith,
          ap (λ h. h.number) is,
          order k (begin - 1) holder (omega arith) (omega arith),
          lower holder (omega arith),
        ))
        | inr le ↦ le
      ] in
      let j = k - begin in
      let at-is : (n : ℕ) → n < length rest → get_or rest n holder ≡ get_or list (begin + n) holder
      = λ n inside. get_or-take (length list - begin) (drop begin list) n holder
      (omega (arith, long, inside)) ∙ get_or-drop begin list n holder in
      let here : get_or rest j holder ≡ holder =
      at-is j (omega (arith, long, behind, below))
      ∙ ap (λ n. get_or list n holder) (let e : begin + j ≡ k = omega (arith, behind) in e) ∙ is in
      let before : j < count = elim (cases_lt j count) [
        | inl lt ↦ lt
        | inr le ↦
            let last : count < length rest = omega (arith, long, le, behind, below) in
            absurd (omega (
              arith,
              ap (λ h. h.number) is,
              ap (λ h. h.number) (at-is count last),
              order (begin + count) k holder (omega (arith, le, behind)) below,
              greater holder last,
            ))
      ] in
      let short = length-take-le count rest within in
      list_any_at (λ named. named == id) (map (λ h. h.id) run) j 0
      (omega (arith, length-map run (λ h. h.id), short, before))
      (eq-eqb _ id (get_or-map (λ h. h.id) run j holder 0 (omega (arith, short, before))
      ∙ ap (λ h. h.id) (get_or-take count rest j holder before ∙ here)))

-- the order in which they are sorted
abbrev in_order : Holder → Holder → Ordering
in_order x y = ordering_then (nat_cmp x.number y.number) (nat_cmp x.id y.id)

abbrev is_same : Holder → Holder → Bool
is_same x y = nat_eq x.number y.number && nat_eq x.id y.id

less-number : (x y : Holder) → in_order x y ≡ Less → x.number ≤ y.number
less-number x y less =
    by_ranked (x.number < y.number) (x.number ≡ y.number) (y.number < x.number)
    (nat_cmp x.number y.number) (ranked x.number y.number (nat_cmp x.number y.number) refl)
    (λ e lt. omega (arith, lt)) (λ e same. omega (arith, same))
    (λ e gt. absurd (let t : Greater ≡ Less =
    sym (ap (λ o. ordering_then o (nat_cmp x.id y.id)) e) ∙ less in cc))

-- sorted, and each once, they are in order of their numbers
pub once-rises : (xs : List Holder) → IsSorted in_order xs →
    IsNonDecreasingBy (λ h. h.number) (dedup is_same xs)
once-rises xs up i j d le below =
    let ups : IsStrictlySortedBy in_order (dedup is_same xs) = IsStrictlySortedBy-dedup
    (then_total (on_total (λ h. h.number) nat_cmp_total) (on_total (λ h. h.id) nat_cmp_total))
    (λ x y. search rules) xs up in
    elim (cases_lt i j) [
      | inl before ↦ less-number (get_or (dedup is_same xs) i d) (get_or (dedup is_same xs) j d)
          (Less-from_sorted in_order (dedup is_same xs) i j d ups before below)
      | inr not ↦ omega (
        arith,
        ap (λ k. (get_or (dedup is_same xs) k d).number)
            (let e : i ≡ j = omega (arith, not, le) in e),
      )
    ]

-- and none is lost
pub once-keeps : (xs : List Holder) (x : Holder) → Contains xs x →
    Contains (dedup is_same xs) x
once-keeps =
    Contains-dedup (and_equiv (on_equiv (λ h. h.number) nat_eq_equiv)
    (on_equiv (λ h. h.id) nat_eq_equiv)) (λ x y both.
    let parts = and_parts (nat_eq x.number y.number) (nat_eq x.id y.id) both in
    let number : x.number ≡ y.number = eqb-true x.number y.number parts.0 in
    let id : x.id ≡ y.id = eqb-true x.id y.id parts.1 in
    λ i. record { number = number i; id = id i })
