use Rattle.std.proofs.Common.{◌≡◌, ◌+◌, ◌∙◌, subst, sym, arith, get_or, [], true, inl, inr}
use Rattle.std.proofs.lemmas.Bool.{cases_lt}
use Rattle.std.proofs.lemmas.List.{get_or_default}
use Rattle.std.proofs.lemmas.List.Elements.{Contains-append_left, Contains-append_right}
use Rattle.std.proofs.lemmas.List.Filters.{dedup_is}
use Rattle.std.proofs.lemmas.List.Sorted.{Contains-permutation}
use Rattle.std.specs.List.{Contains}
use Rattle.cnf_text.specs.Literal.{literal_number}
use Rattle.hint_check.specs.Literals.{has}
use Rattle.hint_check.specs.Inner.Holders.{holder_of, holders_by, NamesEach}
use Rattle.hint_check.proofs.HoldersOrder.{all-hold, once-rises, once-keeps}
use Rattle.hint_check.proofs.holders.list_of.Goals as goal

pub loop-place-preserved : goal.loop-place-preserved
loop-place-preserved c = λ k m below holds.
    let clauses = c.args.clauses.now in
    let place = c.loop-place.place in
    let lits = c.lits.result.now in
    let before = c.loop-place.list.items in
    subst (λ list. Contains list (holder_of (literal_number m) (k + 1)))
    (sym c.in_ok-push_holders.ensures)
    (elim (cases_lt k place) [
      | inl lower ↦ Contains-append_left before _ _ (c.loop-place.invariant k m lower holds)
      | inr here ↦
          let e : place ≡ k = omega (arith, here, below) in
          let clause : get_or clauses k [] ≡ lits =
          subst (λ i. get_or clauses i [] ≡ lits) e
          (get_or_default clauses place [] c.index-clauses-place.result c.loop-place-test.true
          ∙ sym c.index-clauses-place.is ∙ sym c.lits.ensures) in
          Contains-append_right before _ _
          (subst
          (λ i. Contains (holders_by (place + 1) lits) (holder_of (literal_number m) (i + 1))) e
          (all-hold (place + 1) lits m (subst (λ lits. has lits m ≡ true) clause holds)))
    ])

pub returns-clause-order : goal.returns-clause-order
returns-clause-order c =
    rw (dedup_is _ _ _ c.dedup.ensures.filtered) (once-rises _ c.sort_unstable.ensures.sorted)

pub returns-clause-names : goal.returns-clause-names
unfolding NamesEach
returns-clause-names c = λ place l below holds.
    rw (dedup_is _ _ _ c.dedup.ensures.filtered)
    (once-keeps _ _ (Contains-permutation _ _ _ c.sort_unstable.ensures.permutation
    (c.loop-place.invariant place l (omega (arith, below)) holds)))
