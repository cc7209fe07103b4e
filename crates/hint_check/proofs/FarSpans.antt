-- The spans of far ids, in their seats and in the map.
use Rattle.std.proofs.Common.{◌≡◌, ℕ, Bool, true, false, cond, nat_eq, Option, Some, None, List, []}
use Rattle.std.proofs.Common.{◌∷◌, ◌++◌, refl, sym, ap, ◌∙◌, subst}
use Rattle.std.specs.Option.{IfSome, option_or}
use Rattle.std.specs.Map.{lookup}
use Rattle.hint_check.specs.declared.far.Span.{Span}
use Rattle.hint_check.specs.declared.far.Known.{Known}
use Rattle.hint_check.specs.Inner.Far.{placed, InPlace, Apart}
use Rattle.hint_check.specs.Inner.Table.{SpansEndBy}
use Rattle.hint_check.proofs.FarKnown.{InPlace-new}

pub lookup-append : (a b : List (ℕ × Span)) (q : ℕ) →
    lookup (nat_eq q) (a ++ b) ≡ option_or (lookup (nat_eq q) a) (lookup (nat_eq q) b)
lookup-append [] b q = refl
lookup-append (e ∷ a) b q =
    elim (nat_eq q e.0) as (λ t. cond t (Some e.1) (lookup (nat_eq q) (a ++ b))
    ≡ option_or (cond t (Some e.1) (lookup (nat_eq q) a)) (lookup (nat_eq q) b)) [
      | true ↦ refl
      | false ↦ lookup-append a b q
    ]

-- entries where the same ids are found keep apart from the same others
pub Apart-same : (ks ks' es : List (ℕ × Span)) →
    ((q : ℕ) → lookup (nat_eq q) ks' ≡ lookup (nat_eq q) ks) → Apart ks es → Apart ks' es
unfolding Apart
Apart-same ks ks' es same apart q =
    subst (λ o. IfSome o (λ span. lookup (nat_eq q) es ≡ None)) (sym (same q)) (apart q)

-- where there are no places, nobody stands in one
pub nobody : (known : List Known) (shift : ℕ) (es : List (ℕ × Span)) → known ≡ [] →
    InPlace known shift × Apart (placed known) es
unfolding Apart
nobody known shift es none =
    subst (λ ks. InPlace ks shift × Apart (placed ks) es) (sym none)
    (InPlace-new 0 shift refl, λ id. tt)

-- what is found among the first entries is what it was, and so is what is found behind them
pub lookup-both : (ks ks' es : List (ℕ × Span)) →
    ((q : ℕ) → lookup (nat_eq q) ks' ≡ lookup (nat_eq q) ks) → (q : ℕ) →
    lookup (nat_eq q) (ks' ++ es) ≡ lookup (nat_eq q) (ks ++ es)
lookup-both ks ks' es same q =
    lookup-append ks' es q ∙ ap (λ o. option_or o (lookup (nat_eq q) es)) (same q)
    ∙ sym (lookup-append ks es q)

-- ---- what is known of one id was changed, and what the map has of it

module _ (ks ks' es es' far : List (ℕ × Span)) (is : ks ++ es ≡ far) (id : ℕ)
    (told found : Option Span)
    (seats : (q : ℕ) → lookup (nat_eq q) ks' ≡ cond (nat_eq id q) told (lookup (nat_eq q) ks))
    (entries : (q : ℕ) → lookup (nat_eq q) es' ≡ cond (nat_eq id q) found (lookup (nat_eq q) es))
  where
    either : (b : Bool) (x y : Option Span) →
        option_or (cond b told x) (cond b found y) ≡ cond b (option_or told found) (option_or x y)
    either true x y = refl
    either false x y = refl

    pub spans-change : (q : ℕ) → lookup (nat_eq q) (ks' ++ es')
        ≡ cond (nat_eq id q) (option_or told found) (lookup (nat_eq q) far)
    spans-change q =
        lookup-append ks' es' q
        ∙ ap (λ o. option_or o (lookup (nat_eq q) es')) (seats q)
        ∙ ap (option_or (cond (nat_eq id q) told (lookup (nat_eq q) ks))) (entries q)
        ∙ either (nat_eq id q) (lookup (nat_eq q) ks) (lookup (nat_eq q) es)
        ∙ ap (cond (nat_eq id q) (option_or told found))
        (sym (lookup-append ks es q) ∙ ap (lookup (nat_eq q)) is)

    pub Apart-change : IfSome told (λ span. found ≡ None) → Apart ks es → Apart ks' es'
    unfolding Apart
    Apart-change either apart q =
        subst (λ o. IfSome o (λ span. lookup (nat_eq q) es' ≡ None)) (sym (seats q))
        (subst (λ v. IfSome (cond (nat_eq id q) told (lookup (nat_eq q) ks)) (λ span. v ≡ None))
        (sym (entries q))
        (elim (nat_eq id q) as (λ b. IfSome (cond b told (lookup (nat_eq q) ks))
        (λ span. cond b found (lookup (nat_eq q) es) ≡ None))
        [ true ↦ either | false ↦ apart q ]))

-- what stands in a seat is not in the map
pub Apart-absent : (ks es : List (ℕ × Span)) (id : ℕ) (span : Span) →
    Some span ≡ lookup (nat_eq id) ks → Apart ks es → lookup (nat_eq id) es ≡ None
unfolding Apart
Apart-absent ks es id span is apart =
    subst (λ o. IfSome o (λ span. lookup (nat_eq id) es ≡ None)) (sym is) (apart id)

-- ---- where they end

pub SpansEndBy-both : (a b : List (ℕ × Span)) (count : ℕ) → SpansEndBy a count →
    SpansEndBy b count → SpansEndBy (a ++ b) count
unfolding SpansEndBy
SpansEndBy-both [] b count h k = k
SpansEndBy-both (e ∷ a) b count h k = (h.0, SpansEndBy-both a b count h.1 k)

pub SpansEndBy-parts : (a b : List (ℕ × Span)) (count : ℕ) → SpansEndBy (a ++ b) count →
    SpansEndBy a count × SpansEndBy b count
unfolding SpansEndBy
SpansEndBy-parts [] b count h = (tt, h)
SpansEndBy-parts (e ∷ a) b count h =
    let parts = SpansEndBy-parts a b count h.1 in ((h.0, parts.0), parts.1)

-- those of the first entries and those of the others, each after a change of its own
pub SpansEndBy-change : (ks ks' es es' far : List (ℕ × Span)) → ks ++ es ≡ far → (count : ℕ) →
    (SpansEndBy ks count → SpansEndBy ks' count) → (SpansEndBy es count → SpansEndBy es' count) →
    SpansEndBy far count → SpansEndBy (ks' ++ es') count
SpansEndBy-change ks ks' es es' far is count first second h =
    let parts = SpansEndBy-parts ks es count (subst (λ all. SpansEndBy all count) (sym is) h) in
    SpansEndBy-both ks' es' count (first parts.0) (second parts.1)
