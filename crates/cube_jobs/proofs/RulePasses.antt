-- What passes know together, as their callers see them.
use Rattle.std.proofs.Common.{◌≡◌, ℕ, ◌+◌, List, [], ◌∷◌, ◌++◌, subst, ap, ◌∙◌, arith, flat_map}
use Rattle.std.proofs.Common.{append-nil}
use Rattle.crossbeam_queue.specs.SegTies.{SegId}
use Rattle.std.proofs.Common.{Global}
use Rattle.std.proofs.lemmas.List.Concat.{flat_map-append}
use Rattle.cube_jobs.specs.declared.rule.Knowledge.{Knowledge}
use Rattle.cube_jobs.specs.Places.{times, EachOnce}
use Rattle.cube_jobs.specs.Rule.{knowing}
use Rattle.cube_jobs.specs.Jobs.{IsJobPassOf, JobPassOf, JobsOf, claims_of, new_pass}
use Rattle.cube_jobs.proofs.RuleTotals.{times-append}

-- a pass that is popped and the passes that are left have the claims of all
each_once_popped : (n : ℕ) (all others : List JobPassOf) (last : JobPassOf) →
    all ≡ others ++ last ∷ [] → EachOnce n (last.claims ++ flat_map claims_of others) →
    EachOnce n (flat_map claims_of all)
each_once_popped n all others last is each place =
    let e = each place in
    let both = times-append place last.claims (flat_map claims_of others) in
    let turned = times-append place (flat_map claims_of others) (last.claims ++ []) in
    let none = ap (times place) (append-nil last.claims) in
    rw (is, flat_map-append) (turned ∙ (omega (arith, both, none) ∙ e))

-- what is known once as many passes as there are were merged
pub each_once_merged : (jobs : JobsOf) (all others : List JobPassOf) (last : JobPassOf) (count : ℕ)
    (known : Knowledge) → all ≡ others ++ last ∷ [] → IsJobPassOf jobs last
    → count + 1 ≡ jobs.passes
    →
    known ≡ knowing last.sections last.passes (1 + count) (last.claims ++ flat_map claims_of others)
    → (known.shares ≡ known.all_shares → EachOnce known.sections known.claims) →
    EachOnce jobs.sections (flat_map claims_of all)
each_once_merged jobs all others last count known is mine whole are each =
    let then =
    subst (λ (k : Knowledge). k.shares ≡ k.all_shares → EachOnce k.sections k.claims) are each in
    each_once_popped jobs.sections all others last is
    (subst (λ n. EachOnce n (last.claims ++ flat_map claims_of others)) mine.sections
    (then (omega (arith, mine.passes))))

-- a pass made of a seat of the queue is a new one
pub new_is : (queue own : SegId Global) (pass : JobPassOf) (numbers other : ℕ × ℕ) →
    pass ≡ new_pass record { queue = own; sections = numbers.0; passes = numbers.1 } →
    numbers.0 ≡ other.0 → numbers.1 ≡ other.1 → own.web ≡ queue.web → own.heap ≡ queue.heap
    → pass ≡ new_pass record { queue = queue; sections = other.0; passes = other.1 }
new_is queue own pass numbers other is sections passes web heap =
    is
    ∙ (λ i. new_pass record
    { queue = record { web = web i; heap = heap i }; sections = sections i; passes = passes i })
