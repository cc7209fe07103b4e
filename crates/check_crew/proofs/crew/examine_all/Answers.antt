use Rattle.std.proofs.Common.{◌≡◌, ◌<◌, length, vec_len, flat_map, sym, ◌∙◌, subst, arith}
use Rattle.std.proofs.Common.{rules}
use Rattle.std.proofs.lemmas.Bool.{false≢true}
use Rattle.cube_jobs.specs.Places.{EachOnce}
use Rattle.cube_jobs.specs.Jobs.{claims_of}
use Rattle.check_crew.proofs.SeenFindings.{sections_seen, some_found_empty, both_true}
use Rattle.check_crew.proofs.crew.examine_all.Goals as goal

pub unreachable-requires : goal.unreachable-requires
unreachable-requires g c =
    let handed = c.in_ok-handed.handed in let are = c.in_ok-handed.ensures.handed in
    let count : vec_len handed.job_passes ≡ c.in_ok-jobs.jobs.passes =
    omega (arith, are.job_passes_count, c.requires.pairs, c.in_ok-jobs.ensures.count.0) in
    let some : 0 < vec_len handed.job_passes =
    omega (arith, are.job_passes_count, c.requires.count.0) in
    let any =
    some_found_empty handed.job_passes.items (omega (arith, some, handed.job_passes.ok))
    are.empty in
    false≢true (c.if-not-finish.ensures.exactly ∙ both_true _ _ _ count any)

pub returns-clause-seen : goal.returns-clause-seen
returns-clause-seen g c =
    let order = c.in_ok-order.order.items in
    let turns : c.in_ok-jobs.jobs.sections ≡ length order =
    c.in_ok-jobs.ensures.sections ∙ sym c.in_ok-order.ensures.long in
    let handed = c.in_ok-handed.handed in
    let once =
    subst (λ n. EachOnce n (flat_map claims_of handed.job_passes.items)) turns
    (c.if-not-finish.ensures.once (search rules)) in
    sections_seen c.args.site.case.now order handed.passes.items handed.job_passes.items
    c.in_ok-order.ensures (rw c.deref.ensures.value at c.in_ok-handed.ensures.handed.seen) once

pub returns-clause-lists : goal.returns-clause-lists
returns-clause-lists g c = c.in_ok-handed.ensures.handed.lists
