-- Once each section was claimed, its finding is seen by some worker; and where the finding of each
-- section was seen by
-- some pass, it stands on the boards.
use Rattle.std.proofs.Common.{◌≡◌, ◌≢◌, ℕ, suc, ◌<◌, ◌==◌, ◌&&◌, cond, Bool, true, List, [], ◌∷◌}
use Rattle.std.proofs.Common.{◌++◌, Option, None, Some, All, length, flat_map, refl, sym, ap, ◌∙◌}
use Rattle.std.proofs.Common.{subst, arith, inl, inr, ◌⊎◌, append-nil}
use mathlib.Core.Logic.{dite}
use native.Mathlib.Decide.{ℕ_discrete}
use Rattle.std.specs.List.{Contains, list_any, slice_index}
use Rattle.std.proofs.lemmas.Bool.{cases_Bool}
use Rattle.std.proofs.lemmas.Bool.Decides.{nat_tests}
use Rattle.std.proofs.lemmas.List.Concat.{flat_map-append}
use Rattle.std.proofs.lemmas.List.Elements.{All-contains, Contains-append_left}
use Rattle.std.proofs.lemmas.List.Elements.{Contains-append_right, Contains-append_cases}
use Rattle.std.proofs.lemmas.List.Elements.{Contains-push}
use Rattle.std.proofs.lemmas.List.Sums.{sum_by-cons}
use Rattle.std.proofs.lemmas.Grind.{get_or_default_zero}
use Rattle.case_core.specs.Leaves.{IsTargetAt}
use Rattle.case_core.specs.Target.{Target}
use Rattle.case_core.specs.Case.{CaseOf, SectionOf, proof_for, section_at, same_target}
use Rattle.case_core.proofs.CaseTables.{same_target-true}
use Rattle.mark_board.specs.declared.mark.Mark.TheVariants.{Open}
use Rattle.mark_board.specs.Boards.{BoardsOf}
use Rattle.mark_board.specs.Marking.{mark_at}
use Rattle.mark_board.proofs.BoardsGathered.{target_inside}
use Rattle.cube_jobs.specs.Places.{times, EachOnce}
use Rattle.cube_jobs.specs.Jobs.{JobPassOf, claims_of, has_found_empty}
use Rattle.board_hall.specs.declared.pass.Pass.{Pass}
use Rattle.board_hall.specs.declared.view.Post.{Post}
use Rattle.board_hall.specs.declared.view.Proofs.{Proofs}
use Rattle.board_hall.specs.declared.view.Proofs.TheVariants.{InCase}
use Rattle.board_hall.specs.Posts.{mark_in, Among, posts_of, NeedsSection}
use Rattle.board_hall.specs.Halls.{HallOf, IsPassOf, view_of}
use Rattle.board_hall.specs.Clauses.{Gathers}
use Rattle.mark_board.specs.Findings.{IsMarkOf, AreFindings}
use Rattle.check_crew.specs.Inner.Order.{IsOrder}
use Rattle.check_crew.specs.Seen.{HasSeen, HaveSeenSections}
use Rattle.check_crew.specs.Inner.Crew.{HasSeenTurn, HaveSeenClaims}
use Rattle.check_crew.proofs.SeenMarks.{open_or_not, marked_more, real_mark, home_of}
use Rattle.check_crew.proofs.SeenMarks.{marked_section}
use Rattle.case_core.specs.Finding.{HasSection}
use Rattle.board_hall.specs.Clauses.{IsHome}

contains_from_times : (place : ℕ) (xs : List ℕ) → 0 < times place xs → Contains xs place
contains_from_times place [] some_times = absurd (omega arith)
contains_from_times place (x ∷ xs) some_times =
    dite (ℕ_discrete x place)
    (λ (e : x ≡ place).
    Contains-append_left (x ∷ []) xs place (subst (Contains (x ∷ [])) e (Contains-push [] x)))
    (λ (ne : x ≢ place). let none : cond {A = ℕ} (x == place) 1 0 ≡ 0 = grind (arith, nat_tests) in
    Contains-append_right (x ∷ []) xs place
    (contains_from_times place xs
    (omega (arith, sum_by-cons (λ (p : ℕ). cond {A = ℕ} (p == place) 1 0) x xs, none))))

-- each section is claimed by some pass
claimed : (sections place : ℕ) (claims : List ℕ) → EachOnce sections claims → place < sections →
    Contains claims place
claimed sections place claims once below =
    let one = once place in contains_from_times place claims (grind (arith, nat_tests))

-- the section from which a target has its proof
record IsSectionAt (sections : List SectionOf) (target : Target) (place : ℕ) : Type 0 where
  within : place < length sections
  target_is : (section_at sections place).target ≡ target

section_of_proof : (sections : List SectionOf) (target : Target) (proof : List ℕ) →
    proof_for sections target ≡ Some proof → (place : ℕ) × IsSectionAt sections target place
section_of_proof [] target proof is = absurd (cc)
section_of_proof (section ∷ sections) target proof is =
    elim (cases_Bool (same_target section.target target)) [
      | inl same ↦ (
        0,
        record { within = omega arith; target_is = same_target-true section.target target same },
      )
      | inr other ↦ let later = section_of_proof sections target proof (rw other at is) in (
        suc later.0,
        record { within = omega (arith, later.1.within); target_is = later.1.target_is },
      )
    ]

module _ (hall : HallOf) (passes : List Pass) (boards : BoardsOf)
    (gathered : Gathers hall passes boards) where
  -- what one of the passes has seen is marked on the boards
  seen_marked : All (IsPassOf hall) passes → (pass : Pass) → Contains passes pass → (node : ℕ) →
      HasSeen (view_of pass) node → mark_at boards.marks node ≢ Open
  seen_marked own pass one node seen =
      let of_hall : (view_of pass).of ≡ hall.of =
      (All-contains (IsPassOf hall) passes pass own one).1 in
      let posts : List Post = posts_of gathered.state.views in
      let hold =
      All-contains
      (λ p. (post : Post) → Among post (view_of p).posts ⊎ Among post (view_of p).seen →
      Among post posts) passes pass gathered.includes one in
      let there : mark_in posts seen.board seen.row ≢ Open =
      marked_more (view_of pass).seen posts (λ post among. hold post (inr among)) seen.board
      seen.row seen.marked in
      rw (gathered.hold.marks node seen.board seen.row (rw of_hall at seen.home)) there

  -- the mark of a section's target is not open
  section_marked : All (IsPassOf hall) passes → HaveSeenSections hall.of.case passes
      → (node place : ℕ) (target : Target) → IsTargetAt hall.of.case.tree node target →
      IsSectionAt hall.of.case.sections target place → mark_at boards.marks node ≢ Open
  section_marked own seen node place target at section =
      let some = seen place section.within in
      let pass : Pass = some.0 in
      let of_hall : (view_of pass).of ≡ hall.of =
      (All-contains (IsPassOf hall) passes pass own some.1).1 in
      seen_marked own pass some.1 node (some.2 node (rw (of_hall, section.target_is) at))

  -- where the finding of each section was seen, a target that has a mark only where it has a
  -- section has the mark of its finding
  mark_where : All (IsPassOf hall) passes → HaveSeenSections hall.of.case passes
      → (node : ℕ) (target : Target) → IsTargetAt hall.of.case.tree node target
      → ((board row : ℕ) → IsHome hall.of node board row
      → mark_in (posts_of gathered.state.views) board row ≢ Open → HasSection hall.of.case target)
      → IsMarkOf hall.of.case target (mark_at boards.marks node)
  mark_where own seen node target at only =
      is_mark (proof_for hall.of.case.sections target) refl
    where
      is_mark : (proof : Option (List ℕ)) → proof_for hall.of.case.sections target ≡ proof →
          IsMarkOf hall.of.case target (mark_at boards.marks node)
      is_mark proof e =
          let posts : List Post = posts_of gathered.state.views in
          let home = home_of hall.of node (target_inside hall.of.case.tree node target at) in
          let mark : mark_at boards.marks node ≡ mark_in posts home.0 home.1 =
          gathered.hold.marks node home.0 home.1 home.2 in
          elim (open_or_not (mark_in posts home.0 home.1)) [
            | inl none ↦ open_mark proof e (mark ∙ none)
            | inr some ↦ rw mark
                (real_mark hall.of posts gathered.real node home.0 home.1 target home.2 at
                (only home.0 home.1 home.2 some) some)
          ]
        where
          open_mark : (proof : Option (List ℕ)) → proof_for hall.of.case.sections target ≡ proof
              → mark_at boards.marks node ≡ Open →
              IsMarkOf hall.of.case target (mark_at boards.marks node)
          open_mark None e none = rw e none
          open_mark (Some proof) e none =
              let section = section_of_proof hall.of.case.sections target proof e in
              absurd (section_marked own seen node section.0 target at section.1 none)

  -- where the finding of each section was seen, a target with a section has the mark of its finding
  pub section_mark : All (IsPassOf hall) passes → HaveSeenSections hall.of.case passes
      → (node : ℕ) (target : Target) → IsTargetAt hall.of.case.tree node target
      → HasSection hall.of.case target → IsMarkOf hall.of.case target (mark_at boards.marks node)
  section_mark own seen node target at has =
      mark_where own seen node target at (λ board row home some. has)

  -- and so has a target whose proof can only be its section
  needed_mark : All (IsPassOf hall) passes → HaveSeenSections hall.of.case passes
      → (node : ℕ) (target : Target) → NeedsSection hall.of.proofs target →
      IsTargetAt hall.of.case.tree node target →
      IsMarkOf hall.of.case target (mark_at boards.marks node)
  needed_mark own seen node target needs at =
      mark_where own seen node target at
      (λ board row home some.
      marked_section hall.of (posts_of gathered.state.views) gathered.real node board row target
      needs home at some)

  -- where no proof is elsewhere, each node has the mark of its finding
  pub are_findings : hall.of.proofs ≡ InCase → All (IsPassOf hall) passes
      → HaveSeenSections hall.of.case passes → AreFindings hall.of.case boards.marks
  are_findings alone own seen = record {
    long = gathered.hold.long;
    each = λ node target at.
        needed_mark own seen node target
        (subst (λ (p : Proofs). NeedsSection p target) (sym alone) tt) at;
  }

-- where each turn was claimed by some pass, the finding of each section was seen
pub sections_seen : (case : CaseOf) (order : List ℕ) (passes : List Pass)
    (job_passes : List JobPassOf)
    → IsOrder (length case.sections) order → HaveSeenClaims order passes job_passes
    → EachOnce (length order) (flat_map claims_of job_passes) → HaveSeenSections case passes
sections_seen case order passes job_passes in_order seen once place within =
    let there = in_order.each place within in
    let some =
    seen there.0 (claimed (length order) there.0 (flat_map claims_of job_passes) once there.1) in
    let is : slice_index order there.0 ≡ place =
    sym (get_or_default_zero order there.0 place there.1) ∙ there.2 in
    (some.0, some.1, rw is at some.2)

-- one worker more has handed in its passes
pub claims_more : (order : List ℕ) (passes : List Pass) (job_passes : List JobPassOf) (pass : Pass)
    (job_pass : JobPassOf) → HaveSeenClaims order passes job_passes
    → All (HasSeenTurn order (view_of pass)) job_pass.claims →
    HaveSeenClaims order (passes ++ pass ∷ []) (job_passes ++ job_pass ∷ [])
claims_more order passes job_passes pass job_pass were are place claim =
    let joined : flat_map claims_of (job_passes ++ job_pass ∷ [])
    ≡ flat_map claims_of job_passes ++ job_pass.claims =
    flat_map-append claims_of job_passes (job_pass ∷ [])
    ∙ ap (λ (xs : List ℕ). flat_map claims_of job_passes ++ xs) (append-nil job_pass.claims) in
    elim (Contains-append_cases (flat_map claims_of job_passes) job_pass.claims place
    (rw joined at claim)) [
      | inl early ↦ let some = were place early in
          (some.0, Contains-append_left passes (pass ∷ []) some.0 some.1, some.2)
      | inr late ↦ (
        pass,
        Contains-push passes pass,
        All-contains (HasSeenTurn order (view_of pass)) job_pass.claims place are late,
      )
    ]

-- one of the passes has found the queue empty
pub some_found_empty : (passes : List JobPassOf) → 0 < length passes →
    All (λ p. p.found_empty ≡ true) passes → list_any has_found_empty passes ≡ true
some_found_empty [] some_pass all = absurd (omega arith)
some_found_empty (p ∷ ps) some_pass all =
    let h : p.found_empty ≡ true = all 0 p (omega arith) in rw h refl

-- both tests hold
pub both_true : (m n : ℕ) (b : Bool) → m ≡ n → b ≡ true → ((m == n) && b) ≡ true
both_true m n b e t = rw (e, t) (grind (arith, nat_tests))
