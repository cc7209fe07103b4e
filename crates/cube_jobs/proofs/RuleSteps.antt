-- Each step keeps the rule of the queue.
use Rattle.std.proofs.Common.{◌≡◌, ◌≢◌, ℕ, zero, suc, ◌+◌, ◌-◌, ◌<◌, ◌≤◌, ◌==◌, cond, List, [], ◌∷◌}
use Rattle.std.proofs.Common.{◌++◌, All, length, get_or, drop, set, sym, refl, ap, ◌∙◌, subst}
use Rattle.std.proofs.Common.{⊎_elim, arith}
use mathlib.Core.Option.{some, some-ne-none}
use mathlib.Core.Logic.{dite}
use native.Mathlib.Decide.{dec_lt}
use lib.ListN.{get_elem?}
use Rattle.std.specs.List.{range_with_len}
use Rattle.std.proofs.lemmas.List.Elements.{All-nil, All-cons}
use Rattle.std.proofs.lemmas.List.Sums.{sum_by-cons}
use Rattle.std.proofs.lemmas.Bool.Decides.{nat_tests}
use Rattle.crossbeam_deque.specs.Tasks.{Pushes, Takes, Finds, Forks, Merges}
use Rattle.crossbeam_queue.proofs.Lists.{at_set, at_snoc}
use Rattle.cube_jobs.specs.declared.rule.Knowledge.{Knowledge}
use Rattle.cube_jobs.specs.Places.{times, EachOnce}
use Rattle.cube_jobs.specs.Rule.{knowing, added_up, Fits, HeldOnce, FoundEmpty}
use Rattle.cube_jobs.specs.Inner.Rule.{Claims}
use Rattle.cube_jobs.proofs.RuleTotals.{times-append, total_set, total_snoc, total_at, total_two}
use Rattle.cube_jobs.proofs.RuleTotals.{total_only}

abbrev AllFit : ℕ → ℕ → List Knowledge → Type 0
AllFit sections all views =
    (pass : ℕ) (v : Knowledge) → get_elem? views pass ≡ some v → Fits sections all v

-- one pass changes
fit_set : (sections all : ℕ) (views : List Knowledge) (port : ℕ) (w : Knowledge) →
    Fits sections all w
    → ((j : ℕ) (u : Knowledge) → j ≢ port → get_elem? views j ≡ some u → Fits sections all u) →
    AllFit sections all (set views port w)
fit_set sections all views port w mine others j u e =
    ⊎_elim (λ (x : (j ≡ port) × (w ≡ u)). subst (λ (y : Knowledge). Fits sections all y) x.1 mine)
    (λ (x : (j ≢ port) × (get_elem? views j ≡ some u)). others j u x.0 x.1)
    (at_set views port j w u e)

-- one pass comes
fit_snoc : (sections all : ℕ) (views : List Knowledge) (w : Knowledge) → Fits sections all w →
    AllFit sections all views → AllFit sections all (views ++ w ∷ [])
fit_snoc sections all views w new old j u e =
    ⊎_elim (old j u) (λ (is : w ≡ u). subst (λ (y : Knowledge). Fits sections all y) is new)
    (at_snoc views w u j e)

-- a pass with no share and no claims fits any numbers
idle_fits : (sections all : ℕ) → Fits sections all (knowing 0 0 0 [])
idle_fits sections all = record { known = λ some_part. absurd (omega arith); idle = λ _. refl }

-- where one pass has all shares, the others fit any numbers
others_fit : (sections all : ℕ) (views : List Knowledge) (port : ℕ) (v : Knowledge) →
    get_elem? views port ≡ some v → added_up (λ u. u.shares) views ≡ v.shares →
    AllFit sections all views
    → (sections' all' : ℕ) (j : ℕ) (u : Knowledge) → j ≢ port → get_elem? views j ≡ some u →
    Fits sections' all' u
others_fit sections all views port v at whole fit sections' all' j u apart e =
    let two = total_two (λ x. x.shares) views port j v u (λ k. apart (sym k)) at e in
    record { known = λ some_part. absurd (omega arith); idle = (fit j u e).idle }

alone : (v : Knowledge) (j : ℕ) (u : Knowledge) → j ≢ 0 → get_elem? (v ∷ []) j ≡ some u → ⊥
alone v zero u apart e = apart refl
alone v (suc j) u apart e = some-ne-none u (sym e)

-- at first nothing is held twice
pub begins : HeldOnce [] (knowing 0 1 1 [] ∷ [])
begins = record {
  next = 0;
  left = 0;
  all_shares = 1;
  waiting = refl;
  claimed = λ place. grind (arith, nat_tests);
  shares = refl;
  fit =
      fit_set 0 1 (knowing 0 1 1 [] ∷ []) 0 (knowing 0 1 1 [])
      (record { known = λ _. (refl, refl); idle = λ _. refl })
      (λ j u apart e. absurd (alone (knowing 0 1 1 []) j u apart e));
}

-- the places from one on and the one behind them
range_more : (next left : ℕ) →
    range_with_len next (suc left) ≡ range_with_len next left ++ (next + left) ∷ []
range_more next zero = ap (λ (n : ℕ). n ∷ []) (omega arith)
range_more next (suc left) =
    ap (λ (xs : List ℕ). next ∷ xs)
    (range_more (next + 1) left
    ∙ ap (λ (n : ℕ). range_with_len (next + 1) left ++ n ∷ []) (omega arith))

-- one more section in the queue keeps the rule
pub puts : (port : ℕ) (v : Knowledge) (place : ℕ) → 0 < v.shares → v.shares ≡ v.all_shares →
    v.sections ≡ place
    →
    Pushes HeldOnce port v (place ∷ [])
    (λ w. w ≡ knowing (v.sections + 1) v.all_shares v.shares v.claims)
puts port v place share whole is items views h at =
    let w : Knowledge = knowing (v.sections + 1) v.all_shares v.shares v.claims in
    let mine = (h.fit port v at).known share in
    let sections : v.sections ≡ h.next + h.left = mine.0 in
    let all : v.all_shares ≡ h.all_shares = mine.1 in
    let next : h.next + h.left ≡ place = sym sections ∙ is in (
      w,
      record {
        next = h.next;
        left = suc h.left;
        all_shares = h.all_shares;
        waiting = rw (h.waiting, ← next) (sym (range_more h.next h.left));
        claimed = λ other. let claims = total_set (λ u. times other u.claims) views port v w at in
            let was = h.claimed other in omega (arith, claims, was);
        shares = omega (arith, total_set (λ u. u.shares) views port v w at, h.shares);
        fit =
            fit_set (h.next + suc h.left) h.all_shares views port w
            (record { known = λ _. (omega (arith, sections), all); idle = (h.fit port v at).idle })
            (others_fit (h.next + h.left) h.all_shares views port v at
            (h.shares ∙ sym all ∙ sym whole) h.fit (h.next + suc h.left) h.all_shares);
      },
      refl,
    )

-- the first of the places from one on
record IsFirst (place : ℕ) (places : List ℕ) (next left : ℕ) : Type 0 where
  is : place ≡ next
  fewer : ℕ
  one_less : left ≡ fewer + 1
  others : places ≡ range_with_len (next + 1) fewer

first_of : (place : ℕ) (places : List ℕ) (next left : ℕ) →
    place ∷ places ≡ range_with_len next left → IsFirst place places next left
first_of place places next zero is =
    let none : suc (length places) ≡ 0 = ap (λ (xs : List ℕ). length xs) is in absurd (omega arith)
first_of place places next (suc left) is = record {
  is = ap (λ (xs : List ℕ). get_or xs 0 0) is;
  fewer = left;
  one_less = omega arith;
  others = ap (λ (xs : List ℕ). drop 1 xs) is;
}

-- what stands nowhere in a list from `next` on is before it
all_before : (next : ℕ) (claims : List ℕ) → ((place : ℕ) → next ≤ place → times place claims ≡ 0) →
    All (λ earlier. earlier < next) claims
all_before next [] none = All-nil (λ earlier. earlier < next)
all_before next (x ∷ xs) none =
    let one : cond {A = ℕ} (x == x) 1 0 ≡ 1 = grind (arith, nat_tests) in
    let here = sum_by-cons (λ (p : ℕ). cond {A = ℕ} (p == x) 1 0) x xs in
    let before : x < next =
    dite (dec_lt x next) (λ (is : x < next). is)
    (λ not_before. let is_none = none x (omega (arith, not_before)) in absurd (omega arith)) in
    All-cons (λ earlier. earlier < next) x xs before
    (all_before next xs
    (λ place later.
    omega (arith, none place later, sum_by-cons (λ (p : ℕ). cond {A = ℕ} (p == place) 1 0) x xs)))

-- a claim keeps the rule
pub takes : (port : ℕ) (v : Knowledge) → 0 < v.shares → Takes HeldOnce port v 1 (Claims v)
takes port v share [] items views any few h at = absurd (omega arith)
takes port v share (x ∷ y ∷ xs) items views any few h at = absurd (omega arith)
takes port v share (x ∷ []) items views any few h at =
    let w : Knowledge = knowing v.sections v.all_shares v.shares (v.claims ++ x ∷ []) in
    let mine = (h.fit port v at).known share in
    let sections : v.sections ≡ h.next + h.left = mine.0 in
    let first : IsFirst x items h.next h.left = first_of x items h.next h.left h.waiting in
    let is : x ≡ h.next = first.is in
    let again : (h.next + 1) + first.fewer ≡ h.next + h.left = omega (arith, first.one_less) in (
      w,
      record {
        next = h.next + 1;
        left = first.fewer;
        all_shares = h.all_shares;
        waiting = first.others;
        claimed = λ place. let claims = total_set (λ u. times place u.claims) views port v w at in
            let was = h.claimed place in
            let here = times-append place v.claims (x ∷ []) in grind (arith, nat_tests);
        shares = omega (arith, total_set (λ u. u.shares) views port v w at, h.shares);
        fit = subst (λ n. AllFit n h.all_shares (set views port w)) (sym again)
            (fit_set (h.next + h.left) h.all_shares views port w
            (record { known = λ _. mine; idle = λ none. absurd (omega arith) })
            (λ j u apart e. h.fit j u e));
      },
      record {
        grown = refl;
        within =
            All-cons (λ place. place < v.sections) x []
            (omega (arith, first.one_less, sections, is)) (All-nil (λ place. place < v.sections));
        later = All-cons (λ place. All (λ earlier. earlier < place) v.claims) x []
            (all_before x v.claims
            (λ place later. let at_most = total_at (λ u. times place u.claims) views port v at in
            let was = h.claimed place in grind (arith, nat_tests)))
            (All-nil (λ place. All (λ earlier. earlier < place) v.claims));
      },
    )

-- finding the queue empty keeps the rule
pub finds : (port : ℕ) (v : Knowledge) → Finds HeldOnce port v (FoundEmpty v)
finds port v views h at = record { views = views; pass = port; held = h; knew = at }

none_left : (next left : ℕ) → [] ≡ range_with_len next left → left ≡ 0
none_left next zero is = refl
none_left next (suc left) is =
    let none : 0 ≡ suc (length (range_with_len (next + 1) left)) =
    ap (λ (xs : List ℕ). length xs) is in absurd (omega arith)

-- who has all shares has all claims
pub learns : (v : Knowledge) → 0 < v.shares → v.shares ≡ v.all_shares → FoundEmpty v →
    EachOnce v.sections v.claims
learns v share whole found place =
    let h = found.held in
    let mine = (h.fit found.pass v found.knew).known share in
    let none : h.left ≡ 0 = none_left h.next h.left h.waiting in
    let sections : v.sections ≡ h.next = omega (arith, mine.0, none) in
    let only =
    total_only (λ u. times place u.claims) (λ u. u.shares) found.views found.pass v
    (λ j u e idle. ap (times place) ((h.fit j u e).idle idle)) found.knew
    (h.shares ∙ sym mine.1 ∙ sym whole) in
    rw sections (sym only ∙ h.claimed place)

-- one more pass keeps the rule while the queue is filled
pub grows : (port : ℕ) (v : Knowledge) → 0 < v.shares → v.shares ≡ v.all_shares →
    Forks HeldOnce port v (knowing v.sections (v.all_shares + 1) (v.shares + 1) v.claims)
    (knowing 0 0 0 [])
grows port v share whole items views h at =
    let left : Knowledge = knowing v.sections (v.all_shares + 1) (v.shares + 1) v.claims in
    let right : Knowledge = knowing 0 0 0 [] in
    let mine = (h.fit port v at).known share in let all : v.all_shares ≡ h.all_shares = mine.1 in
    record {
      next = h.next;
      left = h.left;
      all_shares = h.all_shares + 1;
      waiting = h.waiting;
      claimed =
          λ place. omega (
            arith,
            total_snoc (λ u. times place u.claims) (set views port left) right,
            total_set (λ u. times place u.claims) views port v left at,
            h.claimed place,
          );
      shares =
          omega (
            arith,
            total_snoc (λ u. u.shares) (set views port left) right,
            total_set (λ u. u.shares) views port v left at,
            h.shares,
          );
      fit =
          fit_snoc (h.next + h.left) (h.all_shares + 1) (set views port left) right
          (idle_fits (h.next + h.left) (h.all_shares + 1))
          (fit_set (h.next + h.left) (h.all_shares + 1) views port left
          (record {
            known = λ _. (mine.0, ap (λ k. k + 1) all);
            idle = λ none. absurd (omega arith);
          })
          (others_fit (h.next + h.left) h.all_shares views port v at
          (h.shares ∙ sym all ∙ sym whole) h.fit (h.next + h.left) (h.all_shares + 1)));
    }

-- a pass that is split keeps the rule
pub shares : (port : ℕ) (v : Knowledge) → 1 < v.shares →
    Forks HeldOnce port v (knowing v.sections v.all_shares (v.shares - 1) v.claims)
    (knowing v.sections v.all_shares 1 [])
shares port v some_parts items views h at =
    let left : Knowledge = knowing v.sections v.all_shares (v.shares - 1) v.claims in
    let right : Knowledge = knowing v.sections v.all_shares 1 [] in
    let mine = (h.fit port v at).known (omega arith) in
    record {
      next = h.next;
      left = h.left;
      all_shares = h.all_shares;
      waiting = h.waiting;
      claimed =
          λ place. omega (
            arith,
            total_snoc (λ u. times place u.claims) (set views port left) right,
            total_set (λ u. times place u.claims) views port v left at,
            h.claimed place,
          );
      shares =
          omega (
            arith,
            total_snoc (λ u. u.shares) (set views port left) right,
            total_set (λ u. u.shares) views port v left at,
            h.shares,
          );
      fit =
          fit_snoc (h.next + h.left) h.all_shares (set views port left) right
          (record { known = λ _. mine; idle = λ none. refl })
          (fit_set (h.next + h.left) h.all_shares views port left
          (record { known = λ _. mine; idle = λ none. absurd (omega arith) })
          (λ i x _ there. h.fit i x there));
    }

-- a pass that takes over what another knows keeps the rule
pub merges : (port : ℕ) (v : Knowledge) (other : ℕ) (w : Knowledge) → 0 < v.shares
    →
    Merges HeldOnce port v other w
    (knowing v.sections v.all_shares (v.shares + w.shares) (v.claims ++ w.claims))
    (knowing 0 0 0 [])
merges port v other w share items views h at apart at' =
    let both : Knowledge =
    knowing v.sections v.all_shares (v.shares + w.shares) (v.claims ++ w.claims) in
    let spent : Knowledge = knowing 0 0 0 [] in
    let mine = (h.fit port v at).known share in
    let two : List Knowledge = set views port both in
    record {
      next = h.next;
      left = h.left;
      all_shares = h.all_shares;
      waiting = h.waiting;
      claimed =
          λ place. omega (
            arith,
            total_set (λ u. times place u.claims) two other w spent at',
            total_set (λ u. times place u.claims) views port v both at,
            times-append place v.claims w.claims,
            h.claimed place,
          );
      shares =
          omega (
            arith,
            total_set (λ u. u.shares) two other w spent at',
            total_set (λ u. u.shares) views port v both at,
            h.shares,
          );
      fit =
          fit_set (h.next + h.left) h.all_shares two other spent
          (idle_fits (h.next + h.left) h.all_shares)
          (λ j u _ e. fit_set (h.next + h.left) h.all_shares views port both
          (record { known = λ _. mine; idle = λ none. absurd (omega arith) })
          (λ i x _ there. h.fit i x there) j u e);
    }
