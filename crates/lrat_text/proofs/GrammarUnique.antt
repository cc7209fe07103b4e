-- Symbols begin with one step at most, and so with one longest list of steps.
use Rattle.std.proofs.Common.{◌≡◌, ℕ, ◌≤◌, List, [], ◌∷◌, ◌++◌, map, length, refl, sym, ◌∙◌, ap}
use Rattle.std.proofs.Common.{arith, append_assoc}
use Rattle.std.specs.List.{AllByRecursion}
use Rattle.lrat_text.specs.declared.steps.Stop.TheVariants as stops
use Rattle.lrat_text.specs.Grammar.{StepSymbol, positive, end_mark, IsId, HintGroup, IsGroup}
use Rattle.lrat_text.specs.Grammar.{hint_symbols, ProofStep, Add, Delete, BeginsWith, BeginsWithAll}
use Rattle.lrat_text.specs.Grammar.{Longest}
use Rattle.lrat_text.specs.StepWords.{NoStep}
use Rattle.lrat_text.proofs.GrammarDecoding.{same_run, same_literals, same_magnitude, heads, tails}
use Rattle.lrat_text.proofs.GrammarDecoding.{signs_differ, hints_nil, hints_cons, addition_parts}
use Rattle.lrat_text.proofs.GrammarDecoding.{no_mark_in_literals}

record SameHints (hints hs : List ℕ) (groups gs : List HintGroup) (a b : List StepSymbol) : Type 0
  where
    pub leading : hints ≡ hs
    pub each : groups ≡ gs
    pub left : a ≡ b

same_hints : (hints hs : List ℕ) (groups gs : List HintGroup) (a b : List StepSymbol) →
    AllByRecursion IsId hints → AllByRecursion IsGroup groups → AllByRecursion IsId hs →
    AllByRecursion IsGroup gs →
    hint_symbols hints groups ++ end_mark ∷ a ≡ hint_symbols hs gs ++ end_mark ∷ b →
    SameHints hints hs groups gs a b
same_hints hints hs [] [] a b all each others every e =
    let same =
    same_run hints hs stops.End stops.End a b all others
    (sym (hints_nil hints (end_mark ∷ a)) ∙ e ∙ hints_nil hs (end_mark ∷ b)) in
    record { leading = same.0; each = refl; left = same.2 }
same_hints hints hs [] (k ∷ ks) a b all each others every e =
    let same =
    same_run hints hs stops.End (stops.Group k.candidate) a _ all others
    (sym (hints_nil hints (end_mark ∷ a)) ∙ e ∙ hints_cons hs k ks (end_mark ∷ b)) in
    absurd (signs_differ 0 k.candidate same.1)
same_hints hints hs (g ∷ gs) [] a b all each others every e =
    let same =
    same_run hints hs (stops.Group g.candidate) stops.End _ b all others
    (sym (hints_cons hints g gs (end_mark ∷ a)) ∙ e ∙ hints_nil hs (end_mark ∷ b)) in
    absurd (signs_differ 0 g.candidate (sym same.1))
same_hints hints hs (g ∷ gs) (k ∷ ks) a b all each others every e =
    let same =
    same_run hints hs (stops.Group g.candidate) (stops.Group k.candidate) _ _ all others
    (sym (hints_cons hints g gs (end_mark ∷ a)) ∙ e ∙ hints_cons hs k ks (end_mark ∷ b)) in
    let more = same_hints g.hints k.hints gs ks a b each.0.1 each.1 every.0.1 every.1 same.2 in
    let candidates : g.candidate ≡ k.candidate = same_magnitude _ _ same.1 in
    let first : g ≡ k = λ i. record { candidate = candidates i; hints = more.leading i } in
    let rest : gs ≡ ks = more.each in
    record { leading = same.0; each = cc; left = more.left }

pub record SameStep (a b : ProofStep) (x y : List StepSymbol) : Type 0 where
  pub step : a ≡ b
  pub left : x ≡ y

-- symbols begin with one step at most, and leave one rest
pub one_step : (symbols : List StepSymbol) (a b : ProofStep) (x y : List StepSymbol) →
    BeginsWith symbols a x → BeginsWith symbols b y → SameStep a b x y
one_step symbols (Add a) (Add b) x y p q =
    let e = sym (p.2 ∙ ap (λ r. r ++ x) p.1.4) ∙ q.2 ∙ ap (λ r. r ++ y) q.1.4 in
    let ids : a.id ≡ b.id = same_magnitude _ _ (heads _ _ _ _ e) in
    let literals =
    same_literals a.literals b.literals _ _ p.1.1 q.1.1
    (sym (addition_parts a.literals a.hints a.groups x) ∙ tails _ _ _ _ e
    ∙ addition_parts b.literals b.hints b.groups y) in
    let found =
    same_hints a.hints b.hints a.groups b.groups x y p.1.2 p.1.3 q.1.2 q.1.3 literals.1 in
    record {
      step = λ i.
          Add (record {
            id = ids i;
            literals = literals.0 i;
            hints = found.leading i;
            groups = found.each i;
          });
      left = found.left;
    }
one_step symbols (Add a) (Delete ids) x y p q =
    let e = sym (q.2 ∙ ap (λ r. r ++ y) q.1.1.2) ∙ p.2 ∙ ap (λ r. r ++ x) p.1.4 in
    absurd (no_mark_in_literals a.literals _ _
    (tails _ _ _ _ e ∙ addition_parts a.literals a.hints a.groups x))
one_step symbols (Delete ids) (Add b) x y p q =
    let e = sym (p.2 ∙ ap (λ r. r ++ x) p.1.1.2) ∙ q.2 ∙ ap (λ r. r ++ y) q.1.4 in
    absurd (no_mark_in_literals b.literals _ _
    (tails _ _ _ _ e ∙ addition_parts b.literals b.hints b.groups y))
one_step symbols (Delete ids) (Delete others) x y p q =
    let e = sym (p.2 ∙ ap (λ r. r ++ x) p.1.1.2) ∙ q.2 ∙ ap (λ r. r ++ y) q.1.1.2 in
    let same = same_run ids others stops.End stops.End x y p.1.0 q.1.0
    (sym (append_assoc (map positive ids) (end_mark ∷ []) x) ∙ tails _ _ _ _ (tails _ _ _ _ e)
    ∙ append_assoc (map positive others) (end_mark ∷ []) y) in
    record { step = ap Delete same.0; left = same.2 }

no_longer : (symbols left : List StepSymbol) (steps : List ProofStep) →
    BeginsWithAll symbols steps left → NoStep left →
    (others : List ProofStep) (after : List StepSymbol) → BeginsWithAll symbols others after →
    length others ≤ length steps
no_longer symbols left steps all none [] after more = omega arith
no_longer symbols left [] all none (o ∷ os) after more = absurd (none o more.0 (rw all at more.1))
no_longer symbols left (s ∷ steps) all none (o ∷ os) after more =
    let same = one_step symbols s o all.0 more.0 all.1 more.1 in
    let shorter = no_longer all.0 left steps all.2 none os after (rw (← same.left) at more.2) in
    omega arith

-- whole steps behind which no whole step stands are the longest list of them
pub longest_at_no_step : (symbols : List StepSymbol) (steps : List ProofStep)
    (left : List StepSymbol) → BeginsWithAll symbols steps left → NoStep left →
    Longest symbols steps left
longest_at_no_step symbols steps left all none =
    record { begins = all; longest = no_longer symbols left steps all none }
