-- What passes have seen, from one section to the next and of both halves together.
use Rattle.std.proofs.Common.{◌≡◌, ◌≢◌, ℕ, ◌+◌, ◌<◌, List, [], ◌∷◌, ◌++◌, sym, subst, ap, arith}
use mathlib.Core.Logic.{dite}
use native.Mathlib.Decide.{ℕ_discrete, dec_lt}
use Rattle.std.proofs.lemmas.List.Elements.{Contains-append_left, Contains-push}
use Rattle.case_core.specs.Case.{CaseOf}
use Rattle.board_hall.specs.declared.pass.Pass.{Pass}
use Rattle.board_hall.specs.declared.view.View.{View}
use Rattle.board_hall.specs.Halls.{HallOf, IsNewPass, view_of}
use Rattle.board_hall.specs.Clauses.{Stays}
use Rattle.check_crew.specs.Seen.{HasSeenSection, HaveSeenSections}
use Rattle.check_crew.proofs.SeenTurns.{section_stays}
use Rattle.own_threads.specs.Inner.Sections.{HasSeenFrom, HasPostedFrom, HavePosted}

-- a new pass has posted what was found of no section
pub none_posted : (hall : HallOf) (first end : ℕ) (pass : Pass) → IsNewPass hall pass →
    first ≡ end →
    HasPostedFrom hall first end pass
none_posted hall first end pass new none =
    let seen : (view_of pass).seen ≡ [] = ap (λ (v : View). v.seen) new.1 in
    record {
      own = (new.0, ap (λ (v : View). v.of) new.1, rw seen (λ post among. absurd among));
      free = ap (λ (v : View). v.owes) new.1;
      seen = λ place from before. absurd (omega (arith, from, before, none));
    }

-- the section behind those that were seen
pub forwards : (v w : View) (first at : ℕ) → Stays v w → HasSeenFrom v first at →
    HasSeenSection w at
    → HasSeenFrom w first (at + 1)
forwards v w first at stays were is place from before =
    dite (ℕ_discrete place at)
    (λ (here : place ≡ at). subst (HasSeenSection w) (sym here) is)
    (λ (other : place ≢ at).
    section_stays v w stays place (were place from (omega (arith, before, other))))

-- the section before those that were seen
pub backwards : (v w : View) (at after end : ℕ) → after ≡ at + 1 → Stays v w →
    HasSeenFrom v after end
    → HasSeenSection w at → HasSeenFrom w at end
backwards v w at after end next stays were is place from before =
    dite (ℕ_discrete place at)
    (λ (here : place ≡ at). subst (HasSeenSection w) (sym here) is)
    (λ (other : place ≢ at).
    section_stays v w stays place (were place (omega (arith, next, from, other)) before))

-- a section of either half was seen by one of the two passes
pub both_halves : (case : CaseOf) (hall : HallOf) (half : ℕ) (rest : List Pass) (ours theirs : Pass)
    → HavePosted case hall half ours theirs →
    HaveSeenSections case ((rest ++ ours ∷ []) ++ theirs ∷ [])
both_halves case hall half rest ours theirs posted place within =
    dite (dec_lt place half)
    (λ (early : place < half).
    let there =
    Contains-append_left (rest ++ ours ∷ []) (theirs ∷ []) ours (Contains-push rest ours) in
    (ours, there, posted.first.seen place (omega arith) early))
    (λ (late : ¬ (place < half)).
    let there = Contains-push (rest ++ ours ∷ []) theirs in
    (theirs, there, posted.second.seen place (omega (arith, late)) within))
