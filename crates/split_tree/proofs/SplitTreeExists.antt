-- Cubes that all fit have a tree.
use Rattle.std.proofs.Common.{◌≡◌, ℕ, zero, suc, ◌+◌, ◌<◌, List, [], ◌∷◌, length, true, false, refl}
use Rattle.std.proofs.Common.{ap, arith}
use Rattle.std.specs.List.{AllByRecursion}
use Rattle.cnf_text.specs.Literal.{Literal}
use Rattle.split_tree.specs.SplitTree.{SplitTree, missing, cube, split, Numbered, SplitsOn, going}
use Rattle.split_tree.specs.SplitTree.{IsTreeOf}
use Rattle.split_tree.specs.Inner.Grow.{AreFit}
use Rattle.split_tree.proofs.GrowWays.{ended_unfit, all_fit_split}
use Rattle.split_tree.proofs.GrowLoop.{fit_going}
use Rattle.split_tree.proofs.SplitTreeUnique.{literals_of, going_literals}

abbrev HasTree : List Numbered → Type 0
HasTree cubes = (tree : SplitTree) × IsTreeOf tree cubes

ended_tree : (c : Numbered) (cubes : List Numbered) → c.literals ≡ [] → AreFit (c ∷ cubes) →
    HasTree (c ∷ cubes)
ended_tree c [] e f =
    (cube c.number, ap (λ (ls : List Literal). record { number = c.number; literals = ls } ∷ []) e)
ended_tree c (d ∷ cubes) e f = absurd (ended_unfit d.literals (rw e at f.0.0))

grown : (n : ℕ) (c : Numbered) (literals : List Literal) (cubes : List Numbered) →
    c.literals ≡ literals → literals_of (c ∷ cubes) < suc n →
    AreFit (c ∷ cubes) →
    ((rest : List Numbered) → literals_of rest < n → AreFit rest → HasTree rest) →
    HasTree (c ∷ cubes)
grown n c [] cubes e h f more = ended_tree c cubes e f
grown n c (l ∷ rest) cubes e h f more =
    let all : AllByRecursion (λ (d : Numbered). SplitsOn l.variable d.literals) (c ∷ cubes) =
    (rw e refl, all_fit_split l rest cubes (rw e at f.0)) in
    let sum : literals_of (going true (c ∷ cubes)) + literals_of (going false (c ∷ cubes))
    + length (c ∷ cubes) ≡ literals_of (c ∷ cubes) =
    going_literals (c ∷ cubes) l.variable all in
    let p =
    more (going true (c ∷ cubes)) (omega arith) (fit_going true l.variable (c ∷ cubes) f all) in
    let q =
    more (going false (c ∷ cubes)) (omega arith) (fit_going false l.variable (c ∷ cubes) f all) in
    (split l.variable p.0 q.0, (λ none. cc, all, p.1, q.1))

-- cubes that fit have a tree
pub fit_tree : (n : ℕ) (cubes : List Numbered) → literals_of cubes < n → AreFit cubes →
    HasTree cubes
fit_tree zero cubes h f = absurd (omega arith)
fit_tree (suc n) [] h f = (missing, refl)
fit_tree (suc n) (c ∷ cubes) h f =
    grown n c c.literals cubes refl h f (λ rest k g. fit_tree n rest k g)
