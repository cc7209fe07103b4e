-- The tree of a bundle can be told from a report on it.
use Rattle.std.proofs.Common.{◌≢◌, ℕ, ◌+◌, ◌≤◌, List, [], ◌∷◌, ◌++◌}
use Rattle.std.proofs.Common.{Bool, true, false, cond, refl, arith, inl, inr, map, Option, None}
use Rattle.std.proofs.Common.{Some}
use Rattle.std.specs.List.{AllByRecursion}
use Rattle.std.specs.Bool.{beq}
use Rattle.std.specs.Str.{bytes_eq}
use Rattle.std.proofs.lemmas.Bool.{cases_eq}
use Rattle.mark_board.proofs.MarkingLaws.{test_same, test_other}
use Rattle.case_core.specs.Literal.{Literal, IsVariable, greatest_variable}
use Rattle.case_core.specs.Icnf.{Item, ClauseItem, CubeItem, Symbol, Signed, EndMark, CubeMark}
use Rattle.case_core.specs.Icnf.{Unknown}
use Rattle.case_core.specs.Icnf.{InRange, cubes_of, spelled, spelling, symbol_of, symbol_of_number}
use Rattle.case_core.specs.Icnf.{symbols_of}
use Rattle.case_core.specs.Numbers.{Number, number_of}
use Rattle.case_core.specs.Tokens.{Token}
use Rattle.case_core.specs.Case.{CaseOf}
use Rattle.case_core.specs.Sections.{IsCaseOf}
use Rattle.split_tree.specs.SplitTree.{SplitTree, missing, cube, split, Numbered, numbered}
use Rattle.split_tree.specs.SplitTree.{IsTreeOf}
use Rattle.split_tree.specs.SplitTree.{going, going_with, SplitsOn}
use Rattle.split_tree.proofs.LeavesPaths.{cube_leaves}
use Rattle.cube_join.specs.Joined.{HasVariables, IsLegible}
use Rattle.cube_join.specs.Inner.Fields.{AreVariables}
use Rattle.cube_join.proofs.OwnReading.{AreWords}

-- ---- no literal of an iCNF text is of variable 0

abbrev IsNumbered : Symbol → Type 0
IsNumbered (Signed literal) = 1 ≤ literal.variable
IsNumbered EndMark = Unit {0}
IsNumbered CubeMark = Unit {0}
IsNumbered Unknown = Unit {0}

number_numbered : (number : Option Number) → IsNumbered (symbol_of_number number)
number_numbered None = tt
number_numbered (Some number) = elim (cases_eq number.magnitude 0) [
  | inl same ↦ rw (test_same number.magnitude 0 same) tt
  | inr other ↦ rw (test_other number.magnitude 0 other) (omega (arith, other))
]

symbol_numbered : (bytes : List ℕ) → IsNumbered (symbol_of bytes)
symbol_numbered bytes = elim (bytes_eq bytes (97 ∷ [])) as (λ t.
    IsNumbered (cond t CubeMark (symbol_of_number (number_of bytes)))) [
      | true ↦ tt
      | false ↦ number_numbered (number_of bytes)
    ]

symbols_numbered : (tokens : List Token) → AllByRecursion IsNumbered (symbols_of tokens)
symbols_numbered [] = tt
symbols_numbered (token ∷ tokens) = (symbol_numbered token.bytes, symbols_numbered tokens)

behind_item : (P : Symbol → Type 0) (front rest : List Symbol) → AllByRecursion P (front ++ rest) →
    AllByRecursion P front × AllByRecursion P rest
behind_item P [] rest h = (tt, h)
behind_item P (s ∷ front) rest h =
    let both = behind_item P front rest h.1 in ((h.0, both.0), both.1)

literals_fine : (literals : List Literal) (rest : List Symbol) →
    AllByRecursion IsNumbered (map Signed literals ++ rest) →
    AllByRecursion (λ literal. literal.variable ≤ greatest_variable) literals →
    AreVariables literals
literals_fine [] rest low high = tt
literals_fine (l ∷ literals) rest low high =
    ((low.0, high.0), literals_fine literals rest low.1 high.1)

-- ---- so it is on the way down a tree

abbrev Fine : List Numbered → Type 0
Fine [] = Unit {0}
Fine (c ∷ cubes) = AreVariables c.literals × Fine cubes

items_fine : (n : ℕ) (items : List Item) → AllByRecursion IsNumbered (spelled items) →
    InRange items → Fine (numbered n (cubes_of items))
items_fine n [] low high = tt
items_fine n (ClauseItem literals ∷ items) low high =
    items_fine n items
    (behind_item IsNumbered (spelling (ClauseItem literals)) (spelled items) low).1 high.1
items_fine n (CubeItem literals ∷ items) low high =
    let both = behind_item IsNumbered (spelling (CubeItem literals)) (spelled items) low in
    (literals_fine literals (EndMark ∷ []) both.0.1 high.0, items_fine (n + 1) items both.1 high.1)

fine_with : (sign : Bool) (number : ℕ) (literals : List Literal) (others : List Numbered) →
    AreVariables literals → Fine others → Fine (going_with sign number literals others)
fine_with sign number [] others s f = f
fine_with sign number (l ∷ rest) others s f = elim (beq l.positive sign) as (λ t.
    Fine (cond t (record { number = number; literals = rest } ∷ others) others)) [
      | true ↦ (s.1, f)
      | false ↦ f
    ]

fine_going : (sign : Bool) (cubes : List Numbered) → Fine cubes → Fine (going sign cubes)
fine_going sign [] f = tt
fine_going sign (c ∷ cubes) f =
    fine_with sign c.number c.literals (going sign cubes) f.0 (fine_going sign cubes f.1)

first_fine : (v : ℕ) (literals : List Literal) → SplitsOn v literals → AreVariables literals →
    IsVariable v
first_fine v [] s h = absurd s
first_fine v (l ∷ rest) s h = rw s at h.0

some_fine : (v : ℕ) (cubes : List Numbered) → cubes ≢ [] →
    AllByRecursion (λ c. SplitsOn v c.literals) cubes → Fine cubes → IsVariable v
some_fine v [] some s f = absurd (some refl)
some_fine v (c ∷ cubes) some s f = first_fine v c.literals s.0 f.0

variables_of : (tree : SplitTree) (cubes : List Numbered) → IsTreeOf tree cubes → Fine cubes →
    HasVariables tree
variables_of missing cubes t f = tt
variables_of (cube k) cubes t f = tt
variables_of (split v p n) cubes t f = (
  some_fine v cubes t.0 t.1 f,
  variables_of p (going true cubes) t.2 (fine_going true cubes f),
  variables_of n (going false cubes) t.3 (fine_going false cubes f),
)

-- ---- bundles

-- the tree of a bundle's cubes can be told from a report on it
pub legible_in : (bundle : List ℕ) (case : CaseOf) → IsCaseOf bundle case → IsLegible case.tree
legible_in bundle case is =
    let leaves = cube_leaves case.tree (cubes_of is.items) _ is.tree refl in
    record {
      variables = variables_of case.tree (numbered 1 (cubes_of is.items)) is.tree
          (items_fine 1 is.items (rw is.text.2.0 at (symbols_numbered is.text.0))
          is.text.2.1.variables);
      cubes = λ node k l at. rw leaves.count at (leaves.numbered node k l at);
    }

-- the variables that the formats allow have 64 bits
pub words_of : (tree : SplitTree) → HasVariables tree → AreWords tree
words_of missing h = tt
words_of (cube k) h = tt
words_of (split v p n) h =
    let high : v ≤ 268435455 = h.0.1 in (omega (arith, high), words_of p h.1, words_of n h.2)
