-- What begins a list of items, and what does so no longer.
use Rattle.std.proofs.Common.{◌≡◌, ◌+◌, ◌<◌, ◌≤◌, List, [], ◌∷◌, ◌++◌, map, length, refl, sym, ◌∙◌}
use Rattle.std.proofs.Common.{ap, arith, append_assoc, length-append}
use Rattle.std.proofs.lemmas.List.{append-nil}
use Rattle.std.specs.List.{AllByRecursion}
use Rattle.std.proofs.lemmas.List.Concat.{flat_map-append}
use Rattle.cnf_text.specs.Literal.{Literal}
use Rattle.cnf_text.specs.Icnf.{Symbol, Signed, EndMark, CubeMark, Unknown, Item, ClauseItem}
use Rattle.cnf_text.specs.Icnf.{CubeItem, spelling, spelled, clauses_of, cubes_of, item_literals}
use Rattle.cnf_text.specs.Icnf.{literal_count, InRange, Within, AnyItems, Begins}
use Rattle.cnf_text.proofs.IcnfItems.{items_in_front, GoesOn, clause_goes_on, cube_goes_on}

-- the clauses of two lists of items in a row are those of the first, and then those of the second
pub clauses_append : (xs ys : List Item) → clauses_of (xs ++ ys) ≡ clauses_of xs ++ clauses_of ys
clauses_append [] ys = refl
clauses_append (ClauseItem ls ∷ xs) ys = ap (λ r. ls ∷ r) (clauses_append xs ys)
clauses_append (CubeItem ls ∷ xs) ys = clauses_append xs ys

-- the cubes of two lists of items in a row are those of the first, and then those of the second
pub cubes_append : (xs ys : List Item) → cubes_of (xs ++ ys) ≡ cubes_of xs ++ cubes_of ys
cubes_append [] ys = refl
cubes_append (ClauseItem ls ∷ xs) ys = cubes_append xs ys
cubes_append (CubeItem ls ∷ xs) ys = ap (λ r. ls ∷ r) (cubes_append xs ys)

-- two lists of lists in a row have together as many literals as each for itself, added up
pub total_append : (xs ys : List (List Literal)) →
    literal_count (xs ++ ys) ≡ literal_count xs + literal_count ys
total_append [] ys = omega arith
total_append (x ∷ xs) ys = omega (arith, total_append xs ys)

-- what holds for all of two lists holds for all of the two in a row
pub all_append : {X : Type 0} (P : X → Type 0) → (xs ys : List X) → AllByRecursion P xs →
    AllByRecursion P ys → AllByRecursion P (xs ++ ys)
all_append P [] ys h k = k
all_append P (x ∷ xs) ys h k = (h.0, all_append P xs ys h.1 k)

pub all_front : {X : Type 0} (P : X → Type 0) → (xs ys : List X) → AllByRecursion P (xs ++ ys) →
    AllByRecursion P xs
all_front P [] ys h = tt
all_front P (x ∷ xs) ys h = (h.0, all_front P xs ys h.1)

-- what holds for all of two lists in a row holds for all of the second
pub all_back : {X : Type 0} (P : X → Type 0) → (xs ys : List X) → AllByRecursion P (xs ++ ys) →
    AllByRecursion P ys
all_back P [] ys h = h
all_back P (x ∷ xs) ys h = all_back P xs ys h.1

-- items with one more behind them are written as they are, and then the one more
pub spelled_push : (items : List Item) (item : Item) →
    spelled (items ++ item ∷ []) ≡ spelled items ++ spelling item
spelled_push items item =
    flat_map-append spelling items (item ∷ [])
    ∙ ap (λ r. spelled items ++ r) (append-nil (spelling item))

-- the variable of the literal isn't above the limit
abbrev pub InRangeLiteral : Literal → Type 0
InRangeLiteral l = l.variable ≤ 268435455

-- no variable of the item is above the limit
abbrev pub InRangeItem : Item → Type 0
InRangeItem item = AllByRecursion (λ literal. literal.variable ≤ 268435455) (item_literals item)

abbrev pub IsShort : List Literal → Type 0
IsShort cube = length cube ≤ 4096

-- the limits of items and one clause more
pub within_clause : (items : List Item) (ls : List Literal) → Within items →
    AllByRecursion InRangeLiteral ls → length (clauses_of items) + 1 ≤ 16777216 →
    literal_count (clauses_of items) + length ls ≤ 16777216 → Within (items ++ ClauseItem ls ∷ [])
within_clause items ls w range count room = record {
  variables = all_append InRangeItem items (ClauseItem ls ∷ []) w.variables (range, tt);
  clauses = rw clauses_append (simp length-append (omega arith));
  clause_literals = rw (clauses_append, total_append) (omega arith);
  cubes = rw (cubes_append, append-nil) w.cubes;
  cube_literals = rw (cubes_append, append-nil) w.cube_literals;
  cube_lengths = rw (cubes_append, append-nil) w.cube_lengths;
}

-- items within the limits stay so with one more cube, where its literals still have room
pub within_cube : (items : List Item) (ls : List Literal) → Within items →
    AllByRecursion InRangeLiteral ls → length (cubes_of items) + 1 ≤ 1048576 →
    literal_count (cubes_of items) + length ls ≤ 16777216 → length ls ≤ 4096 →
    Within (items ++ CubeItem ls ∷ [])
within_cube items ls w range count room short = record {
  variables = all_append InRangeItem items (CubeItem ls ∷ []) w.variables (range, tt);
  clauses = rw (clauses_append, append-nil) w.clauses;
  clause_literals = rw (clauses_append, append-nil) w.clause_literals;
  cubes = rw cubes_append (simp length-append (omega arith));
  cube_literals = rw (cubes_append, total_append) (omega arith);
  cube_lengths =
      rw cubes_append (all_append IsShort (cubes_of items) (ls ∷ []) w.cube_lengths (short, tt));
}

-- the first of items that keep all limits keep them too
pub within_front : (items more : List Item) → Within (items ++ more) → Within items
within_front items more w =
    let cl = clauses_append items more in
    let cu = cubes_append items more in
    let n = rw (cl, length-append) at w.clauses in
    let tc = rw (cl, total_append) at w.clause_literals in
    let m = rw (cu, length-append) at w.cubes in
    let tu = rw (cu, total_append) at w.cube_literals in
    let short = rw cu at w.cube_lengths in
    record {
      variables = all_front InRangeItem items more w.variables;
      clauses = omega arith;
      clause_literals = omega arith;
      cubes = omega arith;
      cube_literals = omega arith;
      cube_lengths = all_front IsShort (cubes_of items) (cubes_of more) short;
    }

-- what the limits say of a clause among the items
pub record ClauseLimits (items : List Item) (ls : List Literal) : Type 0 where
  pub count : length (clauses_of items) + 1 ≤ 16777216
  pub room : literal_count (clauses_of items) + length ls ≤ 16777216

-- a clause among items within the limits leaves the clauses and their literals within theirs
pub clause_limits : (items : List Item) (ls : List Literal) (after : List Item) →
    Within (items ++ ClauseItem ls ∷ after) → ClauseLimits items ls
clause_limits items ls after w =
    let cl = clauses_append items (ClauseItem ls ∷ after) in
    let n = rw (cl, length-append) at w.clauses in
    let tc = rw (cl, total_append) at w.clause_literals in
    record { count = omega arith; room = omega arith }

pub record CubeLimits (items : List Item) (ls : List Literal) : Type 0 where
  pub count : length (cubes_of items) + 1 ≤ 1048576
  pub room : literal_count (cubes_of items) + length ls ≤ 16777216
  pub short : length ls ≤ 4096

-- a cube among items within the limits leaves the cubes, their literals and lengths within theirs
pub cube_limits : (items : List Item) (ls : List Literal) (after : List Item) →
    Within (items ++ CubeItem ls ∷ after) → CubeLimits items ls
cube_limits items ls after w =
    let cu = cubes_append items (CubeItem ls ∷ after) in
    let m = rw (cu, length-append) at w.cubes in
    let tu = rw (cu, total_append) at w.cube_literals in
    let lengths = rw cu at w.cube_lengths in
    record {
      count = omega arith;
      room = omega arith;
      short = (all_back IsShort (cubes_of items) (ls ∷ cubes_of after) lengths).0;
    }

-- the symbols of items and an open clause or cube, and what follows
pub clause_begins : (P : List Item → Type 0) →
    (items : List Item) (ls : List Literal) (front : List Symbol) →
    front ≡ spelled items ++ map Signed ls → P (items ++ ClauseItem ls ∷ []) → Begins P front
clause_begins P items ls front is p = (
  items ++ ClauseItem ls ∷ [],
  p,
  (
    EndMark ∷ [],
    spelled_push items (ClauseItem ls)
        ∙ rw is (sym (append_assoc (spelled items) (map Signed ls) (EndMark ∷ []))),
  ),
)

-- ended items and an open cube begin a list of items that P allows, if P allows the cube as it is
pub cube_begins : (P : List Item → Type 0) →
    (items : List Item) (ls : List Literal) (front : List Symbol) →
    front ≡ spelled items ++ CubeMark ∷ map Signed ls → P (items ++ CubeItem ls ∷ []) →
    Begins P front
cube_begins P items ls front is p = (
  items ++ CubeItem ls ∷ [],
  p,
  (
    EndMark ∷ [],
    spelled_push items (CubeItem ls)
        ∙ rw is (sym (append_assoc (spelled items) (CubeMark ∷ map Signed ls) (EndMark ∷ []))),
  ),
)

-- the symbols of items that P allows begin such a list
pub items_begin : (P : List Item → Type 0) → (items : List Item) (front : List Symbol) →
    front ≡ spelled items → P items → Begins P front
items_begin P items front is p = (items, p, ([], rw is (sym (append-nil (spelled items)))))

open_clause : (items others : List Item) (ls : List Literal) (front rest : List Symbol) →
    front ≡ spelled items ++ map Signed ls → 0 < length ls → spelled others ≡ front ++ rest →
    GoesOn ClauseItem items others ls rest
open_clause items others ls front rest is some e =
    clause_goes_on items others ls rest some
    (e ∙ rw is (append_assoc (spelled items) (map Signed ls) rest))

open_cube : (items others : List Item) (ls : List Literal) (front rest : List Symbol) →
    front ≡ spelled items ++ CubeMark ∷ map Signed ls → spelled others ≡ front ++ rest →
    GoesOn CubeItem items others ls rest
open_cube items others ls front rest is e =
    cube_goes_on items others ls rest
    (e ∙ rw is (append_assoc (spelled items) (CubeMark ∷ map Signed ls) rest))

-- an open clause with a literal keeps the limits where its symbols begin items that keep them
pub clause_limits_from : (items : List Item) (ls : List Literal) (front : List Symbol) →
    front ≡ spelled items ++ map Signed ls → 0 < length ls → Begins Within front →
    ClauseLimits items ls
clause_limits_from items ls front is some begins =
    let goes = open_clause items begins.0 ls front begins.2.0 is some begins.2.1 in
    let limits = clause_limits items (ls ++ goes.more) goes.after (rw goes.whole at begins.1) in
    let room = limits.room in
    record { count = limits.count; room = omega (arith, length-append ls goes.more) }

-- an open cube keeps the limits where its symbols begin items that keep them
pub cube_limits_from : (items : List Item) (ls : List Literal) (front : List Symbol) →
    front ≡ spelled items ++ CubeMark ∷ map Signed ls → Begins Within front → CubeLimits items ls
cube_limits_from items ls front is begins =
    let goes = open_cube items begins.0 ls front begins.2.0 is begins.2.1 in
    let limits = cube_limits items (ls ++ goes.more) goes.after (rw goes.whole at begins.1) in
    record {
      count = limits.count;
      room = omega (arith, length-append ls goes.more);
      short = omega (arith, length-append ls goes.more);
    }

-- the literals of an open clause are in range where its symbols begin items that are
pub clause_range_from : (items : List Item) (ls : List Literal) (front : List Symbol) →
    front ≡ spelled items ++ map Signed ls → 0 < length ls → Begins InRange front →
    AllByRecursion InRangeLiteral ls
clause_range_from items ls front is some begins =
    let goes = open_clause items begins.0 ls front begins.2.0 is some begins.2.1 in
    let range = rw goes.whole at begins.1 in
    all_front InRangeLiteral ls goes.more
    (all_back InRangeItem items (ClauseItem (ls ++ goes.more) ∷ goes.after) range).0

-- the literals of an open cube are in range where its symbols begin items that are
pub cube_range_from : (items : List Item) (ls : List Literal) (front : List Symbol) →
    front ≡ spelled items ++ CubeMark ∷ map Signed ls → Begins InRange front →
    AllByRecursion InRangeLiteral ls
cube_range_from items ls front is begins =
    let goes = open_cube items begins.0 ls front begins.2.0 is begins.2.1 in
    let range = rw goes.whole at begins.1 in
    all_front InRangeLiteral ls goes.more
    (all_back InRangeItem items (CubeItem (ls ++ goes.more) ∷ goes.after) range).0

clause_then : (items others : List Item) (ls : List Literal) (front : List Symbol) (s : Symbol)
    (rest : List Symbol) → front ≡ spelled items ++ map Signed ls → 0 < length ls →
    spelled others ≡ (front ++ s ∷ []) ++ rest → GoesOn ClauseItem items others ls (s ∷ rest)
clause_then items others ls front s rest is some e =
    clause_goes_on items others ls (s ∷ rest) some (e ∙ rw is (simp append_assoc))

cube_then : (items others : List Item) (ls : List Literal) (front : List Symbol) (s : Symbol)
    (rest : List Symbol) → front ≡ spelled items ++ CubeMark ∷ map Signed ls →
    spelled others ≡ (front ++ s ∷ []) ++ rest → GoesOn CubeItem items others ls (s ∷ rest)
cube_then items others ls front s rest is e =
    cube_goes_on items others ls (s ∷ rest) (e ∙ rw is (simp append_assoc))

unknown_next : (more : List Literal) (x rest : List Symbol) →
    map Signed more ++ EndMark ∷ x ≡ Unknown ∷ rest → ⊥
unknown_next [] x rest e = cc
unknown_next (l ∷ ls) x rest e = cc

cube_mark_next : (more : List Literal) (x rest : List Symbol) →
    map Signed more ++ EndMark ∷ x ≡ CubeMark ∷ rest → ⊥
cube_mark_next [] x rest e = cc
cube_mark_next (l ∷ ls) x rest e = cc

-- no items go on with an unknown token in a clause that is open
pub no_unknown_in_clause : (items : List Item) (ls : List Literal) (front : List Symbol) →
    front ≡ spelled items ++ map Signed ls → 0 < length ls →
    Begins AnyItems (front ++ Unknown ∷ []) → ⊥
no_unknown_in_clause items ls front is some begins =
    let goes = clause_then items begins.0 ls front Unknown begins.2.0 is some begins.2.1 in
    unknown_next goes.more _ _ goes.next

-- no items go on with an unknown token in a cube that is open
pub no_unknown_in_cube : (items : List Item) (ls : List Literal) (front : List Symbol) →
    front ≡ spelled items ++ CubeMark ∷ map Signed ls → Begins AnyItems (front ++ Unknown ∷ []) → ⊥
no_unknown_in_cube items ls front is begins =
    let goes = cube_then items begins.0 ls front Unknown begins.2.0 is begins.2.1 in
    unknown_next goes.more _ _ goes.next

-- no items go on with a cube's mark in a clause that is open
pub no_cube_in_clause : (items : List Item) (ls : List Literal) (front : List Symbol) →
    front ≡ spelled items ++ map Signed ls → 0 < length ls →
    Begins AnyItems (front ++ CubeMark ∷ []) → ⊥
no_cube_in_clause items ls front is some begins =
    let goes = clause_then items begins.0 ls front CubeMark begins.2.0 is some begins.2.1 in
    cube_mark_next goes.more _ _ goes.next

-- no items go on with a cube's mark in a cube that is open
pub no_cube_in_cube : (items : List Item) (ls : List Literal) (front : List Symbol) →
    front ≡ spelled items ++ CubeMark ∷ map Signed ls → Begins AnyItems (front ++ CubeMark ∷ []) → ⊥
no_cube_in_cube items ls front is begins =
    let goes = cube_then items begins.0 ls front CubeMark begins.2.0 is begins.2.1 in
    cube_mark_next goes.more _ _ goes.next

unknown_first : (others : List Item) (rest : List Symbol) → spelled others ≡ Unknown ∷ rest → ⊥
unknown_first [] rest e = cc
unknown_first (ClauseItem [] ∷ os) rest e = cc
unknown_first (ClauseItem (l ∷ ls) ∷ os) rest e = cc
unknown_first (CubeItem ls ∷ os) rest e = cc

end_first : (others : List Item) (rest : List Symbol) → spelled others ≡ EndMark ∷ rest →
    (after : List Item) × (others ≡ ClauseItem [] ∷ after)
end_first [] rest e = absurd (cc)
end_first (ClauseItem [] ∷ os) rest e = (os, refl)
end_first (ClauseItem (l ∷ ls) ∷ os) rest e = absurd (cc)
end_first (CubeItem ls ∷ os) rest e = absurd (cc)

items_then : (items others : List Item) (front : List Symbol) (s : Symbol) (rest : List Symbol) →
    front ≡ spelled items ++ [] → spelled others ≡ (front ++ s ∷ []) ++ rest →
    (more : List Item) × (others ≡ items ++ more) × (spelled more ≡ s ∷ rest)
items_then items others front s rest is e =
    items_in_front items others (s ∷ rest) (e ∙ rw is (simp append_assoc))

-- no items go on with an unknown token after items that have ended
pub no_unknown_between : (items : List Item) (front : List Symbol) → front ≡ spelled items ++ [] →
    Begins AnyItems (front ++ Unknown ∷ []) → ⊥
no_unknown_between items front is begins =
    let found = items_then items begins.0 front Unknown begins.2.0 is begins.2.1 in
    unknown_first found.0 begins.2.0 found.2

-- an end mark right after ended items is an empty clause, which the limit of clauses must allow
pub empty_clause_limits : (items : List Item) (front : List Symbol) → front ≡ spelled items ++ [] →
    Begins Within (front ++ EndMark ∷ []) → length (clauses_of items) + 1 ≤ 16777216
empty_clause_limits items front is begins =
    let found = items_then items begins.0 front EndMark begins.2.0 is begins.2.1 in
    let first = end_first found.0 begins.2.0 found.2 in
    (clause_limits items [] first.0 (rw (found.1, first.1) at begins.1)).count

no_end : (more : List Literal) (x : List Symbol) → map Signed more ++ EndMark ∷ x ≡ [] → ⊥
no_end [] x e = cc
no_end (l ∷ ls) x e = cc

-- symbols that end in an open clause are those of no items
pub clause_not_ended : (items : List Item) (ls : List Literal) (others : List Item) →
    spelled others ≡ spelled items ++ map Signed ls → 0 < length ls → ⊥
clause_not_ended items ls others e some =
    let goes = clause_goes_on items others ls [] some (e ∙ rw append-nil refl) in
    no_end goes.more _ goes.next

-- symbols that end in an open cube are those of no items
pub cube_not_ended : (items : List Item) (ls : List Literal) (others : List Item) →
    spelled others ≡ spelled items ++ CubeMark ∷ map Signed ls → ⊥
cube_not_ended items ls others e =
    let goes = cube_goes_on items others ls [] (e ∙ rw append-nil refl) in
    no_end goes.more _ goes.next
