-- What one symbol more does to what was read, and which rule it breaks.
use Rattle.std.proofs.Common.{◌≡◌, ℕ, ◌+◌, ◌<◌, ◌≤◌, List, [], ◌∷◌, ◌++◌, map, length, refl, sym}
use Rattle.std.proofs.Common.{◌∙◌, ap, arith, append_assoc, length-append, inl, inr}
use Rattle.std.specs.Prelude.{◌⊎◌}
use Rattle.std.proofs.lemmas.List.{append-nil, map-append}
use Rattle.std.specs.List.{AllByRecursion}
use Rattle.cnf_text.specs.declared.icnf.Open.{Open}
use Rattle.cnf_text.specs.declared.icnf.Open.TheVariants.{Nothing, InClause, InCube}
use Rattle.cnf_text.specs.declared.icnf.TextFault.TheVariants.{Token as BadToken, TooLarge, Limit}
use Rattle.cnf_text.specs.Literal.{Literal}
use Rattle.cnf_text.specs.Icnf.{Symbol, Signed, EndMark, CubeMark, Unknown, Item, ClauseItem}
use Rattle.cnf_text.specs.Icnf.{CubeItem, spelled, clauses_of, cubes_of, literal_count, InRange}
use Rattle.cnf_text.specs.Icnf.{Within, AnyItems, Begins, FaultAt}
use Rattle.cnf_text.specs.Inner.Icnf.{Read}
use Rattle.cnf_text.proofs.IcnfBegins.{clauses_append, cubes_append, total_append, all_append}
use Rattle.cnf_text.proofs.IcnfBegins.{all_back, InRangeItem, InRangeLiteral, within_clause}
use Rattle.cnf_text.proofs.IcnfBegins.{within_cube, within_front, clause_limits, cube_limits}
use Rattle.cnf_text.proofs.IcnfBegins.{clause_begins, cube_begins, items_begin, clause_limits_from}
use Rattle.cnf_text.proofs.IcnfBegins.{cube_limits_from, clause_range_from, cube_range_from}
use Rattle.cnf_text.proofs.IcnfBegins.{no_unknown_in_clause, no_unknown_in_cube, no_cube_in_clause}
use Rattle.cnf_text.proofs.IcnfBegins.{no_cube_in_cube, no_unknown_between, empty_clause_limits}
use Rattle.cnf_text.proofs.IcnfBegins.{spelled_push, clause_not_ended, cube_not_ended}

clauses_in_clause : (items : List Item) (ls : List Literal) →
    literal_count (clauses_of (items ++ ClauseItem ls ∷ []))
    ≡ literal_count (clauses_of items) + length ls
clauses_in_clause items ls = rw (clauses_append, total_append) (omega arith)

cubes_in_clause : (items : List Item) (ls : List Literal) →
    literal_count (cubes_of (items ++ ClauseItem ls ∷ [])) ≡ literal_count (cubes_of items)
cubes_in_clause items ls = rw (cubes_append, append-nil) refl

cubes_in_cube : (items : List Item) (ls : List Literal) →
    literal_count (cubes_of (items ++ CubeItem ls ∷ []))
    ≡ literal_count (cubes_of items) + length ls
cubes_in_cube items ls = rw (cubes_append, total_append) (omega arith)

clauses_in_cube : (items : List Item) (ls : List Literal) →
    literal_count (clauses_of (items ++ CubeItem ls ∷ [])) ≡ literal_count (clauses_of items)
clauses_in_cube items ls = rw (clauses_append, append-nil) refl

-- the front grows by a literal
clause_front : (items : List Item) (ls : List Literal) (l : Literal) (b : List Symbol) →
    b ≡ spelled items ++ map Signed ls →
    b ++ Signed l ∷ [] ≡ spelled items ++ map Signed (ls ++ l ∷ [])
clause_front items ls l b is =
    rw (is, map-append) (append_assoc (spelled items) (map Signed ls) (Signed l ∷ []))

cube_front : (items : List Item) (ls : List Literal) (l : Literal) (b : List Symbol) →
    b ≡ spelled items ++ CubeMark ∷ map Signed ls →
    b ++ Signed l ∷ [] ≡ spelled items ++ CubeMark ∷ map Signed (ls ++ l ∷ [])
cube_front items ls l b is =
    rw (is, map-append) (append_assoc (spelled items) (CubeMark ∷ map Signed ls) (Signed l ∷ []))

pub begin_clause : (ls : List Literal) (cls cus : List (List Literal)) (n m : ℕ) (b : List Symbol)
    (l : Literal) → Read Nothing ls cls cus n m b → l.variable ≤ 268435455 → length cls < 16777216 →
    n < 16777216 → Read InClause (ls ++ l ∷ []) cls cus (n + 1) m (b ++ Signed l ∷ [])
begin_clause ls cls cus n m b l r range count room =
    let same : ls ≡ [] = r.is_opening in
    let base : Within r.items = within_front r.items [] r.within in
    let n_is = rw append-nil at r.counted_clause_literals in
    let m_is = rw append-nil at r.counted_cube_literals in
    let count_is : length cls ≡ length (clauses_of r.items) = ap length r.ended_clauses in
    rw same (record {
      items = r.items;
      written = clause_front r.items [] l b r.written;
      ended_clauses = r.ended_clauses;
      ended_cubes = r.ended_cubes;
      is_opening = omega arith;
      counted_clause_literals = omega (arith, clauses_in_clause r.items (l ∷ []));
      counted_cube_literals = m_is ∙ sym (cubes_in_clause r.items (l ∷ []));
      within = within_clause r.items (l ∷ []) base (range, tt) (omega arith) (omega arith);
    })

limit_in_clause : (items : List Item) (ls : List Literal) (b : List Symbol) (s : Symbol)
    (line : ℕ) → b ++ s ∷ [] ≡ spelled items ++ map Signed ls →
    InRange (items ++ ClauseItem ls ∷ []) → (Begins Within (b ++ s ∷ []) → ⊥) →
    FaultAt b s line Limit
limit_in_clause items ls b s line is range past =
    (clause_begins InRange items ls (b ++ s ∷ []) is range, past)

range_push : (items : List Item) (ls : List Literal) (l : Literal) →
    InRange (items ++ ClauseItem ls ∷ []) → l.variable ≤ 268435455 →
    AllByRecursion InRangeLiteral (ls ++ l ∷ [])
range_push items ls l range one =
    all_append InRangeLiteral ls (l ∷ []) (all_back InRangeItem items (ClauseItem ls ∷ []) range).0
    (one, tt)

range_push_cube : (items : List Item) (ls : List Literal) (l : Literal) →
    InRange (items ++ CubeItem ls ∷ []) → l.variable ≤ 268435455 →
    AllByRecursion InRangeLiteral (ls ++ l ∷ [])
range_push_cube items ls l range one =
    all_append InRangeLiteral ls (l ∷ []) (all_back InRangeItem items (CubeItem ls ∷ []) range).0
    (one, tt)

push_some : (ls : List Literal) (l : Literal) → 0 < length (ls ++ l ∷ [])
push_some ls l = omega (arith, length-append ls (l ∷ []))

pub begin_clause_full : (ls : List Literal) (cls cus : List (List Literal)) (n m : ℕ)
    (b : List Symbol) (l : Literal) (line : ℕ) → Read Nothing ls cls cus n m b →
    l.variable ≤ 268435455 → 16777216 ≤ length cls → FaultAt b (Signed l) line Limit
begin_clause_full ls cls cus n m b l line r range full =
    let base : Within r.items = within_front r.items [] r.within in
    let count_is : length cls ≡ length (clauses_of r.items) = ap length r.ended_clauses in
    let front = clause_front r.items [] l b r.written in
    limit_in_clause r.items (l ∷ []) b (Signed l) line front
    (all_append InRangeItem r.items (ClauseItem (l ∷ []) ∷ []) base.variables ((range, tt), tt))
    (λ begins. let limits = clause_limits_from r.items (l ∷ []) (b ++ Signed l ∷ []) front
    (omega arith) begins in
    let count = limits.count in omega arith)

pub begin_clause_no_room : (ls : List Literal) (cls cus : List (List Literal)) (n m : ℕ)
    (b : List Symbol) (l : Literal) (line : ℕ) → Read Nothing ls cls cus n m b →
    l.variable ≤ 268435455 → 16777216 ≤ n → FaultAt b (Signed l) line Limit
begin_clause_no_room ls cls cus n m b l line r range full =
    let base : Within r.items = within_front r.items [] r.within in
    let n_is = rw append-nil at r.counted_clause_literals in
    let front = clause_front r.items [] l b r.written in
    limit_in_clause r.items (l ∷ []) b (Signed l) line front
    (all_append InRangeItem r.items (ClauseItem (l ∷ []) ∷ []) base.variables ((range, tt), tt))
    (λ begins. let limits = clause_limits_from r.items (l ∷ []) (b ++ Signed l ∷ []) front
    (omega arith) begins in
    let room = limits.room in omega arith)

pub add_to_clause : (ls : List Literal) (cls cus : List (List Literal)) (n m : ℕ) (b : List Symbol)
    (l : Literal) → Read InClause ls cls cus n m b → l.variable ≤ 268435455 → n < 16777216 →
    Read InClause (ls ++ l ∷ []) cls cus (n + 1) m (b ++ Signed l ∷ [])
add_to_clause ls cls cus n m b l r range room =
    let base : Within r.items = within_front r.items (ClauseItem ls ∷ []) r.within in
    let limits = clause_limits r.items ls [] r.within in
    let n_is = r.counted_clause_literals ∙ clauses_in_clause r.items ls in
    let m_is = r.counted_cube_literals ∙ cubes_in_clause r.items ls in
    let count = limits.count in
    record {
      items = r.items;
      written = clause_front r.items ls l b r.written;
      ended_clauses = r.ended_clauses;
      ended_cubes = r.ended_cubes;
      is_opening = push_some ls l;
      counted_clause_literals =
          omega (arith, clauses_in_clause r.items (ls ++ l ∷ []), length-append ls (l ∷ []));
      counted_cube_literals = m_is ∙ sym (cubes_in_clause r.items (ls ++ l ∷ []));
      within =
          within_clause r.items (ls ++ l ∷ []) base
          (range_push r.items ls l r.within.variables range) (omega arith)
          (omega (arith, length-append ls (l ∷ [])));
    }

pub add_to_clause_no_room : (ls : List Literal) (cls cus : List (List Literal)) (n m : ℕ)
    (b : List Symbol) (l : Literal) (line : ℕ) → Read InClause ls cls cus n m b →
    l.variable ≤ 268435455 → 16777216 ≤ n → FaultAt b (Signed l) line Limit
add_to_clause_no_room ls cls cus n m b l line r range full =
    let base : Within r.items = within_front r.items (ClauseItem ls ∷ []) r.within in
    let n_is = r.counted_clause_literals ∙ clauses_in_clause r.items ls in
    let front = clause_front r.items ls l b r.written in
    limit_in_clause r.items (ls ++ l ∷ []) b (Signed l) line front
    (all_append InRangeItem r.items (ClauseItem (ls ++ l ∷ []) ∷ []) base.variables
    (range_push r.items ls l r.within.variables range, tt))
    (λ begins. let limits = clause_limits_from r.items (ls ++ l ∷ []) (b ++ Signed l ∷ []) front
    (push_some ls l) begins in
    let room = limits.room in omega (arith, length-append ls (l ∷ [])))

pub add_to_cube : (ls : List Literal) (cls cus : List (List Literal)) (n m : ℕ) (b : List Symbol)
    (l : Literal) → Read InCube ls cls cus n m b → l.variable ≤ 268435455 → m < 16777216 →
    length ls < 4096 → Read InCube (ls ++ l ∷ []) cls cus n (m + 1) (b ++ Signed l ∷ [])
add_to_cube ls cls cus n m b l r range room short =
    let base : Within r.items = within_front r.items (CubeItem ls ∷ []) r.within in
    let limits = cube_limits r.items ls [] r.within in
    let n_is = r.counted_clause_literals ∙ clauses_in_cube r.items ls in
    let m_is = r.counted_cube_literals ∙ cubes_in_cube r.items ls in
    let count = limits.count in
    record {
      items = r.items;
      written = cube_front r.items ls l b r.written;
      ended_clauses = r.ended_clauses;
      ended_cubes = r.ended_cubes;
      is_opening = tt;
      counted_clause_literals = n_is ∙ sym (clauses_in_cube r.items (ls ++ l ∷ []));
      counted_cube_literals =
          omega (arith, cubes_in_cube r.items (ls ++ l ∷ []), length-append ls (l ∷ []));
      within =
          within_cube r.items (ls ++ l ∷ []) base
          (range_push_cube r.items ls l r.within.variables range) (omega arith)
          (omega (arith, length-append ls (l ∷ []))) (omega (arith, length-append ls (l ∷ [])));
    }

pub add_to_cube_past : (ls : List Literal) (cls cus : List (List Literal)) (n m : ℕ)
    (b : List Symbol) (l : Literal) (line : ℕ) → Read InCube ls cls cus n m b →
    l.variable ≤ 268435455 → (m < 16777216 → length ls < 4096 → ⊥) → FaultAt b (Signed l) line Limit
add_to_cube_past ls cls cus n m b l line r range past =
    let base : Within r.items = within_front r.items (CubeItem ls ∷ []) r.within in
    let m_is = r.counted_cube_literals ∙ cubes_in_cube r.items ls in
    let front = cube_front r.items ls l b r.written in (
      cube_begins InRange r.items (ls ++ l ∷ []) (b ++ Signed l ∷ []) front
          (all_append InRangeItem r.items (CubeItem (ls ++ l ∷ []) ∷ []) base.variables
          (range_push_cube r.items ls l r.within.variables range, tt)),
      λ begins. let limits =
          cube_limits_from r.items (ls ++ l ∷ []) (b ++ Signed l ∷ []) front begins in
          let room = limits.room in
          let short = limits.short in
          past (omega (arith, length-append ls (l ∷ [])))
          (omega (arith, length-append ls (l ∷ []))),
    )

pub begin_cube : (ls : List Literal) (cls cus : List (List Literal)) (n m : ℕ) (b : List Symbol) →
    Read Nothing ls cls cus n m b → length cus < 1048576 →
    Read InCube ls cls cus n m (b ++ CubeMark ∷ [])
begin_cube ls cls cus n m b r count =
    let same : ls ≡ [] = r.is_opening in
    let base : Within r.items = within_front r.items [] r.within in
    let n_is = rw append-nil at r.counted_clause_literals in
    let m_is = rw append-nil at r.counted_cube_literals in
    let cube_room = base.cube_literals in
    let count_is : length cus ≡ length (cubes_of r.items) = ap length r.ended_cubes in
    rw same (record {
      items = r.items;
      written = rw (r.written, append-nil) refl;
      ended_clauses = r.ended_clauses;
      ended_cubes = r.ended_cubes;
      is_opening = tt;
      counted_clause_literals = n_is ∙ sym (clauses_in_cube r.items []);
      counted_cube_literals = omega (arith, cubes_in_cube r.items []);
      within = within_cube r.items [] base tt (omega arith) (omega arith) (omega arith);
    })

pub begin_cube_full : (ls : List Literal) (cls cus : List (List Literal)) (n m : ℕ)
    (b : List Symbol) (line : ℕ) → Read Nothing ls cls cus n m b → 1048576 ≤ length cus →
    FaultAt b CubeMark line Limit
begin_cube_full ls cls cus n m b line r full =
    let base : Within r.items = within_front r.items [] r.within in
    let count_is : length cus ≡ length (cubes_of r.items) = ap length r.ended_cubes in
    let front : b ++ CubeMark ∷ [] ≡ spelled r.items ++ CubeMark ∷ map Signed [] =
    rw (r.written, append-nil) refl in (
      cube_begins InRange r.items [] (b ++ CubeMark ∷ []) front
          (all_append InRangeItem r.items (CubeItem [] ∷ []) base.variables (tt, tt)),
      λ begins. let limits = cube_limits_from r.items [] (b ++ CubeMark ∷ []) front begins in
          let count = limits.count in omega arith,
    )

-- between two items, an end mark is an empty clause
pub end_between : (ls : List Literal) (cls cus : List (List Literal)) (n m : ℕ) (b : List Symbol) →
    Read Nothing ls cls cus n m b → length cls < 16777216 →
    Read Nothing ls (cls ++ [] ∷ []) cus n m (b ++ EndMark ∷ [])
end_between ls cls cus n m b r count =
    let base : Within r.items = within_front r.items [] r.within in
    let n_is = rw append-nil at r.counted_clause_literals in
    let m_is = rw append-nil at r.counted_cube_literals in
    let clause_room = base.clause_literals in
    let count_is : length cls ≡ length (clauses_of r.items) = ap length r.ended_clauses in
    record {
      items = r.items ++ ClauseItem [] ∷ [];
      written = rw (r.written, append-nil, append-nil) (sym (spelled_push r.items (ClauseItem [])));
      ended_clauses = rw (r.ended_clauses) (sym (clauses_append r.items (ClauseItem [] ∷ [])));
      ended_cubes = r.ended_cubes ∙ rw (cubes_append, append-nil) refl;
      is_opening = r.is_opening;
      counted_clause_literals = rw append-nil (omega (arith, clauses_in_clause r.items []));
      counted_cube_literals = rw append-nil (m_is ∙ sym (cubes_in_clause r.items []));
      within = rw append-nil (within_clause r.items [] base tt (omega arith) (omega arith));
    }

pub end_between_full : (ls : List Literal) (cls cus : List (List Literal)) (n m : ℕ)
    (b : List Symbol) (line : ℕ) → Read Nothing ls cls cus n m b → 16777216 ≤ length cls →
    FaultAt b EndMark line Limit
end_between_full ls cls cus n m b line r full =
    let base : Within r.items = within_front r.items [] r.within in
    let count_is : length cls ≡ length (clauses_of r.items) = ap length r.ended_clauses in (
      items_begin InRange (r.items ++ ClauseItem [] ∷ []) (b ++ EndMark ∷ [])
          (rw (r.written, append-nil) (sym (spelled_push r.items (ClauseItem []))))
          (all_append InRangeItem r.items (ClauseItem [] ∷ []) base.variables (tt, tt)),
      λ begins. let count = empty_clause_limits r.items b r.written begins in omega arith,
    )

pub end_clause : (ls : List Literal) (cls cus : List (List Literal)) (n m : ℕ) (b : List Symbol) →
    Read InClause ls cls cus n m b → Read Nothing [] (cls ++ ls ∷ []) cus n m (b ++ EndMark ∷ [])
end_clause ls cls cus n m b r = record {
  items = r.items ++ ClauseItem ls ∷ [];
  written =
      rw (r.written, append-nil)
      (append_assoc (spelled r.items) (map Signed ls) (EndMark ∷ [])
      ∙ sym (spelled_push r.items (ClauseItem ls)));
  ended_clauses = rw (r.ended_clauses) (sym (clauses_append r.items (ClauseItem ls ∷ [])));
  ended_cubes = r.ended_cubes ∙ rw (cubes_append, append-nil) refl;
  is_opening = refl;
  counted_clause_literals = rw append-nil r.counted_clause_literals;
  counted_cube_literals = rw append-nil r.counted_cube_literals;
  within = rw append-nil r.within;
}

pub end_cube : (ls : List Literal) (cls cus : List (List Literal)) (n m : ℕ) (b : List Symbol) →
    Read InCube ls cls cus n m b → Read Nothing [] cls (cus ++ ls ∷ []) n m (b ++ EndMark ∷ [])
end_cube ls cls cus n m b r = record {
  items = r.items ++ CubeItem ls ∷ [];
  written =
      rw (r.written, append-nil)
      (append_assoc (spelled r.items) (CubeMark ∷ map Signed ls) (EndMark ∷ [])
      ∙ sym (spelled_push r.items (CubeItem ls)));
  ended_clauses = r.ended_clauses ∙ rw (clauses_append, append-nil) refl;
  ended_cubes = rw (r.ended_cubes) (sym (cubes_append r.items (CubeItem ls ∷ [])));
  is_opening = refl;
  counted_clause_literals = rw append-nil r.counted_clause_literals;
  counted_cube_literals = rw append-nil r.counted_cube_literals;
  within = rw append-nil r.within;
}

-- a variable above the limit
pub large_literal : («open» : Open) (ls : List Literal) (cls cus : List (List Literal)) (n m : ℕ)
    (b : List Symbol) (l : Literal) (line : ℕ) → Read «open» ls cls cus n m b →
    268435455 < l.variable → FaultAt b (Signed l) line (TooLarge line)
large_literal Nothing ls cls cus n m b l line r large =
    let front = clause_front r.items [] l b r.written in (
      refl,
      clause_begins AnyItems r.items (l ∷ []) (b ++ Signed l ∷ []) front tt,
      λ begins. let range =
          clause_range_from r.items (l ∷ []) (b ++ Signed l ∷ []) front (omega arith) begins in
          let one = range.0 in omega arith,
    )
large_literal InClause ls cls cus n m b l line r large =
    let front = clause_front r.items ls l b r.written in (
      refl,
      clause_begins AnyItems r.items (ls ++ l ∷ []) (b ++ Signed l ∷ []) front tt,
      λ begins. let range =
          clause_range_from r.items (ls ++ l ∷ []) (b ++ Signed l ∷ []) front (push_some ls l)
          begins in
          let one = (all_back InRangeLiteral ls (l ∷ []) range).0 in omega arith,
    )
large_literal InCube ls cls cus n m b l line r large =
    let front = cube_front r.items ls l b r.written in (
      refl,
      cube_begins AnyItems r.items (ls ++ l ∷ []) (b ++ Signed l ∷ []) front tt,
      λ begins. let range =
          cube_range_from r.items (ls ++ l ∷ []) (b ++ Signed l ∷ []) front begins in
          let one = (all_back InRangeLiteral ls (l ∷ []) range).0 in omega arith,
    )

pub unknown_symbol : («open» : Open) (ls : List Literal) (cls cus : List (List Literal)) (n m : ℕ)
    (b : List Symbol) (line : ℕ) → Read «open» ls cls cus n m b →
    FaultAt b Unknown line (BadToken line)
unknown_symbol Nothing ls cls cus n m b line r = (refl, no_unknown_between r.items b r.written)
unknown_symbol InClause ls cls cus n m b line r =
    (refl, no_unknown_in_clause r.items ls b r.written r.is_opening)
unknown_symbol InCube ls cls cus n m b line r = (refl, no_unknown_in_cube r.items ls b r.written)

pub cube_in_clause : (ls : List Literal) (cls cus : List (List Literal)) (n m : ℕ) (b : List Symbol)
    (line : ℕ) → Read InClause ls cls cus n m b → FaultAt b CubeMark line (BadToken line)
cube_in_clause ls cls cus n m b line r =
    (refl, no_cube_in_clause r.items ls b r.written r.is_opening)

pub cube_in_cube : (ls : List Literal) (cls cus : List (List Literal)) (n m : ℕ) (b : List Symbol)
    (line : ℕ) → Read InCube ls cls cus n m b → FaultAt b CubeMark line (BadToken line)
cube_in_cube ls cls cus n m b line r = (refl, no_cube_in_cube r.items ls b r.written)

-- what was read begins items within the limits
pub read_begins : («open» : Open) (ls : List Literal) (cls cus : List (List Literal)) (n m : ℕ)
    (b : List Symbol) → Read «open» ls cls cus n m b → Begins Within b
read_begins Nothing ls cls cus n m b r =
    items_begin Within r.items b (rw append-nil at r.written) (within_front r.items [] r.within)
read_begins InClause ls cls cus n m b r = clause_begins Within r.items ls b r.written r.within
read_begins InCube ls cls cus n m b r = cube_begins Within r.items ls b r.written r.within

pub nothing_read : Read Nothing [] [] [] 0 0 []
nothing_read = record {
  items = [];
  written = refl;
  ended_clauses = refl;
  ended_cubes = refl;
  is_opening = refl;
  counted_clause_literals = refl;
  counted_cube_literals = refl;
  within =
      record {
        variables = tt;
        clauses = omega arith;
        clause_literals = omega arith;
        cubes = omega arith;
        cube_literals = omega arith;
        cube_lengths = tt;
      };
}

-- in an open item, what was read is that of no list of items
pub not_ended : («open» : Open) (ls : List Literal) (cls cus : List (List Literal)) (n m : ℕ)
    (b : List Symbol) → Read «open» ls cls cus n m b → («open» ≡ Nothing → ⊥) →
    (items : List Item) → b ≡ spelled items → ⊥
not_ended Nothing ls cls cus n m b r some items e = some refl
not_ended InClause ls cls cus n m b r some items e =
    clause_not_ended r.items ls items (sym e ∙ r.written) r.is_opening
not_ended InCube ls cls cus n m b r some items e =
    cube_not_ended r.items ls items (sym e ∙ r.written)

-- a mark of a cube inside an item
pub cube_in_item : («open» : Open) (ls : List Literal) (cls cus : List (List Literal)) (n m : ℕ)
    (b : List Symbol) (line : ℕ) → Read «open» ls cls cus n m b → («open» ≡ Nothing → ⊥) →
    FaultAt b CubeMark line (BadToken line)
cube_in_item Nothing ls cls cus n m b line r inside = absurd (inside refl)
cube_in_item InClause ls cls cus n m b line r inside = cube_in_clause ls cls cus n m b line r
cube_in_item InCube ls cls cus n m b line r inside = cube_in_cube ls cls cus n m b line r

pub inside_item : («open» : Open) → («open» ≡ InClause) ⊎ («open» ≡ InCube) → «open» ≡ Nothing → ⊥
inside_item o (inl e) n = absurd (cc)
inside_item o (inr e) n = absurd (cc)
