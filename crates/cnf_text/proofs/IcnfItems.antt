-- Items one after the other are read in one way.
use Rattle.std.proofs.Common.{◌≡◌, ◌<◌, List, [], ◌∷◌, ◌++◌, map, length, refl, sym, ◌∙◌, ap, arith}
use Rattle.std.proofs.Common.{append_assoc}
use Rattle.cnf_text.specs.Literal.{Literal}
use Rattle.cnf_text.specs.Icnf.{Symbol, Signed, EndMark, CubeMark, Item, ClauseItem, CubeItem}
use Rattle.cnf_text.specs.Icnf.{spelling, spelled}

-- literals and an end mark, of which some literals stand in front
front_of_literals : (ls ks : List Literal) (x t : List Symbol) →
    map Signed ks ++ EndMark ∷ x ≡ map Signed ls ++ t →
    (more : List Literal) × (ks ≡ ls ++ more) × (map Signed more ++ EndMark ∷ x ≡ t)
front_of_literals [] ks x t e = (ks, refl, e)
front_of_literals (l ∷ ls) [] x t e = absurd (cc)
front_of_literals (l ∷ ls) (k ∷ ks) x t e =
    let tails : map Signed ks ++ EndMark ∷ x ≡ map Signed ls ++ t = cc in
    let more = front_of_literals ls ks x t tails in
    let heads : k ≡ l = cc in
    let whole : ks ≡ ls ++ more.0 = more.1 in
    (more.0, cc, more.2)

same_literals : (ls ks : List Literal) (x y : List Symbol) →
    map Signed ks ++ EndMark ∷ x ≡ map Signed ls ++ EndMark ∷ y → (ks ≡ ls) × (x ≡ y)
same_literals [] [] x y e = (refl, cc)
same_literals [] (k ∷ ks) x y e = absurd (cc)
same_literals (l ∷ ls) [] x y e = absurd (cc)
same_literals (l ∷ ls) (k ∷ ks) x y e =
    let tails : map Signed ks ++ EndMark ∷ x ≡ map Signed ls ++ EndMark ∷ y = cc in
    let more = same_literals ls ks x y tails in
    let same : ks ≡ ls = more.0 in
    let heads : k ≡ l = cc in
    (cc, more.1)

regroup : (ls : List Literal) (x : List Symbol) →
    (map Signed ls ++ EndMark ∷ []) ++ x ≡ map Signed ls ++ EndMark ∷ x
regroup ls x = append_assoc (map Signed ls) (EndMark ∷ []) x

same_item : (a b : Item) (x y : List Symbol) → spelling a ++ x ≡ spelling b ++ y → (a ≡ b) × (x ≡ y)
same_item (ClauseItem ls) (ClauseItem ks) x y e =
    let same = same_literals ks ls x y (sym (regroup ls x) ∙ e ∙ regroup ks y) in
    (ap ClauseItem same.0, same.1)
same_item (ClauseItem []) (CubeItem ks) x y e = absurd (cc)
same_item (ClauseItem (l ∷ ls)) (CubeItem ks) x y e = absurd (cc)
same_item (CubeItem ls) (ClauseItem []) x y e = absurd (cc)
same_item (CubeItem ls) (ClauseItem (k ∷ ks)) x y e = absurd (cc)
same_item (CubeItem ls) (CubeItem ks) x y e =
    let tails : (map Signed ls ++ EndMark ∷ []) ++ x ≡ (map Signed ks ++ EndMark ∷ []) ++ y = cc in
    let same = same_literals ks ls x y (sym (regroup ls x) ∙ tails ∙ regroup ks y) in
    (ap CubeItem same.0, same.1)

-- each item is written with at least one symbol
pub some_symbol : (item : Item) (x : List Symbol) → [] ≡ spelling item ++ x → ⊥
some_symbol (ClauseItem []) x e = cc
some_symbol (ClauseItem (l ∷ ls)) x e = cc
some_symbol (CubeItem ls) x e = cc

-- a list of items that begins with the symbols of some items begins with these items
pub items_in_front : (items others : List Item) (t : List Symbol) →
    spelled others ≡ spelled items ++ t →
    (more : List Item) × (others ≡ items ++ more) × (spelled more ≡ t)
items_in_front [] others t e = (others, refl, e)
items_in_front (item ∷ items) [] t e =
    absurd (some_symbol item (spelled items ++ t)
    (e ∙ append_assoc (spelling item) (spelled items) t))
items_in_front (item ∷ items) (o ∷ os) t e =
    let same =
    same_item o item (spelled os) (spelled items ++ t)
    (e ∙ append_assoc (spelling item) (spelled items) t) in
    let more = items_in_front items os t same.1 in
    let first : o ≡ item = same.0 in
    let whole : os ≡ items ++ more.0 = more.1 in
    (more.0, cc, more.2)

-- what follows the literals of a clause
pub record GoesOn (made : List Literal → Item) (items others : List Item) (ls : List Literal)
    (t : List Symbol) : Type 0 where
  pub more : List Literal
  pub after : List Item
  pub whole : others ≡ items ++ made (ls ++ more) ∷ after
  pub next : map Signed more ++ EndMark ∷ spelled after ≡ t

clause_first : (others : List Item) (ls : List Literal) (t : List Symbol) → 0 < length ls →
    spelled others ≡ map Signed ls ++ t → GoesOn ClauseItem [] others ls t
clause_first others [] t h e = absurd (omega arith)
clause_first [] (l ∷ ls) t h e = absurd (cc)
clause_first (CubeItem ks ∷ os) (l ∷ ls) t h e = absurd (cc)
clause_first (ClauseItem ks ∷ os) (l ∷ ls) t h e =
    let found = front_of_literals (l ∷ ls) ks (spelled os) t (sym (regroup ks (spelled os)) ∙ e) in
    record {
      more = found.0;
      after = os;
      whole = ap (λ xs. ClauseItem xs ∷ os) found.1;
      next = found.2;
    }

cube_first : (others : List Item) (ls : List Literal) (t : List Symbol) →
    spelled others ≡ CubeMark ∷ (map Signed ls ++ t) → GoesOn CubeItem [] others ls t
cube_first [] ls t e = absurd (cc)
cube_first (ClauseItem [] ∷ os) ls t e = absurd (cc)
cube_first (ClauseItem (k ∷ ks) ∷ os) ls t e = absurd (cc)
cube_first (CubeItem ks ∷ os) ls t e =
    let tails : (map Signed ks ++ EndMark ∷ []) ++ spelled os ≡ map Signed ls ++ t = cc in
    let found = front_of_literals ls ks (spelled os) t (sym (regroup ks (spelled os)) ∙ tails) in
    record {
      more = found.0;
      after = os;
      whole = ap (λ xs. CubeItem xs ∷ os) found.1;
      next = found.2;
    }

-- items with the symbols of an open clause have a clause there that begins with its literals
pub clause_goes_on : (items others : List Item) (ls : List Literal) (t : List Symbol) →
    0 < length ls → spelled others ≡ spelled items ++ (map Signed ls ++ t) →
    GoesOn ClauseItem items others ls t
clause_goes_on items others ls t h e =
    let found = items_in_front items others (map Signed ls ++ t) e in
    let first = clause_first found.0 ls t h found.2 in
    record {
      more = first.more;
      after = first.after;
      whole = found.1 ∙ ap (λ m. items ++ m) first.whole;
      next = first.next;
    }

-- items written with the symbols of an open cube have a cube there that begins with its literals
pub cube_goes_on : (items others : List Item) (ls : List Literal) (t : List Symbol) →
    spelled others ≡ spelled items ++ CubeMark ∷ (map Signed ls ++ t) →
    GoesOn CubeItem items others ls t
cube_goes_on items others ls t e =
    let found = items_in_front items others (CubeMark ∷ (map Signed ls ++ t)) e in
    let first = cube_first found.0 ls t found.2 in
    record {
      more = first.more;
      after = first.after;
      whole = found.1 ∙ ap (λ m. items ++ m) first.whole;
      next = first.next;
    }
