-- What the words of a label line name.
use Rattle.std.proofs.Common.{◌≡◌, ◌≢◌, ℕ, ◌<◌, ◌≤◌, List, [], ◌∷◌, ◌++◌, Bool, false, length, drop}
use Rattle.std.proofs.Common.{get_or, map, refl, sym, ◌∙◌, ap, subst, arith, Option, Some, None}
use Rattle.std.proofs.Common.{append_assoc}
use Rattle.std.specs.Prelude.{min, not}
use Rattle.std.specs.Option.{option_map}
use Rattle.std.specs.Char.{is_ascii_digit}
use Rattle.std.proofs.lemmas.Bool.{ne_eqb}
use Rattle.cnf_text.specs.declared.numbers.Number as code
use Rattle.cnf_text.specs.Literal.{Literal, greatest_variable}
use Rattle.cnf_text.specs.Icnf.{Symbol, Signed, symbol_of, symbol_of_number}
use Rattle.cnf_text.specs.Numbers.{decimal, number_of, unsigned_of, Number, capped_number}
use Rattle.cnf_text.proofs.NumbersDigits.{no_decimal, number_plain}
use Rattle.split_tree.specs.SplitTree.{SplitTree}
use Rattle.split_tree.specs.Leaves.{HasLeaf, missing_nodes, IsNodeOf}
use Rattle.split_tree.specs.declared.node.Leaf.TheVariants.{Cube, Missing}
use Rattle.split_tree.specs.declared.node.Target.{Target}
use Rattle.case_core.specs.Label.{Name, CubeName, MissingName, PathName, leaf_name, path_of_symbols}
use Rattle.case_core.specs.Label.{IsNamed}
use Rattle.case_core.specs.Inner.Label.{IsPathInRange, IsLimited}
use Rattle.std.specs.Prelude.{true}

-- a path that is read as far as these symbols, which are left
pub record ReadSoFar (whole left : List Symbol) (path : List Literal) (fits : Bool) : Type 0 where
  pub done : List Literal
  pub continues : path_of_symbols whole ≡ option_map (λ rest. done ++ rest) (path_of_symbols left)
  pub same : fits ≡ true → path ≡ done
  pub too_large : fits ≡ false → IsPathInRange done → ⊥

-- a minus is no digit
pub minus_first : (bs : List ℕ) → 0 < length bs → get_or bs 0 0 ≡ 45 →
    None ≡ option_map (λ v. min v 18446744073709551615) (decimal bs)
minus_first bs some is =
    sym (ap (option_map (λ v. min v 18446744073709551615))
    (no_decimal bs 0 some (ap is_ascii_digit is)))

same_number : (a b : code.Number) → Some a ≡ Some b → a ≡ b
same_number a b e = cc

told_plain : (found : Option ℕ) (number : code.Number) →
    Some number ≡ option_map capped_number (unsigned_of found) →
    Some number.magnitude ≡ option_map (λ v. min v 18446744073709551615) found
told_plain None number e = absurd (cc)
told_plain (Some v) number e = ap (λ (n : code.Number). Some n.magnitude) (same_number number _ e)

told_none : (found : Option ℕ) → None ≡ option_map capped_number (unsigned_of found) →
    None ≡ option_map (λ v. min v 18446744073709551615) found
told_none None e = refl
told_none (Some v) e = absurd (cc)

-- a number that was read of digits is their value, up to the greatest that is told apart
pub digits_read : (bs : List ℕ) (number : code.Number) → (get_or bs 0 0 ≡ 45 → ⊥) →
    Some number ≡ option_map capped_number (number_of bs) →
    Some number.magnitude ≡ option_map (λ v. min v 18446744073709551615) (decimal bs)
digits_read bs number plain e =
    told_plain (decimal bs) number (e ∙ ap (option_map capped_number) (number_plain bs plain))

-- bytes that spell no number are no digits
pub no_digits : (bs : List ℕ) → (get_or bs 0 0 ≡ 45 → ⊥)
    → None ≡ option_map capped_number (number_of bs) →
    None ≡ option_map (λ v. min v 18446744073709551615) (decimal bs)
no_digits bs plain e = told_none (decimal bs)
    (e ∙ ap (option_map capped_number) (number_plain bs plain))

same_value : (a b : ℕ) → Some a ≡ Some b → a ≡ b
same_value a b e = cc

-- the value of which so much is told
told_value : (found : Option ℕ) (value : ℕ) →
    Some value ≡ option_map (λ v. min v 18446744073709551615) found →
    (v : ℕ) × (found ≡ Some v) × (value ≡ min v 18446744073709551615)
told_value None value e = absurd (cc)
told_value (Some v) value e = (v, refl, same_value value _ e)

abbrev pub NoTarget : SplitTree → Option Name → Type 0
NoTarget tree name =
    (value : Name) × (name ≡ Some value) × ((target : Target) → IsNamed tree value target → ⊥)

-- a number above all cubes names no target
pub no_great_cube : (tree : SplitTree) (found : Option ℕ) (value : ℕ) → IsLimited tree →
    Some value ≡ option_map (λ v. min v 18446744073709551615) found → 4294967296 ≤ value →
    NoTarget tree (option_map CubeName found)
no_great_cube tree found value limited told great =
    let r = told_value found value told in (
      CubeName r.0,
      ap (option_map CubeName) r.1,
      λ target named.
          let few : r.0 < 4294967296 = limited.cubes named.1.0 r.0 named.1.1.1 in
          let e : value ≡ min r.0 18446744073709551615 = r.2 in absurd (omega arith),
    )

-- a number that no cube of the tree has names no target
pub no_cube : (tree : SplitTree) (found : Option ℕ) (value : ℕ) →
    Some value ≡ option_map (λ v. min v 18446744073709551615) found → value < 4294967296 →
    (HasLeaf tree (Cube value) → ⊥) → NoTarget tree (option_map CubeName found)
no_cube tree found value told few none =
    let r = told_value found value told in
    let e : value ≡ min r.0 18446744073709551615 = r.2 in
    let same : r.0 ≡ value = omega arith in (
      CubeName r.0,
      ap (option_map CubeName) r.1,
      λ target named. none (subst (λ (n : ℕ). HasLeaf tree (Cube n)) same named.1),
    )

-- a number above all missing leaves names no target
pub no_great_missing : (tree : SplitTree) (found : Option ℕ) (value : ℕ) →
    Some value ≡ option_map (λ v. min v 18446744073709551615) found →
    length (missing_nodes tree) < value → NoTarget tree (option_map MissingName found)
no_great_missing tree found value told great =
    let r = told_value found value told in (
      MissingName r.0,
      ap (option_map MissingName) r.1,
      λ target named.
          let few : r.0 ≤ length (missing_nodes tree) = named.1.1.1 in
          let e : value ≡ min r.0 18446744073709551615 = r.2 in absurd (omega arith),
    )

-- a number that no missing leaf of the tree has names no target
pub no_missing : (tree : SplitTree) (found : Option ℕ) (value : ℕ) →
    Some value ≡ option_map (λ v. min v 18446744073709551615) found → value < 4294967296 →
    (HasLeaf tree (Missing value) → ⊥) → NoTarget tree (option_map MissingName found)
no_missing tree found value told few none =
    let r = told_value found value told in
    let e : value ≡ min r.0 18446744073709551615 = r.2 in
    let same : r.0 ≡ value = omega arith in (
      MissingName r.0,
      ap (option_map MissingName) r.1,
      λ target named. none (subst (λ (n : ℕ). HasLeaf tree (Missing n)) same named.1),
    )

-- a leaf's name that begins with `m` is a missing leaf's number
pub leaf_missing : (word : List ℕ) → get_or word 0 0 ≡ 109 →
    leaf_name word ≡ option_map MissingName (decimal (drop 1 word))
unfolding leaf_name
leaf_missing word h = rw h refl

-- a leaf's name that doesn't begin with `m` is a cube's number
pub leaf_cube : (word : List ℕ) → (get_or word 0 0 ≡ 109 → ⊥) →
    leaf_name word ≡ option_map CubeName (decimal word)
unfolding leaf_name
leaf_cube word h = rw (ne_eqb (get_or word 0 0) 109 h) refl

-- no bytes begin with no byte above 0
pub nothing_first : (bs : List ℕ) (b : ℕ) → 0 < b → length bs ≡ 0 → get_or bs 0 0 ≡ b → ⊥
nothing_first [] b some h e = absurd (omega arith)
nothing_first (x ∷ bs) b some h e = absurd (omega arith)

-- a literal within the limits
pub small_number : (found : Option Number) (told : code.Number) →
    Some told ≡ option_map capped_number found → told.magnitude ≢ 0 → told.magnitude ≤ 268435455
    →
    symbol_of_number found
    ≡ Signed (record { variable = told.magnitude; positive = not told.negative })
small_number None told e some small = absurd (cc)
small_number (Some number) told e some small =
    let is : told ≡ capped_number number = same_number told (capped_number number) e in
    let same : told.magnitude ≡ min number.magnitude 18446744073709551615 =
    ap (λ (n : code.Number). n.magnitude) is in
    let sign : told.negative ≡ number.negative = ap (λ (n : code.Number). n.negative) is in
    let exact : told.magnitude ≡ number.magnitude = omega arith in
    rw (ne_eqb number.magnitude 0 (λ zero_is. some (exact ∙ zero_is)), exact, sign) refl

in_front : (a b : List Literal) → IsPathInRange (a ++ b) → IsPathInRange a
in_front [] b h = tt
in_front (l ∷ a) b h = (h.0, in_front a b h.1)

at_end : (a : List Literal) (l : Literal) → IsPathInRange (a ++ l ∷ []) →
    l.variable ≤ greatest_variable
at_end [] l h = h.0
at_end (m ∷ a) l h = at_end a l h.1

one_more : (done : List Literal) (l : Literal) (rest : Option (List Literal)) →
    option_map (λ path. done ++ path) (option_map (λ path. l ∷ path) rest)
    ≡ option_map (λ path. (done ++ l ∷ []) ++ path) rest
one_more done l None = refl
one_more done l (Some path) = ap Some (sym (append_assoc done (l ∷ []) path))

goes_on : (whole left : List Symbol) (done : List Literal) (l : Literal) →
    path_of_symbols whole ≡ option_map (λ path. done ++ path) (path_of_symbols (Signed l ∷ left)) →
    path_of_symbols whole ≡ option_map (λ path. (done ++ l ∷ []) ++ path) (path_of_symbols left)
goes_on whole left done l e = e ∙ one_more done l (path_of_symbols left)

-- one more literal of a path was read
pub literal_read : (whole before left : List Symbol) (path pushed : List Literal) (fits : Bool)
    (l : Literal) → ReadSoFar whole before path fits → before ≡ Signed l ∷ left →
    pushed ≡ path ++ l ∷ [] → ReadSoFar whole left pushed fits
literal_read whole before left path pushed fits l r is e = record {
  done = r.done ++ l ∷ [];
  continues = goes_on whole left r.done l (rw is at r.continues);
  same = λ fit. e ∙ ap (λ p. p ++ l ∷ []) (r.same fit);
  too_large = λ large within. r.too_large large (in_front r.done (l ∷ []) within);
}

-- a path with a variable that is too large is no inner node's
pub large_read : (whole before left : List Symbol) (path : List Literal) (fits : Bool)
    (l : Literal) → ReadSoFar whole before path fits → before ≡ Signed l ∷ left →
    268435455 < l.variable → ReadSoFar whole left path false
large_read whole before left path fits l r is large = record {
  done = r.done ++ l ∷ [];
  continues = goes_on whole left r.done l (rw is at r.continues);
  same = λ never. cc;
  too_large = λ _ within. let small : l.variable ≤ 268435455 = at_end r.done l within in
      absurd (omega arith);
}

-- the symbols of a line whose first word is a literal
pub first_symbol : (line rest : List (List ℕ)) (word : List ℕ) (l : Literal) → line ≡ word ∷ rest →
    symbol_of word ≡ Signed l → map symbol_of line ≡ Signed l ∷ map symbol_of rest
first_symbol line rest word l is e = ap (map symbol_of) is ∙ ap (λ s. s ∷ map symbol_of rest) e

-- a path with a variable out of range names no target
pub no_node_in_range : (tree : SplitTree) (whole : Option (List Literal)) (path : List Literal) →
    IsLimited tree → whole ≡ Some path → (IsPathInRange path → ⊥) →
    NoTarget tree (option_map PathName whole)
no_node_in_range tree whole path limited is large = (
  PathName path,
  ap (option_map PathName) is,
  λ target named. large (subst IsPathInRange named.2.2 (limited.paths named.0)),
)

-- a path that no inner node has names no target
pub no_node : (tree : SplitTree) (whole : Option (List Literal)) (path : List Literal) →
    whole ≡ Some path → IsNodeOf tree path None → NoTarget tree (option_map PathName whole)
no_node tree whole path is none = (
  PathName path,
  ap (option_map PathName) is,
  λ target named. none named.0 named.2.0 named.2.1 named.2.2,
)

-- bytes that aren't none are some
pub some_bytes : (bs : List ℕ) → (length bs ≡ 0 → ⊥) → 0 < length bs
some_bytes bs some = omega (arith, some)

-- what isn't below a limit has reached it
pub at_least : (limit value : ℕ) → (value < limit → ⊥) → limit ≤ value
at_least limit value above = omega (arith, above)
