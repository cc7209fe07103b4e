-- What the growing of a tree uses: what stands where some cubes have come to, and which cubes go
-- which way.
use Rattle.std.proofs.Common.{◌≡◌, ◌≢◌, ℕ, ◌+◌, ◌<◌, List, [], ◌∷◌, ◌++◌, length, get_or, drop}
use Rattle.std.proofs.Common.{Bool, true, false, cond, refl, sym, ap, ◌∙◌, inl, inr, arith}
use Rattle.std.proofs.Common.{append_assoc, append-nil, Vec, Some, None, slice_get}
use Rattle.std.specs.List.{AllByRecursion}
use Rattle.std.specs.Bool.{beq}
use Rattle.std.proofs.lemmas.List.{drop_more}
use Rattle.std.proofs.lemmas.Bool.{cases_eq, ne_eqb}
use Rattle.split_tree.specs.declared.clash.Relation.TheVariants.{Fit}
use Rattle.split_tree.specs.declared.group.Ahead.{Ahead}
use Rattle.cnf_text.specs.Literal.{Literal}
use Rattle.split_tree.specs.Clash.{relation_of, cube_lists}
use Rattle.split_tree.specs.SplitTree.{Numbered, numbered, SplitsOn, going_with, going}
use Rattle.split_tree.specs.Inner.Grow.{cubes_ahead, AreFit}

-- ---- what stands where some cubes have come to

-- a cube that has ended fits no other
pub ended_unfit : (right : List Literal) → relation_of [] right ≡ Fit → ⊥
ended_unfit [] h = cc
ended_unfit (m ∷ right) h = cc

fit_splits : (l : Literal) (left right : List Literal) → relation_of (l ∷ left) right ≡ Fit →
    SplitsOn l.variable right
fit_splits l left [] h = absurd (cc)
fit_splits l left (m ∷ right) h = elim (cases_eq l.variable m.variable) [
  | inl same ↦ sym same
  | inr other ↦ let k = rw (ne_eqb l.variable m.variable other) at h in absurd (cc)
]

-- cubes that all fit one that goes on split on the variable of its next literal
pub all_fit_split : (l : Literal) (left : List Literal) (cubes : List Numbered) →
    AllByRecursion (λ d. relation_of (l ∷ left) d.literals ≡ Fit) cubes →
    AllByRecursion (λ d. SplitsOn l.variable d.literals) cubes
all_fit_split l left [] h = tt
all_fit_split l left (d ∷ cubes) h =
    (fit_splits l left d.literals h.0, all_fit_split l left cubes h.1)

nothing_ahead : (literals : List Literal) → None ≡ slice_get literals 0 → literals ≡ []
nothing_ahead [] h = refl
nothing_ahead (l ∷ literals) h = cc

-- a cube that has ended, alone
pub alone : (cubes : List Ahead) (f : Ahead) → Some f ≡ slice_get cubes 0 →
    None ≡ slice_get f.literals.now 0 →
    length cubes ≡ 1 → cubes_ahead cubes ≡ record { number = f.number; literals = [] } ∷ []
alone [] f h e l = cc
alone (c ∷ d ∷ cubes) f h e l = absurd (omega arith)
alone (c ∷ []) f h e l =
    let i : f ≡ c = cc in
    let j : f.literals.now ≡ [] = nothing_ahead f.literals.now e in
    rw (← i, j) refl

-- with a first cube there are some
pub some_ahead : (cubes : List Ahead) (f : Ahead) → Some f ≡ slice_get cubes 0 →
    cubes_ahead cubes ≢ []
some_ahead [] f h e = cc
some_ahead (c ∷ cubes) f h e = cc

-- a cube that has ended clashes with others beside it
pub ended_clash : (cubes : List Ahead) (f : Ahead) → Some f ≡ slice_get cubes 0 →
    None ≡ slice_get f.literals.now 0 →
    (length cubes ≡ 1 → ⊥) → AreFit (cubes_ahead cubes) → ⊥
ended_clash [] f h e l a = cc
ended_clash (c ∷ []) f h e l a = l refl
ended_clash (c ∷ d ∷ cubes) f h e l a =
    let i : f ≡ c = cc in
    let j : f.literals.now ≡ [] = nothing_ahead f.literals.now e in
    let k : c.literals.now ≡ [] = cc in
    ended_unfit d.literals.now (rw k at a.0.0)

split_ahead : (own literals : List Literal) (l : Literal) (cubes : List Numbered) →
    own ≡ literals → Some l ≡ slice_get literals 0 →
    AllByRecursion (λ d. relation_of own d.literals ≡ Fit) cubes →
    SplitsOn l.variable own × AllByRecursion (λ d. SplitsOn l.variable d.literals) cubes
split_ahead own [] l cubes i h a = cc
split_ahead own (m ∷ literals) l cubes i h a =
    let j : l ≡ m = cc in
    rw (j, i) (refl, all_fit_split m literals cubes (rw i at a))

-- where cubes fit and the first goes on with a literal, all of them split on its variable
pub all_split : (cubes : List Numbered) (f : Numbered) (l : Literal) →
    Some f ≡ slice_get cubes 0 → Some l ≡ slice_get f.literals 0 → AreFit cubes →
    AllByRecursion (λ c. SplitsOn l.variable c.literals) cubes
all_split [] f l h e a = cc
all_split (c ∷ cubes) f l h e a =
    let i : f ≡ c = cc in
    let k : Some l ≡ slice_get c.literals 0 = rw i at e in
    split_ahead c.literals c.literals l cubes refl k a.0

-- the first cube, as what lies ahead of it
pub first_ahead : (cubes : List Ahead) (f : Ahead) → Some f ≡ slice_get cubes 0 →
    Some (record { number = f.number; literals = f.literals.now })
    ≡ slice_get (cubes_ahead cubes) 0
first_ahead [] f h = cc
first_ahead (c ∷ cubes) f h = let i : f ≡ c = cc in rw i refl

-- ---- which cubes go which way

going_with-others : (sign : Bool) (number : ℕ) (literals : List Literal) (others : List Numbered) →
    going_with sign number literals others ≡ going_with sign number literals [] ++ others
going_with-others sign number [] others = refl
going_with-others sign number (l ∷ rest) others =
    elim (beq l.positive sign) as
    (λ b. cond b (record { number = number; literals = rest } ∷ others) others
    ≡ cond b (record { number = number; literals = rest } ∷ []) [] ++ others) [
      | true ↦ refl
      | false ↦ refl
    ]

pub cubes_ahead-append : (xs ys : List Ahead) →
    cubes_ahead (xs ++ ys) ≡ cubes_ahead xs ++ cubes_ahead ys
cubes_ahead-append [] ys = refl
cubes_ahead-append (x ∷ xs) ys =
    ap (λ zs. record { number = x.number; literals = x.literals.now } ∷ zs)
    (cubes_ahead-append xs ys)

-- one cube more has been looked at
pub going_more : (sign : Bool) (way more cubes : List Ahead) (i : ℕ) (c : Ahead)
    (all : List Numbered) → i < length cubes → c ≡ get_or cubes i c →
    cubes_ahead more ≡ going_with sign c.number c.literals.now [] →
    cubes_ahead way ++ going sign (cubes_ahead (drop i cubes)) ≡ all →
    cubes_ahead (way ++ more) ++ going sign (cubes_ahead (drop (i + 1) cubes)) ≡ all
going_more sign way more cubes i c all h same m e =
    let rest : List Numbered = going sign (cubes_ahead (drop (i + 1) cubes)) in
    let d : drop i cubes ≡ c ∷ drop (i + 1) cubes =
    drop_more cubes i c h ∙ ap (λ (x : Ahead). x ∷ drop (i + 1) cubes) (sym same) in
    let k : cubes_ahead way ++ going_with sign c.number c.literals.now rest ≡ all = rw d at e in
    rw (
      cubes_ahead-append way more,
      append_assoc (cubes_ahead way) (cubes_ahead more) rest,
      m,
      ← going_with-others sign c.number c.literals.now rest,
    ) k

-- the same where that cube goes the other way
pub going_past : (sign : Bool) (way cubes : List Ahead) (i : ℕ) (c : Ahead) (all : List Numbered) →
    i < length cubes → c ≡ get_or cubes i c →
    [] ≡ going_with sign c.number c.literals.now [] →
    cubes_ahead way ++ going sign (cubes_ahead (drop i cubes)) ≡ all →
    cubes_ahead way ++ going sign (cubes_ahead (drop (i + 1) cubes)) ≡ all
going_past sign way cubes i c all h same m e =
    let k : cubes_ahead (way ++ []) ++ going sign (cubes_ahead (drop (i + 1) cubes)) ≡ all =
    going_more sign way [] cubes i c all h same m e in
    rw (append-nil way) at k

-- one cube more has been numbered
pub numbered_more : {Z : Type 0} (way more : List Ahead) (vs : List (Vec Literal Z)) (i : ℕ)
    (v : Vec Literal Z) (all : List Numbered) →
    i < length vs → v ≡ get_or vs i v →
    cubes_ahead more ≡ record { number = i + 1; literals = v.items } ∷ [] →
    cubes_ahead way ++ numbered (i + 1) (cube_lists (drop i vs)) ≡ all →
    cubes_ahead (way ++ more) ++ numbered (i + 1 + 1) (cube_lists (drop (i + 1) vs)) ≡ all
numbered_more {Z} way more vs i v all h e m inv =
    let k : drop i vs ≡ v ∷ drop (i + 1) vs =
    drop_more vs i v h ∙ ap (λ (x : Vec Literal Z). x ∷ drop (i + 1) vs) (sym e) in
    rw (
      cubes_ahead-append way more,
      append_assoc (cubes_ahead way) (cubes_ahead more)
          (numbered (i + 1 + 1) (cube_lists (drop (i + 1) vs))),
      m,
    )
    (rw k at inv)
