-- The loop that grows a tree: the nodes so far, and the lists of cubes whose trees come after them,
-- the last one first.
use Rattle.std.proofs.Common.{◌≡◌, ◌≢◌, ℕ, ◌+◌, ◌*◌, ◌<◌, List, [], ◌∷◌, ◌++◌, length, Bool, true}
use Rattle.std.proofs.Common.{false, refl, sym, ap, ◌∙◌, inl, inr, arith, append_assoc, append-nil}
use Rattle.std.proofs.Common.{Some}
use Rattle.std.specs.List.{AllByRecursion}
use Rattle.std.specs.Bool.{beq}
use Rattle.std.proofs.lemmas.List.{map-append}
use Rattle.std.proofs.lemmas.Bool.{eq-eqb, cases_Bool}
use Rattle.split_tree.specs.declared.clash.Relation.TheVariants.{Fit}
use Rattle.split_tree.specs.declared.shape.Shape.{Shape}
use Rattle.split_tree.specs.declared.shape.Shape.TheVariants.{Missing, Cube, Split}
use Rattle.cnf_text.specs.Literal.{Literal}
use Rattle.split_tree.specs.Clash.{relation_of}
use Rattle.split_tree.specs.SplitTree.{SplitTree, missing, cube, split, Numbered, SplitsOn}
use Rattle.split_tree.specs.SplitTree.{going_with, going, IsTreeOf}
use Rattle.split_tree.specs.Inner.Nodes.{preorder}
use Rattle.split_tree.specs.Inner.Grow.{AreFit, group_ahead, IsShapeAt, waiting}
use Rattle.split_tree.specs.declared.group.Group.{Group}
use Rattle.split_tree.proofs.SplitTreeUnique.{literals_of, going_literals, some_length}

-- each list has its tree
abbrev pub AreTreesOf : List SplitTree → List (List Numbered) → Type 0
AreTreesOf [] [] = Unit {0}
AreTreesOf [] (c ∷ waiting) = ⊥
AreTreesOf (t ∷ trees) [] = ⊥
AreTreesOf (t ∷ trees) (c ∷ waiting) = IsTreeOf t c × AreTreesOf trees waiting

-- the nodes of the trees, those of the last tree first
abbrev pub nodes_of : List SplitTree → List Shape
nodes_of [] = []
nodes_of (t ∷ trees) = nodes_of trees ++ preorder t

-- whatever the trees of the waiting lists are, the nodes so far and theirs are those of a tree of
-- all cubes
abbrev pub Completes : List Numbered → List Shape → List (List Numbered) → Type 0
Completes cubes shapes waiting = (trees : List SplitTree) → AreTreesOf trees waiting →
    (t : SplitTree) × IsTreeOf t cubes × (preorder t ≡ shapes ++ nodes_of trees)

trees_push : (trees : List SplitTree) (waiting : List (List Numbered)) (t : SplitTree)
    (c : List Numbered) →
    AreTreesOf trees waiting → IsTreeOf t c → AreTreesOf (trees ++ t ∷ []) (waiting ++ c ∷ [])
trees_push [] [] t c h k = (k, tt)
trees_push [] (d ∷ waiting) t c h k = absurd h
trees_push (s ∷ trees) [] t c h k = absurd h
trees_push (s ∷ trees) (d ∷ waiting) t c h k = (h.0, trees_push trees waiting t c h.1 k)

record Popped (trees : List SplitTree) (waiting : List (List Numbered)) (c : List Numbered) : Type 0
  where
    rest : List SplitTree
    last : SplitTree
    is : trees ≡ rest ++ last ∷ []
    others : AreTreesOf rest waiting
    tree : IsTreeOf last c

trees_pop : (trees : List SplitTree) (waiting : List (List Numbered)) (c : List Numbered) →
    AreTreesOf trees (waiting ++ c ∷ []) → Popped trees waiting c
trees_pop [] [] c h = absurd h
trees_pop [] (d ∷ waiting) c h = absurd h
trees_pop (t ∷ []) [] c h = record { rest = []; last = t; is = refl; others = tt; tree = h.0 }
trees_pop (t ∷ s ∷ trees) [] c h = absurd h.1
trees_pop (t ∷ trees) (d ∷ waiting) c h =
    let p : Popped trees waiting c = trees_pop trees waiting c h.1 in
    record {
      rest = t ∷ p.rest;
      last = p.last;
      is = ap (λ (us : List SplitTree). t ∷ us) p.is;
      others = (h.0, p.others);
      tree = p.tree;
    }

nodes_push : (trees : List SplitTree) (t : SplitTree) →
    nodes_of (trees ++ t ∷ []) ≡ preorder t ++ nodes_of trees
nodes_push [] t = sym (append-nil (preorder t))
nodes_push (s ∷ trees) t =
    ap (λ (ns : List Shape). ns ++ preorder s) (nodes_push trees t)
    ∙ append_assoc (preorder t) (nodes_of trees) (preorder s)

pub one_tree : (start : List Numbered) → Completes start [] (start ∷ [])
one_tree start [] a = absurd a
one_tree start (t ∷ []) a = (t, a.0, refl)
one_tree start (t ∷ s ∷ trees) a = absurd a.1

pub leaf_step : (cubes : List Numbered) (shapes : List Shape) (waiting : List (List Numbered))
    (c : List Numbered) (t : SplitTree) (s : Shape) →
    Completes cubes shapes (waiting ++ c ∷ []) → IsTreeOf t c → preorder t ≡ s ∷ [] →
    Completes cubes (shapes ++ s ∷ []) waiting
leaf_step cubes shapes waiting c t s k h e trees a =
    let r = k (trees ++ t ∷ []) (trees_push trees waiting t c a h) in
    (r.0, r.1, r.2 ∙ rw (nodes_push trees t, e, append_assoc shapes (s ∷ []) (nodes_of trees)) refl)

split_nodes : (shapes : List Shape) (v : ℕ) (p n : SplitTree) (us ws trees : List SplitTree) →
    ws ≡ us ++ n ∷ [] → trees ≡ ws ++ p ∷ [] →
    shapes ++ nodes_of (us ++ split v p n ∷ []) ≡ (shapes ++ Split v ∷ []) ++ nodes_of trees
split_nodes shapes v p n us ws trees e f =
    rw (
      f,
      nodes_push ws p,
      e,
      nodes_push us n,
      nodes_push us (split v p n),
      append_assoc shapes (Split v ∷ []) (preorder p ++ (preorder n ++ nodes_of us)),
      append_assoc (preorder p) (preorder n) (nodes_of us),
    ) refl

pub split_step : (cubes : List Numbered) (shapes : List Shape) (waiting : List (List Numbered))
    (c : List Numbered) (v : ℕ) →
    Completes cubes shapes (waiting ++ c ∷ []) → c ≢ [] →
    AllByRecursion (λ d. SplitsOn v d.literals) c →
    Completes cubes (shapes ++ Split v ∷ []) ((waiting ++ going false c ∷ []) ++ going true c ∷ [])
split_step cubes shapes waiting c v k some h trees a =
    let p : Popped trees (waiting ++ going false c ∷ []) (going true c) =
    trees_pop trees (waiting ++ going false c ∷ []) (going true c) a in
    let n : Popped p.rest waiting (going false c) =
    trees_pop p.rest waiting (going false c) p.others in
    let t : SplitTree = split v p.last n.last in
    let r =
    k (n.rest ++ t ∷ []) (trees_push n.rest waiting t c n.others (some, h, p.tree, n.tree)) in
    (r.0, r.1, r.2 ∙ split_nodes shapes v p.last n.last n.rest p.rest trees n.is p.is)

-- ---- the cubes that go one way fit where all do

goes_on : (l m : Literal) (left right : List Literal) → relation_of (l ∷ left) (m ∷ right) ≡ Fit →
    m.variable ≡ l.variable →
    beq l.positive m.positive ≡ true → relation_of left right ≡ Fit
goes_on l m left right h e s =
    let k = rw (eq-eqb l.variable m.variable (sym e)) at h in rw s at k

same_signs : (a b s : Bool) → beq a s ≡ true → beq b s ≡ true → beq a b ≡ true
same_signs true true s h k = refl
same_signs false false s h k = refl
same_signs true false true h k = k
same_signs true false false h k = h
same_signs false true true h k = h
same_signs false true false h k = k

keeps_fit_one : (sign : Bool) (v : ℕ) (left : List Literal) (l : Literal) (number : ℕ)
    (literals : List Literal) (others : List Numbered) →
    beq l.positive sign ≡ true → l.variable ≡ v → relation_of (l ∷ left) literals ≡ Fit →
    SplitsOn v literals →
    AllByRecursion (λ d. relation_of left d.literals ≡ Fit) others →
    AllByRecursion (λ d. relation_of left d.literals ≡ Fit) (going_with sign number literals others)
keeps_fit_one sign v left l number [] others s e h k o = o
keeps_fit_one sign v left l number (m ∷ right) others s e h k o =
    elim (cases_Bool (beq m.positive sign)) [
      | inl same ↦ rw same
          (goes_on l m left right h (k ∙ sym e) (same_signs l.positive m.positive sign s same), o)
      | inr other ↦ rw other o
    ]

keeps_fit : (sign : Bool) (v number : ℕ) (left : List Literal) (l : Literal)
    (cubes : List Numbered) → beq l.positive sign ≡ true → l.variable ≡ v →
    AllByRecursion (λ d. relation_of (l ∷ left) d.literals ≡ Fit) cubes →
    AllByRecursion (λ d. SplitsOn v d.literals) cubes →
    AllByRecursion (λ d. relation_of left d.literals ≡ Fit) (going sign cubes)
keeps_fit sign v number left l [] s e h k = tt
keeps_fit sign v number left l (c ∷ cubes) s e h k =
    keeps_fit_one sign v left l c.number c.literals (going sign cubes) s e h.0 k.0
    (keeps_fit sign v number left l cubes s e h.1 k.1)

fit_going_one : (sign : Bool) (v number : ℕ) (literals : List Literal) (cubes : List Numbered) →
    AllByRecursion (λ d. relation_of literals d.literals ≡ Fit) cubes →
    AllByRecursion (λ d. SplitsOn v d.literals) cubes → SplitsOn v literals →
    AreFit (going sign cubes) → AreFit (going_with sign number literals (going sign cubes))
fit_going_one sign v number [] cubes h k s o = o
fit_going_one sign v number (l ∷ left) cubes h k s o = elim (cases_Bool (beq l.positive sign)) [
  | inl same ↦ rw same (keeps_fit sign v number left l cubes same s h k, o)
  | inr other ↦ rw other o
]

-- of cubes that fit and split on one variable, those that go one way fit too
pub fit_going : (sign : Bool) (v : ℕ) (cubes : List Numbered) → AreFit cubes →
    AllByRecursion (λ d. SplitsOn v d.literals) cubes →
    AreFit (going sign cubes)
fit_going sign v [] h k = tt
fit_going sign v (c ∷ cubes) h k =
    fit_going_one sign v c.number c.literals cubes h.0 k.1 k.0 (fit_going sign v cubes h.1 k.1)

-- ---- lists that wait

-- what falls in each turn: the waiting lists, and twice their literals
pub weigh : List (List Numbered) → ℕ
weigh [] = 0
weigh (c ∷ waiting) = 1 + 2 * literals_of c + weigh waiting

pub weigh_push : (ws : List (List Numbered)) (c : List Numbered) →
    weigh (ws ++ c ∷ []) ≡ weigh ws + (1 + 2 * literals_of c)
unfolding weigh
weigh_push [] c = omega arith
weigh_push (d ∷ ws) c =
    let h : weigh (ws ++ c ∷ []) ≡ weigh ws + (1 + 2 * literals_of c) = weigh_push ws c in
    omega arith

pub all_push : {X : Type 0} (P : X → Type 0) (xs : List X) (x : X) → AllByRecursion P xs → P x →
    AllByRecursion P (xs ++ x ∷ [])
all_push P [] x h k = (k, tt)
all_push P (y ∷ xs) x h k = (h.0, all_push P xs x h.1 k)

pub all_pop : {X : Type 0} (P : X → Type 0) (xs : List X) (x : X) → AllByRecursion P (xs ++ x ∷ [])
    → AllByRecursion P xs × P x
all_pop P [] x h = (tt, h.0)
all_pop P (y ∷ xs) x h = let r = all_pop P xs x h.1 in ((h.0, r.0), r.1)

-- the nodes so far and what waits lead to the tree of the cubes at the start
pub record Grows (start : List Numbered) (shapes : List Shape) (ws : List (List Numbered)) : Type 0
  where
    pub completes : Completes start shapes ws
    pub fit : AreFit start → AllByRecursion AreFit ws

-- at first there are no shapes, and all cubes wait
pub grows_start : (start : List Numbered) → Grows start [] (start ∷ [])
grows_start start = record { completes = one_tree start; fit = λ h. (h, tt) }

-- the last waiting list was a leaf's
pub grows_leaf : (start : List Numbered) (shapes : List Shape) (ws : List (List Numbered))
    (c : List Numbered) (s : Shape) →
    Grows start shapes (ws ++ c ∷ []) → IsShapeAt (Some s) c → ((v : ℕ) → s ≡ Split v → ⊥) →
    Grows start (shapes ++ s ∷ []) ws
grows_leaf start shapes ws c Missing g h n =
    record {
      completes = leaf_step start shapes ws c missing Missing g.completes h refl;
      fit = λ f. (all_pop AreFit ws c (g.fit f)).0;
    }
grows_leaf start shapes ws c (Cube k) g h n =
    record {
      completes = leaf_step start shapes ws c (cube k) (Cube k) g.completes h refl;
      fit = λ f. (all_pop AreFit ws c (g.fit f)).0;
    }
grows_leaf start shapes ws c (Split v) g h n = absurd (n v refl)

-- the last waiting list was split, and the lists of its two branches wait
pub grows_split : (start : List Numbered) (shapes : List Shape) (ws : List (List Numbered))
    (c : List Numbered) (v : ℕ) →
    Grows start shapes (ws ++ c ∷ []) → IsShapeAt (Some (Split v)) c →
    Grows start (shapes ++ Split v ∷ []) ((ws ++ going false c ∷ []) ++ going true c ∷ [])
grows_split start shapes ws c v g h = record {
  completes = split_step start shapes ws c v g.completes h.0 h.1;
  fit = λ f. let r = all_pop AreFit ws c (g.fit f) in
      all_push AreFit (ws ++ going false c ∷ []) (going true c)
      (all_push AreFit ws (going false c) r.0 (fit_going false v c r.1 h.1))
      (fit_going true v c r.1 h.1);
}

-- where a waiting list has a clash, so have the cubes
pub grows_clash : (start : List Numbered) (shapes : List Shape) (ws : List (List Numbered))
    (c : List Numbered) →
    Grows start shapes (ws ++ c ∷ []) → (AreFit c → ⊥) → AreFit start → ⊥
grows_clash start shapes ws c g h f = h (all_pop AreFit ws c (g.fit f)).1

-- where no list waits any more, the shapes are those of a tree of the cubes
pub grows_all : (start : List Numbered) (shapes : List Shape) → Grows start shapes [] →
    (t : SplitTree) × IsTreeOf t start × (preorder t ≡ shapes)
grows_all start shapes g = let r = g.completes [] tt in (r.0, r.1, r.2 ∙ append-nil shapes)

-- what waits weighs less without a list
pub lighter_leaf : (ws : List (List Numbered)) (c : List Numbered) → weigh ws < weigh (ws ++ c ∷ [])
lighter_leaf ws c =
    let h : weigh (ws ++ c ∷ []) ≡ weigh ws + (1 + 2 * literals_of c) = weigh_push ws c in
    omega arith

-- what waits weighs less after a split
pub lighter_split : (ws : List (List Numbered)) (c : List Numbered) (v : ℕ) →
    IsShapeAt (Some (Split v)) c →
    weigh ((ws ++ going false c ∷ []) ++ going true c ∷ []) < weigh (ws ++ c ∷ [])
lighter_split ws c v h =
    let a : weigh (ws ++ c ∷ []) ≡ weigh ws + (1 + 2 * literals_of c) = weigh_push ws c in
    let b : weigh (ws ++ going false c ∷ []) ≡ weigh ws + (1 + 2 * literals_of (going false c)) =
    weigh_push ws (going false c) in
    let d : weigh ((ws ++ going false c ∷ []) ++ going true c ∷ [])
    ≡ weigh (ws ++ going false c ∷ []) + (1 + 2 * literals_of (going true c)) =
    weigh_push (ws ++ going false c ∷ []) (going true c) in
    let e : literals_of (going true c) + literals_of (going false c) + length c ≡ literals_of c =
    going_literals c v h.1 in
    let f : 0 < length c = some_length c h.0 in
    omega arith

-- one more list waits
pub waiting_push : (new old : List Group) (g : Group) → new ≡ old ++ g ∷ [] →
    waiting new ≡ waiting old ++ group_ahead g ∷ []
waiting_push new old g e =
    ap (λ (gs : List Group). waiting gs) e ∙ map-append group_ahead old (g ∷ [])
