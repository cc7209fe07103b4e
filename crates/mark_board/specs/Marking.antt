-- Marks and open weights. A node is named by its number in tree order, a set of refuted nodes is
-- its test.
use Rattle.std.specs.Prelude.{ℕ, zero, suc, ◌+◌, ◌<◌, ◌≤◌, ◌≡◌, ◌==◌, ◌&&◌, ◌||◌, not}
use Rattle.std.specs.Prelude.{if◌then◌else◌, Bool, true, false, List, [], ◌∷◌, ◌++◌, get_or}
use Rattle.case_core.specs.Literal.{Literal}
use Rattle.case_core.specs.Formula.{IsRefuted}
use Rattle.split_tree.specs.SplitTree.{SplitTree, missing, cube, split, size, labels, branch}
use Rattle.mark_board.specs.declared.mark.Mark.{Mark}
use Rattle.mark_board.specs.declared.mark.Mark.TheVariants.{Open, Refuted, Rejected}

-- whether the node of this number, with this tree below it, is marked: a leaf that is refuted, or
-- an inner node that is refuted or has both branches marked
abbrev pub marked : (ℕ → Bool) → ℕ → SplitTree → Bool
marked refuted node missing = refuted node
marked refuted node (cube k) = refuted node
marked refuted node (split v positive negative) =
    refuted node
    || (marked refuted (suc node) positive && marked refuted (suc (node + size positive)) negative)

-- the sum of the weights of the leaves from a node on that lie under no node that is marked from
-- there on
abbrev pub open_weight : (ℕ → ℕ) → (ℕ → Bool) → ℕ → SplitTree → ℕ
open_weight worth refuted node missing = if refuted node then 0 else worth node
open_weight worth refuted node (cube k) = if refuted node then 0 else worth node
open_weight worth refuted node (split v positive negative) =
    if marked refuted node (split v positive negative) then 0
    else open_weight worth refuted (suc node) positive
    + open_weight worth refuted (suc (node + size positive)) negative

-- the sum of the weights of all leaves
abbrev pub whole_weight : (ℕ → ℕ) → ℕ → SplitTree → ℕ
whole_weight worth node tree = open_weight worth (λ q. false) node tree

-- the weight of the leaves under the node `target` that lie under no marked node
abbrev pub open_below : (ℕ → ℕ) → (ℕ → Bool) → ℕ → ℕ → SplitTree → ℕ
open_below worth refuted target node missing =
    if node == target then open_weight worth refuted node missing else 0
open_below worth refuted target node (cube k) =
    if node == target then open_weight worth refuted node (cube k) else 0
open_below worth refuted target node (split v positive negative) =
    if node == target then open_weight worth refuted node (split v positive negative)
    else (if marked refuted node (split v positive negative) then 0
    else open_below worth refuted target (suc node) positive
    + open_below worth refuted target (suc (node + size positive)) negative)

-- the top board of a cut, whose leaves are the parts: its own nodes by their marks, its parts by a
-- test of number and tree
abbrev pub marked_on_top : (ℕ → Bool) → (ℕ → SplitTree → Bool) → ℕ → ℕ → SplitTree → Bool
marked_on_top refuted part zero node tree = part node tree
marked_on_top refuted part (suc cut) node missing = part node missing
marked_on_top refuted part (suc cut) node (cube k) = part node (cube k)
marked_on_top refuted part (suc cut) node (split v positive negative) =
    refuted node
    || (marked_on_top refuted part cut (suc node) positive
    && marked_on_top refuted part cut (suc (node + size positive)) negative)

-- the sum of the weights of the parts that lie under no marked node of the top board and aren't
-- marked there
abbrev pub open_on_top : (ℕ → SplitTree → ℕ) → (ℕ → Bool) → (ℕ → SplitTree → Bool) → ℕ →
    ℕ → SplitTree → ℕ
open_on_top worth refuted part zero node tree = if part node tree then 0 else worth node tree
open_on_top worth refuted part (suc cut) node missing =
    if part node missing then 0 else worth node missing
open_on_top worth refuted part (suc cut) node (cube k) =
    if part node (cube k) then 0 else worth node (cube k)
open_on_top worth refuted part (suc cut) node (split v positive negative) =
    if marked_on_top refuted part (suc cut) node (split v positive negative) then 0
    else open_on_top worth refuted part cut (suc node) positive
    + open_on_top worth refuted part cut (suc (node + size positive)) negative

-- a node by its number, with the tree below it
pub record NodeWithTree : Type 0 where
  pub node : ℕ
  pub tree : SplitTree

-- no node from this one on is marked
abbrev pub wholly_open : (ℕ → Bool) → ℕ → SplitTree → Bool
wholly_open refuted node missing = not (refuted node)
wholly_open refuted node (cube k) = not (refuted node)
wholly_open refuted node (split v positive negative) =
    not (marked refuted node (split v positive negative))
    && (wholly_open refuted (suc node) positive
    && wholly_open refuted (suc (node + size positive)) negative)

-- the wholly open nodes under no marked node whose parents aren't wholly open, in tree order
abbrev pub open_branches : (ℕ → Bool) → ℕ → SplitTree → List NodeWithTree
open_branches refuted node missing =
    if refuted node then [] else record { node = node; tree = missing } ∷ []
open_branches refuted node (cube k) =
    if refuted node then [] else record { node = node; tree = cube k } ∷ []
open_branches refuted node (split v positive negative) =
    if marked refuted node (split v positive negative) then []
    else (if wholly_open refuted node (split v positive negative)
    then record { node = node; tree = split v positive negative } ∷ []
    else open_branches refuted (suc node) positive
    ++ open_branches refuted (suc (node + size positive)) negative)

-- what the leaves under these nodes weigh
abbrev pub weight_under : (ℕ → ℕ) → List NodeWithTree → ℕ
weight_under worth [] = 0
weight_under worth (p ∷ places) = whole_weight worth p.node p.tree + weight_under worth places

-- the nodes under each of them end before the next one, from `node` to `end`
abbrev pub AreApart : ℕ → List NodeWithTree → ℕ → Type 0
AreApart node [] end = node ≤ end
AreApart node (p ∷ places) end = (node ≤ p.node) × AreApart (p.node + size p.tree) places end

-- each node of the set, from the one of this number and path on, has no model together with the
-- formula
abbrev pub AreRefuted : List (List Literal) → (ℕ → Bool) → List Literal → ℕ → SplitTree → Type 0
AreRefuted formula refuted path node tree =
    (r : ℕ) → r < size tree → refuted (node + r) ≡ true →
    IsRefuted formula (get_or (labels branch path tree) r [])

-- the one set has all that the other has
abbrev pub IsWithin : (ℕ → Bool) → (ℕ → Bool) → Type 0
IsWithin refuted more = (q : ℕ) → refuted q ≡ true → more q ≡ true

-- what is posted on the top board agrees with a set of refuted nodes: a part where its root is
-- marked, an own node where it is in the set
abbrev pub Agrees : (ℕ → Bool) → (ℕ → Bool) → ℕ → ℕ → SplitTree → Type 0
Agrees refuted posted zero node tree = posted node ≡ marked refuted node tree
Agrees refuted posted (suc cut) node missing = posted node ≡ refuted node
Agrees refuted posted (suc cut) node (cube k) = posted node ≡ refuted node
Agrees refuted posted (suc cut) node (split v positive negative) =
    (posted node ≡ refuted node) × Agrees refuted posted cut (suc node) positive
    × Agrees refuted posted cut (suc (node + size positive)) negative

abbrev pub is_refuted : Mark → Bool
is_refuted Open = false
is_refuted Refuted = true
is_refuted (Rejected step reason) = false

-- the mark of the node of this number
abbrev pub mark_at : List Mark → ℕ → Mark
mark_at marks node = get_or marks node Open

-- the set of the nodes that are refuted
abbrev pub refuted_by : List Mark → ℕ → Bool
refuted_by marks node = is_refuted (mark_at marks node)
