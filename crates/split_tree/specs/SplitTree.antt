use Rattle.std.specs.Prelude.{ℕ, suc, get_or, ◌+◌, ◌-◌, ◌^◌, ◌≡◌, ◌≢◌, nat_le, if◌then◌else◌, Bool}
use Rattle.std.specs.Prelude.{true, false, List, [], ◌∷◌, ◌++◌}
use Rattle.std.specs.Bool.{beq}
use Rattle.std.specs.List.{AllByRecursion}
use Rattle.cnf_text.specs.Literal.{Literal}

-- a splitting tree: a leaf is missing or a numbered cube's, an inner node splits on a variable
pub data SplitTree : Type 0 where
  missing : SplitTree
  cube : ℕ → SplitTree
  split : ℕ → SplitTree → SplitTree → SplitTree

-- a cube by its number, with its literals from a node on
pub record Numbered : Type 0 where
  pub number : ℕ
  pub literals : List Literal

-- the cubes of a list, numbered on from `number`
abbrev pub numbered : ℕ → List (List Literal) → List Numbered
numbered number [] = []
numbered number (c ∷ cubes) = record { number = number; literals = c } ∷ numbered (number + 1) cubes

-- the cube hasn't ended, and its next literal is of this variable
abbrev pub SplitsOn : ℕ → List Literal → Type 0
SplitsOn v [] = ⊥
SplitsOn v (l ∷ _) = l.variable ≡ v

-- one cube, behind its next literal, where that has this sign, before the others that go this way
abbrev pub going_with : Bool → ℕ → List Literal → List Numbered → List Numbered
going_with sign number [] others = others
going_with sign number (l ∷ rest) others =
    if beq l.positive sign then record { number = number; literals = rest } ∷ others else others

-- the cubes that go the way of this sign
abbrev pub going : Bool → List Numbered → List Numbered
going sign [] = []
going sign (c ∷ cubes) = going_with sign c.number c.literals (going sign cubes)

-- The tree of a set of cubes. No cube gives a missing leaf, and one cube that has ended gives its
-- leaf. Otherwise it splits on the common next variable, into the trees of the cubes that go each
-- way
abbrev pub IsTreeOf : SplitTree → List Numbered → Type 0
IsTreeOf missing cubes = cubes ≡ []
IsTreeOf (cube k) cubes = cubes ≡ record { number = k; literals = [] } ∷ []
IsTreeOf (split v positive negative) cubes =
    (cubes ≢ []) × AllByRecursion (λ c. SplitsOn v c.literals) cubes
    × IsTreeOf positive (going true cubes)
    × IsTreeOf negative (going false cubes)

-- the path behind `path` to a branch on `v`
abbrev pub branch : List Literal → ℕ → Bool → List Literal
branch path v sign = path ++ record { variable = v; positive = sign } ∷ []

-- the weight of a leaf at this depth
abbrev pub weight : ℕ → ℕ
weight depth = if nat_le depth 60 then 2 ^ (60 - depth) else 1

-- the sum of the weights of all leaves, where the tree's root lies at this depth
abbrev pub total : ℕ → SplitTree → ℕ
total depth missing = weight depth
total depth (cube k) = weight depth
total depth (split v positive negative) = total (suc depth) positive + total (suc depth) negative

-- the trees below the nodes, in tree order
abbrev pub subtrees : SplitTree → List SplitTree
subtrees missing = missing ∷ []
subtrees (cube k) = cube k ∷ []
subtrees (split v positive negative) =
    split v positive negative ∷ (subtrees positive ++ subtrees negative)

-- how many nodes it has
abbrev pub size : SplitTree → ℕ
size missing = 1
size (cube k) = 1
size (split v positive negative) = suc (size positive + size negative)

-- the tree below the node of this number
abbrev pub subtree_at : SplitTree → ℕ → SplitTree
subtree_at tree node = get_or (subtrees tree) node missing

-- what is handed down from the root to each node, in tree order
abbrev pub labels : {X : Type 0} → (X → ℕ → Bool → X) → X → SplitTree → List X
labels down x missing = x ∷ []
labels down x (cube k) = x ∷ []
labels down x (split v positive negative) =
    x ∷ (labels down (down x v true) positive ++ labels down (down x v false) negative)

-- the path of the node of this number, and its depth
abbrev pub path_at : SplitTree → ℕ → List Literal
path_at tree node = get_or (labels branch [] tree) node []

abbrev pub depth_at : SplitTree → ℕ → ℕ
depth_at tree node = get_or (labels (λ d v sign. suc d) 0 tree) node 0

-- the node is a leaf
abbrev pub IsLeaf : SplitTree → Type 0
IsLeaf missing = Unit {0}
IsLeaf (cube k) = Unit {0}
IsLeaf (split v positive negative) = ⊥

-- the node is an inner one
abbrev pub IsSplit : SplitTree → Type 0
IsSplit missing = ⊥
IsSplit (cube k) = ⊥
IsSplit (split v positive negative) = Unit {0}

-- the variable on which it splits, and 0 at a leaf
abbrev pub split_variable : SplitTree → ℕ
split_variable missing = 0
split_variable (cube k) = 0
split_variable (split v positive negative) = v
