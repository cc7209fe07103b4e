-- Marks that are found one after the other.
use Rattle.std.proofs.Common.{◌≡◌, ◌≢◌, ◌⊎◌, ℕ, ◌<◌, ◌^◌, List, length, set, get_or, replicate}
use Rattle.std.proofs.Common.{zero, suc}
use Rattle.std.proofs.Common.{refl, sym, ap, ◌∙◌, arith, inl, inr, get_or-set_other}
use Rattle.std.proofs.Common.{get_or-set_same}
use Rattle.std.proofs.lemmas.Bool.{cases_eq}
use Rattle.std.proofs.lemmas.List.{ext_get_or}
use Rattle.case_core.specs.Reason.{Reason}
use Rattle.split_tree.specs.SplitTree.{SplitTree, missing, cube, split, size, subtrees, subtree_at}
use Rattle.split_tree.specs.SplitTree.{IsSplit}
use Rattle.split_tree.specs.Leaves.{missing_nodes, cube_count}
use Rattle.split_tree.proofs.NodesCoding.{length-subtrees}
use Rattle.split_tree.proofs.LeavesNodes.{missing_found}
use Rattle.mark_board.specs.declared.mark.Mark.{Mark}
use Rattle.mark_board.specs.declared.mark.Mark.TheVariants.{Open, Refuted, Rejected}
use Rattle.mark_board.specs.Marking.{mark_at}
use Rattle.cube_join.specs.Joined.{HasSmallSteps, IsLegible}
use Rattle.cube_join.specs.Inner.Fields.{HasSmallStep}
use Rattle.cube_join.specs.Inner.Reading.{AreFound, HasCube, HasMissing, HasMarked}

-- ---- steps

small_mark : (mark : Mark) →
    ((step : ℕ) (reason : Reason) → mark ≡ Rejected step reason → step < 2 ^ 64) → HasSmallStep mark
small_mark Open h = tt
small_mark Refuted h = tt
small_mark (Rejected step reason) h = h step reason refl

pub small_step : (marks : List Mark) (node : ℕ) → HasSmallSteps marks →
    HasSmallStep (mark_at marks node)
small_step marks node h = small_mark (mark_at marks node) (h node)

-- ---- what is found

pub none_found : (marks before : List Mark) (IsRead : ℕ → Type 0) → ((i : ℕ) → IsRead i → ⊥) →
    AreFound marks IsRead before before
none_found marks before IsRead none = record {
  read = λ i is. absurd (none i is);
  others = λ i. inr refl;
}

pub fewer_found : (marks before after : List Mark) (IsRead IsFewer : ℕ → Type 0) →
    AreFound marks IsRead before after → ((i : ℕ) → IsFewer i → IsRead i) →
    AreFound marks IsFewer before after
fewer_found marks before after IsRead IsFewer h less = record {
  read = λ i is. h.read i (less i is);
  others = h.others;
}

set_here : (marks now after : List Mark) (node i : ℕ) → node < length now →
    after ≡ set now node (mark_at marks node) → i ≡ node → mark_at after i ≡ mark_at marks i
set_here marks now after node i l e same =
    ap (λ (xs : List Mark). mark_at xs i) e
    ∙ (ap (mark_at (set now node (mark_at marks node))) same
    ∙ (get_or-set_same now node (mark_at marks node) Open l ∙ ap (mark_at marks) (sym same)))

set_elsewhere : (marks now after : List Mark) (node i : ℕ) →
    after ≡ set now node (mark_at marks node) → i ≢ node → mark_at after i ≡ mark_at now i
set_elsewhere marks now after node i e other =
    ap (λ (xs : List Mark). mark_at xs i) e
    ∙ get_or-set_other now node i (mark_at marks node) Open other

one_right : (marks now after : List Mark) (node i : ℕ) → node < length now →
    after ≡ set now node (mark_at marks node) → mark_at now i ≡ mark_at marks i →
    mark_at after i ≡ mark_at marks i
one_right marks now after node i l e right = elim (cases_eq i node) [
  | inl same ↦ set_here marks now after node i l e same
  | inr other ↦ set_elsewhere marks now after node i e other ∙ right
]

one_other : (marks before now after : List Mark) (node i : ℕ) → node < length now →
    after ≡ set now node (mark_at marks node) →
    (mark_at now i ≡ mark_at marks i) ⊎ (mark_at now i ≡ mark_at before i) →
    (mark_at after i ≡ mark_at marks i) ⊎ (mark_at after i ≡ mark_at before i)
one_other marks before now after node i l e h = elim (cases_eq i node) [
  | inl same ↦ inl (set_here marks now after node i l e same)
  | inr other ↦ elim h [
    | inl right ↦ inl (set_elsewhere marks now after node i e other ∙ right)
    | inr kept ↦ inr (set_elsewhere marks now after node i e other ∙ kept)
  ]
]

-- one node more is read
pub one_found : (marks before now after : List Mark) (IsRead IsNext : ℕ → Type 0) (node : ℕ) →
    AreFound marks IsRead before now → node < length now →
    after ≡ set now node (mark_at marks node) →
    ((i : ℕ) → IsNext i → IsRead i ⊎ (i ≡ node)) → AreFound marks IsNext before after
one_found marks before now after IsRead IsNext node h l e next = record {
  read = λ i is. elim (next i is) [
    | inl old ↦ one_right marks now after node i l e (h.read i old)
    | inr same ↦ set_here marks now after node i l e same
  ];
  others = λ i. one_other marks before now after node i l e (h.others i);
}

-- what was found stays so
still_found : (marks before after : List Mark) (IsRead : ℕ → Type 0) (i : ℕ) →
    AreFound marks IsRead before after → mark_at before i ≡ mark_at marks i →
    mark_at after i ≡ mark_at marks i
still_found marks before after IsRead i h right = elim (h.others i) [
  | inl now ↦ now
  | inr kept ↦ kept ∙ right
]

-- ---- all nodes

none_open : (n k : ℕ) → mark_at (replicate n Open) k ≡ Open
none_open zero k = refl
none_open (suc n) zero = refl
none_open (suc n) (suc k) = none_open n k

-- the lines of the cubes, of the missing leaves and of the inner nodes are read in turn
pub record AreAllRead (tree : SplitTree) (marks none cubes leaves all : List Mark) : Type 0 where
  pub begin : none ≡ replicate (size tree) Open
  pub cubes_read : AreFound marks (HasCube tree (cube_count tree)) none cubes
  pub leaves_read : AreFound marks (HasMissing tree (length (missing_nodes tree))) cubes leaves
  pub nodes_read : AreFound marks (HasMarked tree marks (size tree)) leaves all

begun : (tree : SplitTree) (marks none cubes leaves all : List Mark) (i : ℕ) →
    AreAllRead tree marks none cubes leaves all → mark_at none i ≡ mark_at marks i →
    mark_at all i ≡ mark_at marks i
begun tree marks none cubes leaves all i h right =
    still_found marks leaves all (HasMarked tree marks (size tree)) i h.nodes_read
    (still_found marks cubes leaves (HasMissing tree (length (missing_nodes tree))) i h.leaves_read
    (still_found marks none cubes (HasCube tree (cube_count tree)) i h.cubes_read right))

inner_read : (tree : SplitTree) (marks none cubes leaves all : List Mark) (i : ℕ) (mark : Mark) →
    AreAllRead tree marks none cubes leaves all → i < size tree → IsSplit (subtree_at tree i) →
    mark_at marks i ≡ mark → mark_at all i ≡ mark_at marks i
inner_read tree marks none cubes leaves all i Open h l is e =
    begun tree marks none cubes leaves all i h
    (ap (λ (xs : List Mark). mark_at xs i) h.begin ∙ (none_open (size tree) i ∙ sym e))
inner_read tree marks none cubes leaves all i Refuted h l is e =
    h.nodes_read.read i (l, is, λ f. let clash : ◌≡◌ {A = Mark} Refuted Open = sym e ∙ f in cc)
inner_read tree marks none cubes leaves all i (Rejected step reason) h l is e =
    h.nodes_read.read i
    (l, is, λ f. let clash : ◌≡◌ {A = Mark} (Rejected step reason) Open = sym e ∙ f in cc)

node_read : (tree : SplitTree) (marks none cubes leaves all : List Mark) (i : ℕ)
    (here : SplitTree) →
    IsLegible tree → AreAllRead tree marks none cubes leaves all → i < size tree →
    subtree_at tree i ≡ here → mark_at all i ≡ mark_at marks i
node_read tree marks none cubes leaves all i missing legible h l is =
    let found = missing_found 0 (subtrees tree) i (rw (length-subtrees tree) l) is in
    let same : i ≡ get_or (missing_nodes tree) found.0 0 = omega (arith, found.2) in
    still_found marks leaves all (HasMarked tree marks (size tree)) i h.nodes_read
    (h.leaves_read.read i (found.0, found.1, same))
node_read tree marks none cubes leaves all i (cube k) legible h l is =
    let range = legible.cubes i k l is in
    still_found marks leaves all (HasMarked tree marks (size tree)) i h.nodes_read
    (still_found marks cubes leaves (HasMissing tree (length (missing_nodes tree))) i h.leaves_read
    (h.cubes_read.read i (k, range.0, range.1, l, is)))
node_read tree marks none cubes leaves all i (split v p n) legible h l is =
    inner_read tree marks none cubes leaves all i (mark_at marks i) h l (rw is tt) refl

pub all_found : (tree : SplitTree) (marks none cubes leaves all : List Mark) → IsLegible tree →
    AreAllRead tree marks none cubes leaves all → length marks ≡ size tree →
    length all ≡ size tree → all ≡ marks
all_found tree marks none cubes leaves all legible h long kept =
    ext_get_or Open all marks (kept ∙ sym long)
    (λ i l. node_read tree marks none cubes leaves all i (subtree_at tree i) legible h
    (omega (arith, l, kept)) refl)
