-- The lines of inner nodes, read one after the other.
use Rattle.std.proofs.Common.{◌≡◌, ◌≢◌, ◌⊎◌, ℕ, suc, ◌+◌, ◌<◌, ◌≤◌, List, [], ◌∷◌, ◌++◌}
use Rattle.std.proofs.Common.{length, set, drop, refl, sym, ap, ◌∙◌, arith, inl, inr, append_assoc}
use Rattle.std.proofs.Common.{subst, length-drop}
use Rattle.std.proofs.lemmas.Bool.{cases_eq, cases_lt}
use Rattle.std.proofs.lemmas.List.{drop_more}
use Rattle.split_tree.specs.SplitTree.{SplitTree, missing, cube, split, size, subtrees, subtree_at}
use Rattle.split_tree.specs.SplitTree.{path_at}
use Rattle.split_tree.specs.SplitTree.{IsSplit}
use Rattle.split_tree.proofs.NodesCoding.{length-subtrees}
use Rattle.mark_board.specs.declared.mark.Mark.{Mark}
use Rattle.mark_board.specs.declared.mark.Mark.TheVariants.{Open, Refuted, Rejected}
use Rattle.mark_board.specs.Marking.{mark_at}
use Rattle.cube_report.specs.Report.{node_line, marked_line, node_lines}
use Rattle.cube_join.specs.Joined.{HasSmallSteps, IsLegible}
use Rattle.cube_join.specs.Inner.Fields.{HasSmallStep, AreVariables}
use Rattle.cube_join.specs.Inner.Reading.{AreFound, HasMarked, IsOther}
use Rattle.cube_join.proofs.ReadingFronts.{legible_path}
use Rattle.cube_join.proofs.ReadingMarks.{small_step, fewer_found, one_found}

-- ---- the next line

-- no inner node from this one on has a mark
abbrev HasNone : SplitTree → List Mark → ℕ → Type 0
HasNone tree marks from = (i : ℕ) → from ≤ i → i < size tree → IsSplit (subtree_at tree i) →
    mark_at marks i ≢ Open → ⊥

-- the first inner node from this one on that has a mark, whose line begins the text
record IsNextNode (tree : SplitTree) (marks : List Mark) (from : ℕ) (text rest : List ℕ)
    : Type 0 where
  node : ℕ
  later : from ≤ node
  within : node < size tree
  inner : IsSplit (subtree_at tree node)
  has : mark_at marks node ≢ Open
  between : (i : ℕ) → from ≤ i → i < node → IsSplit (subtree_at tree i) → mark_at marks i ≢ Open → ⊥
  begins : text ≡ node_line (path_at tree node) (mark_at marks node)
      ++ (node_lines tree marks (suc node) (drop (suc node) (subtrees tree)) ++ rest)

abbrev Next : SplitTree → List Mark → ℕ → List ℕ → List ℕ → Type 0
Next tree marks from text rest =
    (HasNone tree marks from × (text ≡ rest)) ⊎ IsNextNode tree marks from text rest

-- a node that has no line of its own
passed : (tree : SplitTree) (marks : List Mark) (from : ℕ) (text rest : List ℕ) →
    (IsSplit (subtree_at tree from) → mark_at marks from ≢ Open → ⊥) →
    Next tree marks (suc from) text rest → Next tree marks from text rest
passed tree marks from text rest own (inl none) = inl (
  λ i late inside is has. elim (cases_eq i from) [
    | inl same ↦ own (rw same at is) (rw same at has)
    | inr other ↦ none.0 i (omega (arith, late, other)) inside is has
  ],
  none.1,
)
passed tree marks from text rest own (inr next) = inr (record {
  node = next.node;
  later = omega (arith, next.later);
  within = next.within;
  inner = next.inner;
  has = next.has;
  between = λ i late soon is has. elim (cases_eq i from) [
    | inl same ↦ own (rw same at is) (rw same at has)
    | inr other ↦ next.between i (omega (arith, late, other)) soon is has
  ];
  begins = next.begins;
})

here_next : (tree : SplitTree) (marks : List Mark) (from : ℕ) (text rest : List ℕ) →
    from < size tree → IsSplit (subtree_at tree from) → mark_at marks from ≢ Open →
    text ≡ node_line (path_at tree from) (mark_at marks from)
    ++ (node_lines tree marks (suc from) (drop (suc from) (subtrees tree)) ++ rest) →
    Next tree marks from text rest
here_next tree marks from text rest inside is has e = inr (record {
  node = from;
  later = omega arith;
  within = inside;
  inner = is;
  has = has;
  between = λ i late soon. absurd (omega (arith, late, soon));
  begins = e;
})

own_next : (tree : SplitTree) (marks : List Mark) (from : ℕ) (mark : Mark) (trees : List SplitTree)
    (rest : List ℕ) → mark ≡ mark_at marks from → from < size tree →
    IsSplit (subtree_at tree from) → trees ≡ drop (suc from) (subtrees tree) →
    Next tree marks (suc from) (node_lines tree marks (suc from) trees ++ rest) rest →
    Next tree marks from
    ((marked_line (path_at tree from) mark ++ node_lines tree marks (suc from) trees) ++ rest) rest
own_next tree marks from Open trees rest e inside is t next =
    passed tree marks from (node_lines tree marks (suc from) trees ++ rest) rest
    (λ is has. has (sym e)) next
own_next tree marks from Refuted trees rest e inside is t next =
    here_next tree marks from _ rest inside is
    (λ f. let clash : ◌≡◌ {A = Mark} Refuted Open = e ∙ f in cc)
    (append_assoc (node_line (path_at tree from) Refuted) (node_lines tree marks (suc from) trees)
    rest
    ∙ rw (e, t) refl)
own_next tree marks from (Rejected step reason) trees rest e inside is t next =
    here_next tree marks from _ rest inside is
    (λ f. let clash : ◌≡◌ {A = Mark} (Rejected step reason) Open = e ∙ f in cc)
    (append_assoc (node_line (path_at tree from) (Rejected step reason))
    (node_lines tree marks (suc from) trees) rest ∙ rw (e, t) refl)

-- the tree below a node, and those below the nodes behind it
below : (tree here : SplitTree) (from : ℕ) (trees : List SplitTree) → from < size tree →
    here ∷ trees ≡ drop from (subtrees tree) →
    (subtree_at tree from ≡ here) × (trees ≡ drop (suc from) (subtrees tree))
below tree here from trees inside e =
    let next : from + 1 ≡ suc from = omega arith in
    let both : here ∷ trees ≡ subtree_at tree from ∷ drop (suc from) (subtrees tree) =
    e ∙ (drop_more (subtrees tree) from missing (rw (length-subtrees tree) inside)
    ∙ ap (λ (n : ℕ). subtree_at tree from ∷ drop n (subtrees tree)) next) in
    (cc, cc)

next_node : (tree : SplitTree) (marks : List Mark) (from : ℕ) (trees : List SplitTree)
    (rest : List ℕ) → trees ≡ drop from (subtrees tree) → from + length trees ≡ size tree →
    Next tree marks from (node_lines tree marks from trees ++ rest) rest
next_node tree marks from [] rest e long =
    inl (λ i late inside. absurd (omega (arith, late, inside, long)), refl)
next_node tree marks from (missing ∷ trees) rest e long =
    let at = below tree missing from trees (omega (arith, long)) e in
    passed tree marks from _ rest (λ is. let leaf : IsSplit missing = rw at.0 at is in absurd leaf)
    (next_node tree marks (suc from) trees rest at.1 (omega (arith, long)))
next_node tree marks from (cube k ∷ trees) rest e long =
    let at = below tree (cube k) from trees (omega (arith, long)) e in
    passed tree marks from _ rest (λ is. let leaf : IsSplit (cube k) = rw at.0 at is in absurd leaf)
    (next_node tree marks (suc from) trees rest at.1 (omega (arith, long)))
next_node tree marks from (split v p n ∷ trees) rest e long =
    let at = below tree (split v p n) from trees (omega (arith, long)) e in
    own_next tree marks from (mark_at marks from) trees rest refl (omega (arith, long))
    (rw at.0 tt) at.1 (next_node tree marks (suc from) trees rest at.1 (omega (arith, long)))

-- ---- all of them

-- what is left where so many lines are read, or more nodes passed
pub record AreNodesLeft (tree : SplitTree) (marks : List Mark) (turns : ℕ) (left rest : List ℕ)
    (before now : List Mark) : Type 0 where
  pub from : ℕ
  pub many : turns ≤ from
  pub within : from ≤ size tree
  pub text : left ≡ node_lines tree marks from (drop from (subtrees tree)) ++ rest
  pub found : AreFound marks (HasMarked tree marks from) before now

abbrev pub AreNodesRead : SplitTree → List ℕ → ℕ → List ℕ → List Mark → List Mark → Type 0
AreNodesRead tree text turns left before now = (marks : List Mark) (rest : List ℕ) →
    IsLegible tree → HasSmallSteps marks → IsOther rest →
    text ≡ node_lines tree marks 0 (subtrees tree) ++ rest →
    AreNodesLeft tree marks turns left rest before now

from_here : (tree : SplitTree) (marks : List Mark) (from : ℕ) (rest : List ℕ) → from ≤ size tree →
    Next tree marks from (node_lines tree marks from (drop from (subtrees tree)) ++ rest) rest
from_here tree marks from rest within =
    next_node tree marks from (drop from (subtrees tree)) rest refl
    (omega (arith, length-drop from (subtrees tree), length-subtrees tree, within))

-- what a reader of one line says of this text
abbrev pub ReadsNode : SplitTree → List ℕ → (ℕ → Mark → List ℕ → Type 0) → Type 0
ReadsNode tree left Says = (node : ℕ) (mark : Mark) (rest : List ℕ) → node < size tree →
    IsSplit (subtree_at tree node) → AreVariables (path_at tree node) → HasSmallStep mark →
    left ≡ node_line (path_at tree node) mark ++ rest → Says node mark rest

read_next : (tree : SplitTree) (marks : List Mark) (from : ℕ) (left text rest : List ℕ)
    (Says : ℕ → Mark → List ℕ → Type 0) → IsLegible tree → HasSmallSteps marks →
    ReadsNode tree left Says → left ≡ text → (n : IsNextNode tree marks from text rest) →
    Says n.node (mark_at marks n.node)
    (node_lines tree marks (suc n.node) (drop (suc n.node) (subtrees tree)) ++ rest)
read_next tree marks from left text rest Says legible small reads e n =
    reads n.node (mark_at marks n.node)
    (node_lines tree marks (suc n.node) (drop (suc n.node) (subtrees tree)) ++ rest) n.within
    n.inner
    (legible_path tree n.node n.within legible.variables) (small_step marks n.node small)
    (e ∙ n.begins)

more_marked : (tree : SplitTree) (marks : List Mark) (from node i : ℕ) →
    ((i : ℕ) → from ≤ i → i < node → IsSplit (subtree_at tree i) → mark_at marks i ≢ Open → ⊥) →
    HasMarked tree marks (suc node) i → HasMarked tree marks from i ⊎ (i ≡ node)
more_marked tree marks from node i none has = elim (cases_lt i from) [
  | inl before ↦ inl (before, has.1, has.2)
  | inr late ↦ elim (cases_eq i node) [
    | inl same ↦ inr same
    | inr other ↦
        let soon : i < suc node = has.0 in
        absurd (none i late (omega (arith, soon, other)) has.1 has.2)
  ]
]

node_found : (tree : SplitTree) (text left next : List ℕ) (turns node : ℕ)
    (before now after marks : List Mark) (mark : Mark) (rest : List ℕ)
    (l : AreNodesLeft tree marks turns left rest before now) → length now ≡ size tree →
    after ≡ set now node mark →
    (n : IsNextNode tree marks l.from
    (node_lines tree marks l.from (drop l.from (subtrees tree)) ++ rest) rest) →
    (node ≡ n.node) × (mark ≡ mark_at marks n.node)
    × (next ≡ node_lines tree marks (suc n.node) (drop (suc n.node) (subtrees tree)) ++ rest) →
    AreNodesLeft tree marks (turns + 1) next rest before after
node_found tree text left next turns node before now after marks mark rest l long is n read =
    record {
      from = suc n.node;
      many = omega (arith, l.many, n.later);
      within = omega (arith, n.within);
      text = read.2;
      found = one_found marks before now after (HasMarked tree marks l.from)
          (HasMarked tree marks (suc n.node)) n.node l.found (omega (arith, long, n.within))
          (is ∙ (ap (λ (k : ℕ). set now k mark) read.0 ∙ ap (set now n.node) read.1))
          (λ i. more_marked tree marks l.from n.node i n.between);
    }

pub nodes_step : (tree : SplitTree) (text left next : List ℕ) (turns node : ℕ)
    (before now after : List Mark) (mark : Mark) → (IsOther left → ⊥) → length now ≡ size tree →
    after ≡ set now node mark →
    ReadsNode tree left (λ n m r. (node ≡ n) × (mark ≡ m) × (next ≡ r)) →
    AreNodesRead tree text turns left before now →
    AreNodesRead tree text (turns + 1) next before after
nodes_step tree text left next turns node before now after mark line long is reads h marks rest
    legible small other e =
    let l = h marks rest legible small other e in
    elim (from_here tree marks l.from rest l.within) [
      | inl none ↦ absurd (line (subst IsOther (sym (l.text ∙ none.1)) other))
      | inr n ↦
          node_found tree text left next turns node before now after marks mark rest l long is n
          (read_next tree marks l.from left _ rest (λ n m r. (node ≡ n) × (mark ≡ m) × (next ≡ r))
          legible small reads l.text n)
    ]

-- no line is left to be read
none_after : (tree : SplitTree) (marks : List Mark) (from : ℕ) (before now : List Mark) →
    AreFound marks (HasMarked tree marks from) before now → HasNone tree marks from →
    AreFound marks (HasMarked tree marks (size tree)) before now
none_after tree marks from before now found none =
    fewer_found marks before now (HasMarked tree marks from) (HasMarked tree marks (size tree))
    found
    (λ i has. elim (cases_lt i from) [
      | inl soon ↦ (soon, has.1, has.2)
      | inr late ↦ absurd (none i late has.0 has.1 has.2)
    ])

pub nodes_stop : (tree : SplitTree) (text left : List ℕ) (turns : ℕ) (before now marks : List Mark)
    (rest : List ℕ) → ReadsNode tree left (λ n m r. ⊥) → AreNodesRead tree text turns left before
    now →
    IsLegible tree → HasSmallSteps marks → IsOther rest →
    text ≡ node_lines tree marks 0 (subtrees tree) ++ rest →
    AreFound marks (HasMarked tree marks (size tree)) before now
nodes_stop tree text left turns before now marks rest reads h legible small other e =
    let l = h marks rest legible small other e in
    elim (from_here tree marks l.from rest l.within) [
      | inl none ↦ none_after tree marks l.from before now l.found none.0
      | inr n ↦ absurd (read_next tree marks l.from left _ rest (λ n m r. ⊥) legible small reads
          l.text n)
    ]
