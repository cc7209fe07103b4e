-- Ways down a tree, by places from a root.
use Rattle.std.proofs.Common.{◌≡◌, ℕ, ◌+◌, ◌-◌, ◌<◌, ◌≤◌, ◌^◌, List, length, get_or, sym, ap, ◌∙◌}
use Rattle.std.proofs.Common.{arith}
use Rattle.split_tree.specs.SplitTree.{SplitTree, size, subtree_at}
use Rattle.split_tree.specs.Navigation.{IsBelow, StepsToward, HasBelow}
use Rattle.split_tree.proofs.SplitTreeLabels.{below, inside}
use Rattle.mark_board.specs.Inner.Rows.{StepsDown}

-- ---- from places to nodes of the whole tree and back

-- a node below another is one of the tree's
pub target_within : (tree : SplitTree) (node target : ℕ) → IsBelow tree node target →
    target < size tree
target_within tree node target b =
    let w : node + size (subtree_at tree node) ≤ size tree = inside tree node b.within in
    let e : target < node + size (subtree_at tree node) = b.before_end in omega arith

-- a row's node number fits
pub place_fits : (tree : SplitTree) (root target : ℕ) → root < size tree → size tree < 2 ^ 32 →
    target < size (subtree_at tree root) → root + target < 2 ^ 32
place_fits tree root target h f l =
    let w : root + size (subtree_at tree root) ≤ size tree = inside tree root h in omega arith

-- what lies below a node of the part's tree lies below it in the whole tree
pub whole_below : (tree : SplitTree) (root node target : ℕ) → root < size tree →
    IsBelow (subtree_at tree root) node target → IsBelow tree (root + node) (root + target)
whole_below tree root node target h b =
    let w : root + size (subtree_at tree root) ≤ size tree = inside tree root h in
    let n : node < size (subtree_at tree root) = b.within in
    let l : node < target = b.later in
    let e : target < node + size (subtree_at (subtree_at tree root) node) = b.before_end in
    let s : subtree_at tree (root + node) ≡ subtree_at (subtree_at tree root) node =
    below tree root node h n in
    record { within = omega arith; later = omega arith; before_end = rw s (omega arith) }

-- a step of the whole tree is one of the part's tree
pub steps_down : (tree : SplitTree) (root node target next : ℕ) → root < size tree →
    IsBelow (subtree_at tree root) node target →
    StepsToward tree (root + node) (root + target) next →
    StepsDown (subtree_at tree root) node target (next - root)
steps_down tree root node target next h b s =
    let t : target < size (subtree_at tree root) =
    target_within (subtree_at tree root) node target b in
    let later : root + node < next = s.later in
    let reached : next ≤ root + target = s.reached in
    let m : root + (next - root) ≡ next = omega arith in
    let same : subtree_at tree next ≡ subtree_at (subtree_at tree root) (next - root) =
    ap (λ (i : ℕ). subtree_at tree i) (sym m) ∙ below tree root (next - root) h (omega arith) in
    let e : root + target < next + size (subtree_at (subtree_at tree root) (next - root)) =
    rw same at s.before_end in
    record {
      later = omega arith;
      reached = omega arith;
      before_end = omega arith;
      between = λ j l k.
          let o : root + j + size (subtree_at tree (root + j)) ≤ root + target =
          s.between (root + j) (omega arith) (omega arith) in
          let p : root + j + size (subtree_at (subtree_at tree root) j) ≤ root + target =
          rw (below tree root j h (omega arith)) at o in
          omega arith;
    }

-- a node that has another below it is above that one
pub is_below : (tree : SplitTree) (node target : ℕ) → HasBelow tree node target →
    target < size tree → node < target → IsBelow tree node target
is_below tree node target b h l =
    record { within = omega arith; later = l; before_end = b.before_end }

-- the next node on the way down to a target has the target below it
pub steps_has : (tree : SplitTree) (node target next : ℕ) → StepsDown tree node target next →
    HasBelow tree next target
steps_has tree node target next s = record { reached = s.reached; before_end = s.before_end }

-- a node that is passed over doesn't have the target below it
pub passed_over : (tree : SplitTree) (node target next j : ℕ) → StepsDown tree node target next →
    node < j → j < next → HasBelow tree j target → ⊥
passed_over tree node target next j s l k b =
    let e : j + size (subtree_at tree j) ≤ target = s.between j l k in
    let f : target < j + size (subtree_at tree j) = b.before_end in absurd (omega arith)

-- ---- taking from each node on the way

-- the nodes before `node` have been passed
pub record Taking (tree : SplitTree) (first target taken node : ℕ) (old new : List ℕ) : Type 0 where
  pub long : length new ≡ length old
  pub above : (j : ℕ) → first ≤ j → j < node → HasBelow tree j target →
      get_or new j 0 + taken ≡ get_or old j 0
  pub before : (j : ℕ) → j < first → get_or new j 0 ≡ get_or old j 0
  pub others : (j : ℕ) → j < node → (HasBelow tree j target → ⊥) → get_or new j 0 ≡ get_or old j 0
  pub ahead : (j : ℕ) → node ≤ j → get_or new j 0 ≡ get_or old j 0
