-- Marks that are given to a tree's nodes, one after the other.
use Rattle.std.proofs.Common.{◌≡◌, ℕ, ◌+◌, ◌<◌, ◌≤◌, List, length, set, replicate}
use Rattle.std.proofs.Common.{refl, sym, ap, ◌∙◌, arith}
use Rattle.std.proofs.lemmas.List.{ext_get_or}
use Rattle.std.proofs.Common.{◌≢◌, ◌↔◌, zero, suc, take, drop, subst, zero-add}
use Rattle.std.proofs.lemmas.List.{take_all}
use Rattle.split_tree.specs.Navigation.{AreTotals}
use Rattle.split_tree.proofs.NodesCoding.{subtree-root, some_node}
use Rattle.mark_board.specs.declared.rows.Answer.{Answer}
use Rattle.mark_board.specs.declared.rows.Answer.TheVariants.{Marked, RootMarked, Already}
use Rattle.mark_board.specs.Posting.{marks_after}
use Rattle.mark_board.proofs.RowsWorths.{part_kept}
use Rattle.split_tree.specs.SplitTree.{SplitTree, size, subtree_at}
use Rattle.mark_board.specs.declared.mark.Mark.{Mark}
use Rattle.mark_board.specs.declared.mark.Mark.TheVariants.{Open}
use Rattle.mark_board.specs.Marking.{mark_at}
use Rattle.mark_board.specs.Rows.{AreRowsKept}
use Rattle.mark_board.specs.TopPlaces.{worth_of}

-- the first nodes, so many, have these marks, and the others have none
pub record IsGiven (tree : SplitTree) (marks : List Mark) (count : ℕ) (given : List Mark)
    (weights : List ℕ) : Type 0 where
  pub before : (k : ℕ) → k < count → mark_at given k ≡ mark_at marks k
  pub after : (k : ℕ) → count ≤ k → mark_at given k ≡ Open
  pub kept : AreRowsKept tree (worth_of tree) given weights

pub all_given : (tree : SplitTree) (marks : List Mark) (count : ℕ) (given : List Mark)
    (weights : List ℕ) → IsGiven tree marks count given weights → length marks ≡ size tree →
    size tree ≤ count → given ≡ marks
all_given tree marks count given weights h long all =
    ext_get_or Open given marks (h.kept.board.long ∙ sym long)
    (λ i l. h.before i (omega (arith, l, all, h.kept.board.long)))

none_open : (n k : ℕ) → mark_at (replicate n Open) k ≡ Open
none_open zero k = refl
none_open (suc n) zero = refl
none_open (suc n) (suc k) = none_open n k

-- nothing is given yet
pub none_given : (tree : SplitTree) (marks : List Mark) (weights rows : List ℕ) (given : List Mark)
    →
    AreTotals tree weights → rows ≡ weights → given ≡ replicate (length weights) Open →
    IsGiven tree marks 0 given rows
none_given tree marks weights rows given t e m =
    let root : subtree_at tree 0 ≡ tree = subtree-root tree in
    let all : take (size tree) (drop 0 weights) ≡ weights =
    take_all (size tree) weights (omega (arith, t.long)) in
    let kept : AreRowsKept (subtree_at tree 0) (λ place. worth_of tree (0 + place)) given rows =
    part_kept tree weights rows given 0 (size tree) t (omega (arith, some_node tree))
    (ap size (sym root)) (e ∙ sym all)
    (m ∙ ap (λ (xs : List ℕ). replicate (length xs) Open) (sym all)) in
    let here : AreRowsKept tree (λ place. worth_of tree (0 + place)) given rows = rw root at kept in
    record {
      before = λ k few. absurd (omega (arith, few));
      after = λ k many. ap (λ (xs : List Mark). mark_at xs k) m ∙ none_open (length weights) k;
      kept = subst (λ (worth : ℕ → ℕ). AreRowsKept tree worth given rows)
          (λ i place. worth_of tree (zero-add place i)) here;
    }

-- a post where no mark was
pub posted_free : (answer : Answer) (marks after : List Mark) (node : ℕ) (mark : Mark) →
    ((answer ≡ Already) ↔ (mark_at marks node ≢ Open)) → mark_at marks node ≡ Open →
    after ≡ marks_after answer marks node mark → after ≡ set marks node mark
posted_free Marked marks after node mark already free e = e
posted_free RootMarked marks after node mark already free e = e
posted_free Already marks after node mark already free e = absurd (already.0 refl free)
