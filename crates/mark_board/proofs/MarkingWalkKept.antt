-- What is kept by the walk that lists the open branches.
use Rattle.std.proofs.Common.{◌≡◌, ℕ, suc, ◌+◌, ◌-◌, ◌<◌, ◌≤◌, List, [], ◌∷◌, ◌++◌, Bool, sym, ap}
use Rattle.std.proofs.Common.{◌∙◌, arith, append-nil, append_assoc}
use Rattle.split_tree.specs.SplitTree.{SplitTree, size, subtree_at}
use Rattle.split_tree.specs.Leaves.{IsTargetAt}
use Rattle.split_tree.specs.declared.node.Target.{Target}
use Rattle.split_tree.proofs.NodesCoding.{some_node}
use Rattle.split_tree.proofs.SplitTreeLabels.{inside}
use Rattle.mark_board.specs.Marking.{NodeWithTree, open_weight, open_branches}
use Rattle.mark_board.specs.TopPlaces.{worth_of}
use Rattle.mark_board.specs.Boards.{AreTargetsAt}
use Rattle.mark_board.proofs.MarkingWalk.{branches_from, IsClear, from_start, clear_start}
use Rattle.mark_board.proofs.MarkingWalk.{from_none, past_marked, past_open, clear_past, clear_into}
use Rattle.mark_board.proofs.MarkingWalk.{into_node, zero_is_marked, some_not_marked, all_is_open}
use Rattle.mark_board.proofs.MarkingWalk.{less_not_whole}

-- the targets listed are the open branches before this node
pub record Walked (tree : SplitTree) (refuted : ℕ → Bool) (targets : List Target) (number : ℕ) :
    Type 0 where
  pub listed : List NodeWithTree
  pub all : listed ++ branches_from refuted number 0 tree ≡ open_branches refuted 0 tree
  pub stand : AreTargetsAt tree targets listed
  pub clear : IsClear refuted tree number
  pub within : number ≤ size tree

-- at first no node was passed
pub walk_start : (tree : SplitTree) (refuted : ℕ → Bool) → Walked tree refuted [] 0
walk_start tree refuted =
    record {
      listed = [];
      all = from_start refuted tree;
      stand = tt;
      clear = clear_start refuted tree;
      within = omega arith;
    }

one_more : (tree : SplitTree) (targets : List Target) (places : List NodeWithTree) (target : Target)
    (place : NodeWithTree) → AreTargetsAt tree targets places → IsTargetAt tree place.node target →
    AreTargetsAt tree (targets ++ target ∷ []) (places ++ place ∷ [])
one_more tree [] [] target place h at = (at, tt)
one_more tree [] (p ∷ places) target place h at = absurd h
one_more tree (t ∷ targets) [] target place h at = absurd h
one_more tree (t ∷ targets) (p ∷ places) target place h at =
    (h.0, one_more tree targets places target place h.1 at)

module _ (tree : SplitTree) (refuted : ℕ → Bool) (targets : List Target) (number end weight : ℕ)
    (w : Walked tree refuted targets number) (l : number < size tree)
    (e : end ≡ number + size (subtree_at tree number))
    (is : weight ≡ open_weight (worth_of tree) refuted number (subtree_at tree number)) where
  -- below a node with nothing open, nothing is listed
  pub walk_past : weight ≡ 0 → Walked tree refuted targets end
  walk_past z = rw e (record {
    listed = w.listed;
    all =
        ap (λ (xs : List NodeWithTree). w.listed ++ xs)
        (sym (past_marked refuted tree number l w.clear
        (zero_is_marked tree refuted number (sym is ∙ z)))) ∙ w.all;
    stand = w.stand;
    clear = clear_past refuted tree number l w.clear;
    within = inside tree number l;
  })

  -- a wholly open node is listed, and the walk goes on behind it
  pub walk_list : (weight ≡ 0 → ⊥) → weight ≡ worth_of tree number → (target : Target) →
      IsTargetAt tree number target → Walked tree refuted (targets ++ target ∷ []) end
  walk_list some whole target at = rw e (record {
    listed = w.listed ++ record { node = number; tree = subtree_at tree number } ∷ [];
    all =
        append_assoc w.listed (record { node = number; tree = subtree_at tree number } ∷ [])
        (branches_from refuted (number + size (subtree_at tree number)) 0 tree)
        ∙ (ap (λ (xs : List NodeWithTree). w.listed ++ xs)
        (sym (past_open refuted tree number l w.clear
        (some_not_marked tree refuted number (λ z. some (is ∙ z)))
        (all_is_open tree refuted number l (sym is ∙ whole)))) ∙ w.all);
    stand =
        one_more tree targets w.listed target
        (record { node = number; tree = subtree_at tree number }) w.stand at;
    clear = clear_past refuted tree number l w.clear;
    within = inside tree number l;
  })

  -- below a node that is open in part, the walk goes on
  pub walk_into : (weight ≡ 0 → ⊥) → (weight ≡ worth_of tree number → ⊥) →
      Walked tree refuted targets (number + 1)
  walk_into some part =
      let free = some_not_marked tree refuted number (λ z. some (is ∙ z)) in
      let not_whole = less_not_whole tree refuted number l (λ f. part (is ∙ f)) in
      let q : number + 1 ≡ suc number = omega arith in
      rw q (record {
        listed = w.listed;
        all =
            ap (λ (xs : List NodeWithTree). w.listed ++ xs)
            (sym (into_node refuted tree number l w.clear free not_whole)) ∙ w.all;
        stand = w.stand;
        clear = clear_into refuted tree number w.clear free not_whole;
        within = omega arith;
      })

-- once all nodes were passed, the list has all open branches
pub walk_end : (tree : SplitTree) (refuted : ℕ → Bool) (targets : List Target) (number : ℕ) →
    Walked tree refuted targets number → size tree ≤ number →
    AreTargetsAt tree targets (open_branches refuted 0 tree)
walk_end tree refuted targets number w l =
    let all : w.listed ≡ open_branches refuted 0 tree =
    sym (append-nil w.listed)
    ∙ (ap (λ (xs : List NodeWithTree). w.listed ++ xs) (sym (from_none refuted tree number l))
    ∙ w.all) in
    rw (← all) w.stand

-- the walk goes on
pub further : (tree : SplitTree) (number end : ℕ) → number < size tree →
    end ≡ number + size (subtree_at tree number) → size tree - end < size tree - number
further tree number end l e = omega (arith, some_node (subtree_at tree number))
