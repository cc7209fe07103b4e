-- The parts on the top board are those of the tree.
use Rattle.std.proofs.Common.{◌≡◌, ℕ, zero, suc, ◌+◌, ◌<◌, List, [], ◌∷◌, ◌++◌, length, map, get_or}
use Rattle.std.proofs.Common.{refl, ap, ◌∙◌, arith, zero-add, add-zero}
use Rattle.std.proofs.lemmas.List.{map-append, get_or_read}
use Rattle.split_tree.specs.SplitTree.{SplitTree, missing, cube, split, size, subtrees}
use Rattle.split_tree.specs.Leaves.{missing_from, missing_nodes}
use Rattle.split_tree.specs.Parts.{Part, parts, part_nodes, top}
use Rattle.split_tree.proofs.NodesCoding.{length-subtrees}
use Rattle.split_tree.proofs.LeavesNodes.{missing_is}
use Rattle.mark_board.specs.TopPlaces.{top_node, part_count, part_place, part_root}
use Rattle.mark_board.proofs.BoardNumbers.{IsAtTop, at_root, at_first, at_second}
use Rattle.mark_board.proofs.TopPlacesNodes.{top_first, get_or-map, length-mapped, node_within}

-- the missing leaves of two runs of nodes are those of the first, and then of the second
pub missing_append : (n : ℕ) (xs ys : List SplitTree) →
    missing_from n (xs ++ ys) ≡ missing_from n xs ++ missing_from (n + length xs) ys
missing_append n [] ys = rw (add-zero n) refl
missing_append n (missing ∷ xs) ys =
    let q : n + suc (length xs) ≡ suc n + length xs = omega arith in
    rw q (ap (λ (l : List ℕ). n ∷ l) (missing_append (suc n) xs ys))
missing_append n (cube k ∷ xs) ys =
    let q : n + suc (length xs) ≡ suc n + length xs = omega arith in
    rw q (missing_append (suc n) xs ys)
missing_append n (split v p m ∷ xs) ys =
    let q : n + suc (length xs) ≡ suc n + length xs = omega arith in
    rw q (missing_append (suc n) xs ys)

part_one : (own : ℕ → ℕ) (base cut node : ℕ) (t : SplitTree) →
    IsAtTop own (λ k. k) base cut node t → own base ≡ node
part_one own base cut node t at = at_root own (λ k. k) base cut node t at ∙ top_first cut node t

parts_at : (own : ℕ → ℕ) (base cut node : ℕ) (t : SplitTree) →
    IsAtTop own (λ k. k) base cut node t →
    part_nodes cut node t ≡ map own (missing_from base (subtrees (top cut t)))
parts_at own base zero node t at = rw (part_one own base zero node t at) refl
parts_at own base (suc cut) node missing at = rw (part_one own base (suc cut) node missing at) refl
parts_at own base (suc cut) node (cube k) at =
    rw (part_one own base (suc cut) node (cube k) at) refl
parts_at own base (suc cut) node (split v p n) at =
    let q : suc base + size (top cut p) ≡ suc (base + size (top cut p)) = omega arith in
    rw (
      map-append (λ (part : Part). part.node) (parts cut (suc node) p)
          (parts cut (suc (node + size p)) n),
      missing_append (suc base) (subtrees (top cut p)) (subtrees (top cut n)),
      length-subtrees (top cut p),
      q,
      map-append own (missing_from (suc base) (subtrees (top cut p)))
          (missing_from (suc (base + size (top cut p))) (subtrees (top cut n))),
      parts_at own (suc base) cut (suc node) p (at_first own (λ k. k) base cut node v p n at),
      parts_at own (suc (base + size (top cut p))) cut (suc (node + size p)) n
          (at_second own (λ k. k) base cut node v p n at),
    ) refl

-- the roots of the parts are the nodes at the leaves of the top board, in their order
pub parts_on_top : (cut : ℕ) (tree : SplitTree) →
    part_nodes cut 0 tree ≡ map (top_node cut tree) (missing_nodes (top cut tree))
parts_on_top cut tree = parts_at (top_node cut tree) 0 cut 0 tree (λ j k. rw (zero-add j) refl)

-- the root of a part, read from the list of the parts
pub part_known : (cut : ℕ) (tree : SplitTree) (roots : List ℕ) (part : ℕ) →
    roots ≡ part_nodes cut 0 tree → part < part_count cut tree → part < length roots
part_known cut tree roots part e l =
    let k : length roots ≡ part_count cut tree =
    rw (e, parts_on_top cut tree)
    (length-mapped (top_node cut tree) (missing_nodes (top cut tree))) in
    omega (arith, k, l)

-- the root that is read for a part is the part's
pub part_read : (cut : ℕ) (tree : SplitTree) (roots : List ℕ) (part x : ℕ) →
    roots ≡ part_nodes cut 0 tree → part < part_count cut tree →
    x ≡ get_or roots part x → x ≡ part_root cut tree part
part_read cut tree roots part x e l h =
    let r : x ≡ get_or roots part 0 =
    get_or_read roots part x (part_known cut tree roots part e l) h 0 in
    let m : get_or roots part 0
    ≡ get_or (map (top_node cut tree) (missing_nodes (top cut tree))) part 0 =
    rw (e, parts_on_top cut tree) refl in
    r ∙ (m ∙ get_or-map (top_node cut tree) (missing_nodes (top cut tree)) part l)

-- a part has a place on the top board
pub place_within : (cut : ℕ) (tree : SplitTree) (part : ℕ) → part < part_count cut tree →
    part_place cut tree part < size (top cut tree)
place_within cut tree part l =
    let r = missing_is 0 (subtrees (top cut tree)) part l in
    let k : length (subtrees (top cut tree)) ≡ size (top cut tree) =
    length-subtrees (top cut tree) in
    let e : part_place cut tree part ≡ r.0 = r.2 ∙ zero-add r.0 in
    rw e (omega (arith, r.1, k))

-- the root of a part is a node of the tree
pub part_within : (cut : ℕ) (tree : SplitTree) (part : ℕ) → part < part_count cut tree →
    part_root cut tree part < size tree
part_within cut tree part l =
    node_within tree cut (part_place cut tree part) (place_within cut tree part l)
