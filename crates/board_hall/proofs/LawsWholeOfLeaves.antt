-- What a free board is where no inner node has a finding.
use Rattle.std.proofs.Common.{◌≡◌, ◌≢◌, ◌⊎◌, ◌+◌, ◌-◌, ◌<◌, ◌==◌, ℕ, zero, suc, Bool, true, false}
use Rattle.std.proofs.Common.{List, get_or, refl, sym, ap, ◌∙◌, subst, inl, inr, ⊎_elim, arith}
use Rattle.std.proofs.Common.{add-zero, eq-eqb}
use Rattle.std.proofs.lemmas.Bool.{cases_Bool, cases_lt, eqb-false}
use Rattle.split_tree.specs.SplitTree.{SplitTree, missing, cube, split, size, subtree_at, IsSplit}
use Rattle.split_tree.specs.SplitTree.{IsLeaf}
use Rattle.split_tree.specs.Navigation.{HasBelow}
use Rattle.split_tree.specs.Parts.{top}
use Rattle.split_tree.specs.declared.node.Target.TheVariants.{Node}
use Rattle.split_tree.proofs.NodesCoding.{in_positive, in_negative, some_node}
use Rattle.split_tree.proofs.SplitTreeLabels.{below, inside}
use Rattle.case_core.proofs.CaseTables.{one_target}
use Rattle.mark_board.specs.Marking.{marked, is_refuted, refuted_by}
use Rattle.mark_board.specs.TopPlaces.{part_root}
use Rattle.mark_board.specs.BoardData.{stored_board}
use Rattle.mark_board.proofs.BoardsMarks.{own_no_part}
use Rattle.mark_board.proofs.TopPlacesParts.{part_within}
use Rattle.mark_board.proofs.TopPlacesNodes.{split_at_top}
use Rattle.board_hall.specs.declared.view.CutCase.{CutCase}
use Rattle.board_hall.specs.declared.view.Post.{Post}
use Rattle.board_hall.specs.declared.view.Proofs.{Proofs}
use Rattle.board_hall.specs.declared.view.Proofs.TheVariants.{InCase, Elsewhere}
use Rattle.board_hall.specs.Posts.{parts_in, board_count, tree_at, node_of, posts_of, AreReal}
use Rattle.board_hall.specs.Hall.{HallState, Reached, lock_word}
use Rattle.board_hall.specs.Posts.{NeedsSection, MayBePosted}
use Rattle.board_hall.specs.Laws.{IsRefutedBy, IsWholeOfLeaves, PostsNoNode, NamesNoNode}
use Rattle.board_hall.proofs.HallLawful.{reached_lawful, all_real}
use Rattle.board_hall.proofs.LawsWhole.{whole, either_of, not_both, false_of, posted_refuted}

split_of : (t : SplitTree) → IsSplit t →
    (v : ℕ) × (p : SplitTree) × (n : SplitTree) × (t ≡ split v p n)
split_of missing is = absurd is
split_of (cube k) is = absurd is
split_of (split v p n) is = (v, p, n, refl)

-- an inner node of a board is one of the case's tree
split_there : (k : CutCase) (b row : ℕ) → b < board_count k → row < size (tree_at k b) →
    IsSplit (subtree_at (tree_at k b) row)
    → (node_of k b row < size k.case.tree) × IsSplit (subtree_at k.case.tree (node_of k b row))
split_there k b row few within is = elim (cases_Bool (b == parts_in k)) [
  | inl on_top ↦
      let l : row < size (top k.cut k.case.tree) = rw on_top at within in
      let j : IsSplit (subtree_at (top k.cut k.case.tree) row) = rw on_top at is in
      let s = split_of (subtree_at (top k.cut k.case.tree) row) j in
      let there = split_at_top k.case.tree k.cut row s.0 s.1 s.2 l s.3 in
      rw on_top (there.within, rw there.is tt)
  | inr in_part ↦
      let other = eqb-false b (parts_in k) in_part in
      let part : b < parts_in k = omega (arith, few, other) in
      let root : ℕ = part_root k.cut k.case.tree b in
      let deep = part_within k.cut k.case.tree b part in
      let l : row < size (subtree_at k.case.tree root) = rw in_part at within in
      let j : IsSplit (subtree_at (subtree_at k.case.tree root) row) = rw in_part at is in
      let e = below k.case.tree root row deep l in let w = inside k.case.tree root deep in
      rw in_part (omega (arith, w, l), rw e j)
]

-- no refutation of an inner node was posted
none_inner : (k : CutCase) (s : HallState) → PostsNoNode k s → AreReal k (posts_of s.views) →
    (b row : ℕ) → b < board_count k → row < size (tree_at k b) →
    IsSplit (subtree_at (tree_at k b) row) → IsRefutedBy (posts_of s.views) b row → ⊥
none_inner k s none real b row few within is p =
    let x : Post = p.0 in
    let within' : x.row < size (tree_at k x.board) = rw (p.2, p.3) within in
    let is' : IsSplit (subtree_at (tree_at k x.board) x.row) = rw (p.2, p.3) is in
    let few' : x.board < board_count k = rw p.2 few in
    elim (real x p.1) [
      | inl f ↦
          let there = split_there k x.board x.row few' within' is' in
          let node : ℕ = node_of k x.board x.row in
          let same : f.target ≡ Node node =
          one_target k.case.tree node f.target (Node node) f.here (refl, there.0, there.1) in
          none x p.1 f node same
      | inr of_part ↦
          let on_top : (x.board == parts_in k) ≡ true =
          eq-eqb x.board (parts_in k) of_part.1.on_top in
          own_no_part k.cut k.case.tree x.row of_part.0 (rw on_top at is') of_part.1.within
          of_part.1.here
    ]

both_of : (a b c : Bool) → a ≡ false → ((a ≡ true) ⊎ ((b ≡ true) × (c ≡ true))) →
    (b ≡ true) × (c ≡ true)
both_of a b c no_ either = ⊎_elim (λ own. absurd (not_both a no_ own)) (λ both. both) either

-- where no inner node is refuted, a marked node has marked leaves alone under it
covered : (refuted : ℕ → Bool) (node : ℕ) (t : SplitTree) →
    ((r : ℕ) → r < size t → IsSplit (subtree_at t r) → refuted (node + r) ≡ false) →
    marked refuted node t ≡ true
    → (r : ℕ) → r < size t → IsLeaf (subtree_at t r) → refuted (node + r) ≡ true
covered refuted node missing none m zero l leaf = rw (add-zero node) m
covered refuted node missing none m (suc r) l leaf = absurd (omega arith)
covered refuted node (cube k) none m zero l leaf = rw (add-zero node) m
covered refuted node (cube k) none m (suc r) l leaf = absurd (omega arith)
covered refuted node (split v p n) none m zero l leaf = absurd leaf
covered refuted node (split v p n) none m (suc r) l leaf =
    let own : refuted node ≡ false = rw (add-zero node) at (none 0 (omega arith) tt) in
    let both =
    both_of (refuted node) (marked refuted (suc node) p) (marked refuted (suc (node + size p)) n)
    own
    (either_of (refuted node) (marked refuted (suc node) p) (marked refuted (suc (node + size p)) n)
    m) in
    elim (cases_lt r (size p)) [
      | inl near ↦
          let e : node + suc r ≡ suc node + r = omega arith in
          let first : (q : ℕ) → q < size p → IsSplit (subtree_at p q) →
          refuted (suc node + q) ≡ false = λ q w is.
          let f : node + suc q ≡ suc node + q = omega arith in
          rw f at (none (suc q) (omega (arith, w)) (rw (in_positive v p n q w) is)) in
          rw e (covered refuted (suc node) p first both.0 r near
          (rw (in_positive v p n r near) at leaf))
      | inr far ↦
          let c : ℕ = r - size p in let s : r ≡ size p + c = omega (arith, far) in
          let e : node + suc r ≡ suc (node + size p) + c = omega (arith, s) in
          let second : (q : ℕ) → q < size n → IsSplit (subtree_at n q) →
          refuted (suc (node + size p) + q) ≡ false = λ q w is.
          let f : node + suc (size p + q) ≡ suc (node + size p) + q = omega arith in
          rw f at (none (suc (size p + q)) (omega (arith, w))
          (rw (in_negative v p n (size p + q) q refl) is)) in
          rw e (covered refuted (suc (node + size p)) n second both.1 c (omega (arith, s, l))
          (rw (in_negative v p n r c s) at leaf))
    ]

leaf_marks : (refuted : ℕ → Bool) (row : ℕ) (t : SplitTree) → IsLeaf t → refuted row ≡ true →
    marked refuted row t ≡ true
leaf_marks refuted row missing leaf e = e
leaf_marks refuted row (cube k) leaf e = e
leaf_marks refuted row (split v p n) leaf e = absurd leaf

-- the same of a node of a tree
under_marked : (refuted : ℕ → Bool) (tree : SplitTree) →
    ((r : ℕ) → r < size tree → IsSplit (subtree_at tree r) → refuted r ≡ false) → (above row : ℕ) →
    row < size tree
    → HasBelow tree above row → IsLeaf (subtree_at tree row) →
    marked refuted above (subtree_at tree above) ≡ true →
    marked refuted row (subtree_at tree row) ≡ true
under_marked refuted tree none above row within under leaf m =
    let u = under.reached in let w = under.before_end in
    let high : above < size tree = omega (arith, u, within) in
    let c : ℕ = row - above in let e : above + c ≡ row = omega (arith, u) in
    let near : c < size (subtree_at tree above) = omega (arith, u, w) in
    let most = inside tree above high in
    let at : subtree_at tree row ≡ subtree_at (subtree_at tree above) c =
    ap (subtree_at tree) (sym e) ∙ below tree above c high near in
    let none' : (r : ℕ) → r < size (subtree_at tree above) →
    IsSplit (subtree_at (subtree_at tree above) r) → refuted (above + r) ≡ false = λ r l is.
    none (above + r) (omega (arith, l, most)) (rw (below tree above r high l) is) in
    leaf_marks refuted row (subtree_at tree row) leaf
    (ap refuted (sym e)
    ∙ covered refuted above (subtree_at tree above) none' m c near (rw at at leaf))

itself_below : (tree : SplitTree) (row : ℕ) → HasBelow tree row row
itself_below tree row =
    let s = some_node (subtree_at tree row) in
    record { reached = omega arith; before_end = omega (arith, s) }

-- where no inner node has a finding, a free board is that of its leaves' posts
pub whole_of_leaves : (k : CutCase) (passes : ℕ) (s : HallState) → PostsNoNode k s →
    Reached k passes s → (b : ℕ) → b < board_count k → get_or s.words (lock_word b) 0 ≡ 0 →
    IsWholeOfLeaves k b s
whole_of_leaves k passes s none g b within free =
    let w = whole k passes s g b within free in let tree : SplitTree = tree_at k b in
    let real = all_real k s (reached_lawful k passes s g) in
    let posts : List Post = posts_of s.views in
    let refuted : ℕ → Bool = refuted_by (stored_board k.case w.stored).marks in
    let apart : (r : ℕ) → r < size tree → IsSplit (subtree_at tree r) → refuted r ≡ false =
    λ r l is. false_of (refuted r) (λ e.
    none_inner k s none real b r within l is
    (posted_refuted posts b r (sym (ap is_refuted (w.is_board.is_board.marks r)) ∙ e))) in record {
      stored = w.stored;
      at_home = w.at_home;
      is_board = w.is_board;
      sound = λ row inside_ leaf m. w.sound row inside_ m;
      inner = λ row first second br.
          let i = w.inner row first second br in
          let split_ : IsSplit (subtree_at tree row) = rw br.is tt in
          let in_tree : row < size tree =
          (let a = br.first_is in let c = br.second_is in let d = br.within in
          omega (arith, a, c, d)) in (
            (λ m. ⊎_elim (λ p. absurd (none_inner k s none real b row within in_tree split_ p))
                (λ both. both) (i.0 m)),
            (λ both. i.1 (inr both)),
          );
      open_is = record {
        rows = w.open_is.rows;
        once = w.open_is.once;
        all = λ row. (
          (λ c. let o = (w.open_is.all row).0 c in
              record {
                within = o.within;
                leaf = o.leaf;
                unmarked = o.under_none row (itself_below tree row);
              }),
          (λ o. (w.open_is.all row).1 record {
            within = o.within;
            leaf = o.leaf;
            under_none =
                λ above under m.
                o.unmarked (under_marked refuted tree apart above row o.within under o.leaf m);
          }),
        );
        sum_is = w.open_is.sum_is;
      };
    }

-- an inner node's proof stands elsewhere only in a hall for such proofs
node_needs : (proofs : Proofs) (node : ℕ) → proofs ≢ Elsewhere → NeedsSection proofs (Node node)
node_needs InCase node apart = tt
node_needs Elsewhere node apart = absurd (apart refl)

-- where sections name leaves alone, no inner node has a finding
pub none_posted : (k : CutCase) (s : HallState) → NamesNoNode k → PostsNoNode k s
none_posted k s names x among finding node same =
    let may : MayBePosted k (Node node) = subst (MayBePosted k) same finding.may in
    names.1 node (may (node_needs k.proofs node names.0))
