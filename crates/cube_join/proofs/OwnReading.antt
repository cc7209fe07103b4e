-- The lines of the inner nodes tell the status of each of them.
use Rattle.std.proofs.Common.{◌≡◌, ◌⊎◌, ℕ, zero, suc, ◌+◌, ◌-◌, ◌<◌, ◌≤◌, ◌^◌, List, [], ◌∷◌, ◌++◌}
use Rattle.std.proofs.Common.{length}
use Rattle.std.proofs.Common.{refl, sym, ◌∙◌, arith, inl, inr, append_assoc, subst, get_or}
use Rattle.std.proofs.lemmas.Bool.{cases_lt}
use Rattle.split_tree.specs.SplitTree.{SplitTree, missing, cube, split, size, path_at, IsSplit}
use Rattle.split_tree.proofs.NavigationPaths.{one_node, path_positive, path_negative}
use Rattle.mark_board.specs.declared.mark.Mark.{Mark}
use Rattle.mark_board.specs.declared.mark.Mark.TheVariants.{Open, Refuted, Rejected}
use Rattle.mark_board.specs.Marking.{mark_at}
use Rattle.node_fields.specs.Fields.{status_fields}
use Rattle.cube_report.specs.Report.{node_line}
use Rattle.cube_report.specs.Report.{marked_line, node_lines}
use Rattle.cube_join.specs.Inner.Reading.{IsOther}
use Rattle.cube_join.proofs.Lines.{AreSmall, status_at}
use Rattle.cube_join.proofs.LinesRead.{node_read, node_front}

-- ---- the paths of a tree whose variables are of 64 bits

-- all splits are on variables of 64 bits
abbrev pub AreWords : SplitTree → Type 0
AreWords missing = Unit {0}
AreWords (cube k) = Unit {0}
AreWords (split v positive negative) = (v < 2 ^ 64) × AreWords positive × AreWords negative

pub small_path : (t : SplitTree) (i : ℕ) → i < size t → AreWords t → AreSmall (path_at t i)
small_path missing zero l w = tt
small_path missing (suc i) l w = absurd (omega (arith, l))
small_path (cube k) zero l w = tt
small_path (cube k) (suc i) l w = absurd (omega (arith, l))
small_path (split v p n) zero l w = tt
small_path (split v p n) (suc i) l w = elim (cases_lt i (size p)) [
  | inl less ↦ rw (path_positive v p n i less) (w.0, small_path p i less w.1)
  | inr more ↦
      let q : i ≡ size p + (i - size p) = omega (arith, more) in
      let k : i - size p < size n = omega (arith, l, more) in
      rw (path_negative v p n i (i - size p) q k) (w.0, small_path n (i - size p) k w.2)
]

-- ---- the first line

-- the first line of these nodes is that of one of them, or they have none
abbrev First : SplitTree → ℕ → ℕ → List ℕ → List ℕ → Type 0
First tree from end text r = (text ≡ r) ⊎ ((j : ℕ) × (m : Mark) × (rest : List ℕ) × (from ≤ j)
    × (j < end) × (text ≡ node_line (path_at tree j) m ++ rest))

later : (tree : SplitTree) (from end : ℕ) (text r : List ℕ) → First tree (suc from) end text r →
    First tree from end text r
later tree from end text r (inl e) = inl e
later tree from end text r (inr h) = inr (h.0, h.1, h.2, omega (arith, h.3), h.4, h.5)

first_here : (tree : SplitTree) (k end : ℕ) (m : Mark) (x r : List ℕ) → k < end →
    First tree (suc k) end x r → First tree k end (marked_line (path_at tree k) m ++ x) r
first_here tree k end Open x r l h = later tree k end x r h
first_here tree k end Refuted x r l h = inr (k, Refuted, x, omega arith, l, refl)
first_here tree k end (Rejected step reason) x r l h =
    inr (k, Rejected step reason, x, omega arith, l, refl)

first_of_all : (tree : SplitTree) (a : List Mark) (k end : ℕ) (trees : List SplitTree) (r : List ℕ)
    →
    k + length trees ≡ end → First tree k end (node_lines tree a k trees ++ r) r
first_of_all tree a k end [] r e = inl refl
first_of_all tree a k end (missing ∷ trees) r e =
    later tree k end _ r (first_of_all tree a (suc k) end trees r (omega (arith, e)))
first_of_all tree a k end (cube c ∷ trees) r e =
    later tree k end _ r (first_of_all tree a (suc k) end trees r (omega (arith, e)))
first_of_all tree a k end (split v p n ∷ trees) r e =
    subst (λ (x : List ℕ). First tree k end x r)
    (sym (append_assoc (marked_line (path_at tree k) (mark_at a k))
    (node_lines tree a (suc k) trees) r))
    (first_here tree k end (mark_at a k) (node_lines tree a (suc k) trees ++ r) r (omega (arith, e))
    (first_of_all tree a (suc k) end trees r (omega (arith, e))))

-- ---- one node's line, or none

-- what comes behind a node's place doesn't begin with its line
not_here : (tree : SplitTree) (k end : ℕ) (x r y : List ℕ) (m : Mark) → AreWords tree → k < end →
    end ≤ size tree → IsOther r → First tree (suc k) end x r →
    x ≡ node_line (path_at tree k) m ++ y → ⊥
not_here tree k end x r y m w l few other (inl none) e =
    other _ (sym none ∙ (e ∙ node_front (path_at tree k) m y))
not_here tree k end x r y m w l few other (inr h) e =
    let inside : h.0 < size tree = omega (arith, h.4, few) in
    let here : k < size tree = omega (arith, l, few) in
    let both = node_read (path_at tree h.0) (path_at tree k) h.1 m h.2 y
    (small_path tree h.0 inside w) (small_path tree k here w) (sym h.5 ∙ e) in
    let same : h.0 ≡ k = one_node tree h.0 k inside here both.0 in
    let after : suc k ≤ h.0 = h.3 in
    omega (arith, same, after)

one_own : (tree : SplitTree) (k end : ℕ) (m n : Mark) (x y r s : List ℕ) → AreWords tree → k < end →
    end ≤ size tree → IsOther r → IsOther s → First tree (suc k) end x r →
    First tree (suc k) end y s →
    marked_line (path_at tree k) m ++ x ≡ marked_line (path_at tree k) n ++ y →
    (status_fields m ≡ status_fields n) × (x ≡ y)
one_own tree k end Open Open x y r s w l few g h f i e = (refl, e)
one_own tree k end Open Refuted x y r s w l few g h f i e =
    absurd (not_here tree k end x r y Refuted w l few g f e)
one_own tree k end Open (Rejected step reason) x y r s w l few g h f i e =
    absurd (not_here tree k end x r y (Rejected step reason) w l few g f e)
one_own tree k end Refuted Open x y r s w l few g h f i e =
    absurd (not_here tree k end y s x Refuted w l few h i (sym e))
one_own tree k end (Rejected step reason) Open x y r s w l few g h f i e =
    absurd (not_here tree k end y s x (Rejected step reason) w l few h i (sym e))
one_own tree k end Refuted Refuted x y r s w l few g h f i e =
    let p = small_path tree k (omega (arith, l, few)) w in
    let both = node_read (path_at tree k) (path_at tree k) Refuted Refuted x y p p e in
    (both.1, both.2)
one_own tree k end Refuted (Rejected step reason) x y r s w l few g h f i e =
    let p = small_path tree k (omega (arith, l, few)) w in
    let both = node_read (path_at tree k) (path_at tree k) Refuted (Rejected step reason) x y p p e
    in
    (both.1, both.2)
one_own tree k end (Rejected step reason) Refuted x y r s w l few g h f i e =
    let p = small_path tree k (omega (arith, l, few)) w in
    let both = node_read (path_at tree k) (path_at tree k) (Rejected step reason) Refuted x y p p e
    in
    (both.1, both.2)
one_own tree k end (Rejected step reason) (Rejected other why) x y r s w l few g h f i e =
    let p = small_path tree k (omega (arith, l, few)) w in
    let both = node_read (path_at tree k) (path_at tree k) (Rejected step reason)
    (Rejected other why)
    x y p p e in
    (both.1, both.2)

-- ---- all of them

-- the inner nodes among these have the same statuses by both lists
abbrev pub AgreeOn : List Mark → List Mark → ℕ → List SplitTree → Type 0
AgreeOn a b k trees = (i : ℕ) → i < length trees → IsSplit (get_or trees i missing) →
    status_at a (k + i) ≡ status_at b (k + i)

agree_leaf : (a b : List Mark) (k : ℕ) (t : SplitTree) (trees : List SplitTree) →
    (IsSplit t → status_at a k ≡ status_at b k) → AgreeOn a b (suc k) trees →
    AgreeOn a b k (t ∷ trees)
agree_leaf a b k t trees here rest zero l is =
    let q : k + 0 ≡ k = omega arith in rw q (here is)
agree_leaf a b k t trees here rest (suc i) l is =
    let q : k + suc i ≡ suc k + i = omega arith in rw q (rest i (omega (arith, l)) is)

pub own_read : (tree : SplitTree) (a b : List Mark) (k end : ℕ) (trees : List SplitTree)
    (r s : List ℕ) →
    AreWords tree → k + length trees ≡ end → end ≤ size tree → IsOther r → IsOther s →
    node_lines tree a k trees ++ r ≡ node_lines tree b k trees ++ s →
    AgreeOn a b k trees × (r ≡ s)
own_read tree a b k end [] r s w c few g h e = (λ i l. absurd (omega (arith, l)), e)
own_read tree a b k end (missing ∷ trees) r s w c few g h e =
    let rest = own_read tree a b (suc k) end trees r s w (omega (arith, c)) few g h e in
    (agree_leaf a b k missing trees (λ is. absurd is) rest.0, rest.1)
own_read tree a b k end (cube j ∷ trees) r s w c few g h e =
    let rest = own_read tree a b (suc k) end trees r s w (omega (arith, c)) few g h e in
    (agree_leaf a b k (cube j) trees (λ is. absurd is) rest.0, rest.1)
own_read tree a b k end (split v p n ∷ trees) r s w c few g h e =
    let next : suc k + length trees ≡ end = omega (arith, c) in
    let one = one_own tree k end (mark_at a k) (mark_at b k) (node_lines tree a (suc k) trees ++ r)
    (node_lines tree b (suc k) trees ++ s) r s w (omega (arith, c)) few g h
    (first_of_all tree a (suc k) end trees r next) (first_of_all tree b (suc k) end trees s next)
    (sym (append_assoc (marked_line (path_at tree k) (mark_at a k))
    (node_lines tree a (suc k) trees) r)
    ∙ (e ∙ append_assoc (marked_line (path_at tree k) (mark_at b k))
    (node_lines tree b (suc k) trees) s)) in
    let rest = own_read tree a b (suc k) end trees r s w next few g h one.1 in
    (agree_leaf a b k (split v p n) trees (λ is. one.0) rest.0, rest.1)
