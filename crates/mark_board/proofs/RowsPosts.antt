-- What a post changes.
use Rattle.std.proofs.Common.{◌≡◌, ◌≢◌, ◌↔◌, nat_lt, ℕ, zero, suc, ◌+◌, ◌<◌, ◌≤◌, ◌==◌, List, ◌++◌}
use Rattle.std.proofs.Common.{length, get_or, set, take, drop, replicate, Bool, true, false, refl}
use Rattle.std.proofs.Common.{sym, ap, ◌∙◌, arith, inl, inr, get_or-set_other, get_or-set_same}
use Rattle.std.proofs.Common.{length-set, append-nil}
use Rattle.std.proofs.lemmas.List.{drop_all, take_all, get_or_read}
use Rattle.std.proofs.lemmas.Bool.{cases_eq, cases_lt, cases_Bool}
use Rattle.std.proofs.lemmas.Bool.Decides.{nat_tests}
use Rattle.split_tree.specs.SplitTree.{SplitTree, size, subtree_at}
use Rattle.split_tree.specs.Navigation.{HasBelow}
use Rattle.split_tree.proofs.NodesCoding.{some_node, subtree-root}
use Rattle.split_tree.proofs.SplitTreeLabels.{inside}
use Rattle.mark_board.specs.declared.mark.Mark.{Mark}
use Rattle.mark_board.specs.declared.mark.Mark.TheVariants.{Open, Refuted, Rejected}
use Rattle.mark_board.specs.Marking.{marked, open_weight, is_refuted, mark_at, refuted_by}
use Rattle.mark_board.specs.Rows.{AreOpen, AreRows, IsWeighed, AreRowsKept}
use Rattle.mark_board.specs.Inner.Rows.{CoversFrom, TakesWeight}
use Rattle.mark_board.specs.Posting.{MarksRoot}
use Rattle.mark_board.proofs.MarkingLaws.{test_same, marked_same, open_same, open_after}
use Rattle.mark_board.proofs.MarkingLaws.{marked_open, open_marked, Weighs}
use Rattle.mark_board.proofs.RowsSeeking.{open_below_less}

-- ---- the rows after a new refuted node

pub enough : (tree : SplitTree) (worth : ℕ → ℕ) (refuted : ℕ → Bool) (target first : ℕ)
    (old : List ℕ) → AreOpen tree worth refuted old →
    CoversFrom tree worth refuted target first → target < size tree → (j : ℕ) → first ≤ j →
    j < length old → HasBelow tree j target →
    get_or old target 0 ≤ get_or old j 0
enough tree worth refuted target first old o s h j f l b =
    let a : get_or old target 0 ≡ open_weight worth refuted target (subtree_at tree target) =
    o.is target h in
    let c : get_or old j 0 ≡ open_weight worth refuted j (subtree_at tree j) =
    o.is j (omega (arith, o.long)) in
    let d = s.clear j f b in
    let e = open_below_less worth refuted target j (subtree_at tree j) in
    omega (arith, d, e)

pub covered_rows : (tree : SplitTree) (worth : ℕ → ℕ) (before after : ℕ → Bool) (target first : ℕ)
    (old new : List ℕ) → AreOpen tree worth before old →
    ((q : ℕ) → q ≢ target → after q ≡ before q) → after target ≡ true → target < size tree →
    CoversFrom tree worth before target first →
    TakesWeight tree first target (get_or old target 0) old new → AreOpen tree worth after new
covered_rows tree worth before after target first old new o same g h s t = record {
  long = t.long ∙ o.long;
  is = λ i l.
      let m : i < length old = omega (arith, o.long) in
      let was : get_or old i 0 ≡ open_weight worth before i (subtree_at tree i) = o.is i l in
      let change = open_after worth before after target i (subtree_at tree i) same g in
      elim (cases_lt target i) [
        | inl ahead ↦
            t.others i m (λ b. let r : i ≤ target = b.reached in absurd (omega arith)) ∙ (was
            ∙ sym (open_same worth before after i (subtree_at tree i)
            (λ q x y. same q (omega arith))))
        | inr upto ↦ elim (cases_lt target (i + size (subtree_at tree i))) [
          | inr past ↦
              t.others i m
              (λ b. let r : target < i + size (subtree_at tree i) = b.before_end in
              absurd (omega arith)) ∙ (was
              ∙ sym (open_same worth before after i (subtree_at tree i)
              (λ q x y. same q (omega arith))))
          | inl inside_it ↦
              let b : HasBelow tree i target = record { reached = upto; before_end = inside_it } in
              elim (cases_lt i first) [
                | inl above_it ↦ let z = s.covered i above_it b in let u = t.before i above_it in
                    omega (arith, z, u, change)
                | inr from_it ↦
                    let z = s.clear i from_it b in
                    let u = t.above i from_it m b in
                    let w : get_or old target 0
                    ≡ open_weight worth before target (subtree_at tree target) = o.is target h in
                    omega (arith, z, u, change)
              ]
        ]
      ];
}

-- ---- the marks after a post

pub others_same : (marks : List Mark) (node : ℕ) (mark : Mark) → (q : ℕ) → q ≢ node →
    refuted_by (set marks node mark) q ≡ refuted_by marks q
others_same marks node mark q ne = ap is_refuted (get_or-set_other marks node q mark Open ne)

pub now_refuted : (marks : List Mark) (node : ℕ) (mark : Mark) → node < length marks →
    mark ≡ Refuted → refuted_by (set marks node mark) node ≡ true
now_refuted marks node mark h e = rw e (ap is_refuted (get_or-set_same marks node Refuted Open h))

not_refuted_mark : (mark : Mark) → (mark ≡ Refuted → ⊥) → is_refuted mark ≡ false
not_refuted_mark Open h = refl
not_refuted_mark Refuted h = absurd (h refl)
not_refuted_mark (Rejected step reason) h = refl

pub same_refuted : (marks : List Mark) (node : ℕ) (mark : Mark) → node < length marks →
    mark_at marks node ≡ Open → (mark ≡ Refuted → ⊥) →
    (q : ℕ) → refuted_by (set marks node mark) q ≡ refuted_by marks q
same_refuted marks node mark h e n q = elim (cases_eq q node) [
  | inl same ↦ rw same
      (ap is_refuted (get_or-set_same marks node mark Open h)
      ∙ (not_refuted_mark mark n ∙ sym (ap is_refuted e)))
  | inr other ↦ ap is_refuted (get_or-set_other marks node q mark Open other)
]

-- ---- the board after a post

pub rejected_board : (tree : SplitTree) (worth : ℕ → ℕ) (marks : List Mark) (weights : List ℕ)
    (node : ℕ) (mark : Mark) → AreRows tree worth marks weights →
    node < size tree → mark_at marks node ≡ Open → (mark ≡ Refuted → ⊥) →
    AreRows tree worth (set marks node mark) weights
rejected_board tree worth marks weights node mark b h e n = record {
  long = rw length-set b.long;
  are_open = record {
    long = b.are_open.long;
    is =
        λ i l. b.are_open.is i l
        ∙ sym (open_same worth (refuted_by marks) (refuted_by (set marks node mark)) i
        (subtree_at tree i)
        (λ q x y. same_refuted marks node mark (omega (arith, b.long)) e n q));
  };
}

pub refuted_board : (tree : SplitTree) (worth : ℕ → ℕ) (marks : List Mark) (old new : List ℕ)
    (node first : ℕ) (mark : Mark) → AreRows tree worth marks old →
    node < size tree → mark ≡ Refuted → CoversFrom tree worth (refuted_by marks) node first →
    TakesWeight tree first node (get_or old node 0) old new →
    AreRows tree worth (set marks node mark) new
refuted_board tree worth marks old new node first mark b h e s t = record {
  long = rw length-set b.long;
  are_open =
      covered_rows tree worth (refuted_by marks) (refuted_by (set marks node mark)) node first old
      new b.are_open
      (others_same marks node mark) (now_refuted marks node mark (omega (arith, b.long)) e) h s t;
}

-- ---- what is read of a board

pub weighs_at : (tree : SplitTree) (worth : ℕ → ℕ) (node : ℕ) → IsWeighed tree worth →
    node < size tree → Weighs worth node (subtree_at tree node)
weighs_at tree worth node w h r l =
    let i : node + size (subtree_at tree node) ≤ size tree = inside tree node h in
    w.some (node + r) (omega arith)

pub zero_marked : (tree : SplitTree) (worth : ℕ → ℕ) (marks : List Mark) (weights : List ℕ)
    (node : ℕ) → IsWeighed tree worth → AreRows tree worth marks weights →
    node < size tree → get_or weights node 0 ≡ 0 →
    marked (refuted_by marks) node (subtree_at tree node) ≡ true
zero_marked tree worth marks weights node w b h e =
    open_marked worth (refuted_by marks) node (subtree_at tree node) (weighs_at tree worth node w h)
    (sym (b.are_open.is node h) ∙ e)

pub marked_zero : (tree : SplitTree) (worth : ℕ → ℕ) (marks : List Mark) (weights : List ℕ)
    (node : ℕ) → AreRows tree worth marks weights →
    node < size tree → marked (refuted_by marks) node (subtree_at tree node) ≡ true →
    get_or weights node 0 ≡ 0
marked_zero tree worth marks weights node b h e =
    b.are_open.is node h ∙ marked_open worth (refuted_by marks) node (subtree_at tree node) e

pub some_row : (tree : SplitTree) (worth : ℕ → ℕ) (marks : List Mark) (weights : List ℕ) →
    AreRows tree worth marks weights → 0 < length weights
some_row tree worth marks weights b = omega (arith, b.are_open.long, some_node tree)

zero_is : (b : Bool) (x : ℕ) → (x ≡ 0 → b ≡ true) → (b ≡ true → x ≡ 0) → (x == 0) ≡ b
zero_is true x f g = let e : x ≡ 0 = g refl in rw e refl
zero_is false x f g =
    elim (cases_eq x 0) [
      | inl e ↦ let k : false ≡ true = f e in
          absurd (cc)
      | inr ne ↦ grind (arith, nat_tests)
    ]

-- ---- a mark that is read

-- the mark that is read at a row is the row's
pub mark_read : (tree : SplitTree) (marks : List Mark) (node : ℕ) (x : Mark) →
    length marks ≡ size tree →
    node < size tree → x ≡ get_or marks node x → x ≡ mark_at marks node
mark_read tree marks node x b h e = get_or_read marks node x (omega (arith, b)) e Open

-- a row with a refuted mark is refuted
pub refuted_read : (tree : SplitTree) (marks : List Mark) (node : ℕ) (x : Mark) →
    length marks ≡ size tree →
    node < size tree → x ≡ get_or marks node x → x ≡ Refuted → refuted_by marks node ≡ true
refuted_read tree marks node x b h e r = ap is_refuted (sym (mark_read tree marks node x b h e) ∙ r)

-- a row with another mark than a refuted one isn't refuted
pub clear_read : (tree : SplitTree) (marks : List Mark) (node : ℕ) (x : Mark) →
    length marks ≡ size tree →
    node < size tree → x ≡ get_or marks node x → (x ≡ Refuted → ⊥) → refuted_by marks node ≡ false
clear_read tree marks node x b h e r =
    ap is_refuted (sym (mark_read tree marks node x b h e)) ∙ not_refuted_mark x r

-- ---- a new board

replicate_open : (n q : ℕ) → refuted_by (replicate n Open) q ≡ false
replicate_open zero q = refl
replicate_open (suc n) zero = refl
replicate_open (suc n) (suc q) = replicate_open n q

length-replicate : (n : ℕ) → length (replicate n Open) ≡ n
length-replicate zero = refl
length-replicate (suc n) = ap suc (length-replicate n)

-- a board without marks keeps the weights of all leaves as its open weights
pub new_kept : (tree : SplitTree) (worth : ℕ → ℕ) (weights : List ℕ) → IsWeighed tree worth →
    length weights ≡ size tree →
    ((i : ℕ) → i < size tree → get_or weights i 0 ≡ worth i) →
    AreRowsKept tree worth (replicate (length weights) Open) weights
new_kept tree worth weights w l h = record {
  weighed = w;
  board = record {
    long = length-replicate (length weights) ∙ l;
    are_open = record {
      long = l;
      is =
          λ i k. h i k
          ∙ (w.sums i k
          ∙ sym (open_same worth (λ q. false) (refuted_by (replicate (length weights) Open)) i
          (subtree_at tree i)
          (λ q x y. replicate_open (length weights) q)));
    };
  };
}

-- ---- what a board keeps, after a post

written : (old new : List ℕ) (n : ℕ) → length new ≡ length old → n ≡ length old →
    take n (new ++ drop (length new) old) ≡ new
written old new n e f =
    rw (drop_all (length new) old (omega arith), append-nil new) (take_all n new (omega arith))

-- after a refutation the board keeps what it has to
pub kept_refuted : (tree : SplitTree) (worth : ℕ → ℕ) (marks : List Mark) (old lent new : List ℕ)
    (n node first : ℕ) → AreRowsKept tree worth marks old → node < size tree → lent ≡ old →
    length lent ≡ n →
    CoversFrom tree worth (refuted_by marks) node first →
    TakesWeight tree first node (get_or lent node 0) lent new →
    AreRowsKept tree worth (set marks node Refuted) (take n (new ++ drop (length new) old))
kept_refuted tree worth marks old lent new n node first k h e l s t =
    let t2 : TakesWeight tree first node (get_or old node 0) old new = rw e at t in
    let q : length lent ≡ length old = ap length e in
    rw (written old new n t2.long (omega arith)) (record {
      weighed = k.weighed;
      board = refuted_board tree worth marks old new node first Refuted k.board h refl s t2;
    })

-- a rejected proof leaves the open weights as they are
pub kept_rejected : (tree : SplitTree) (worth : ℕ → ℕ) (marks : List Mark) (weights : List ℕ)
    (node : ℕ) (mark : Mark) → AreRowsKept tree worth marks weights → node < size tree →
    mark_at marks node ≡ Open →
    (mark ≡ Refuted → ⊥) → AreRowsKept tree worth (set marks node mark) weights
kept_rejected tree worth marks weights node mark k h e n = record {
  weighed = k.weighed;
  board = rejected_board tree worth marks weights node mark k.board h e n;
}

-- a rejected proof marks no root
pub rejected_root : (tree : SplitTree) (worth : ℕ → ℕ) (marks : List Mark) (weights : List ℕ)
    (node : ℕ) (mark : Mark) → AreRowsKept tree worth marks weights → node < size tree →
    mark_at marks node ≡ Open →
    (mark ≡ Refuted → ⊥) → MarksRoot tree marks (set marks node mark) → ⊥
rejected_root tree worth marks weights node mark k h e n r =
    let same = marked_same (refuted_by marks) (refuted_by (set marks node mark)) 0 tree
    (λ q x y. same_refuted marks node mark (omega (arith, k.board.long)) e n q) in
    let both : true ≡ false = sym r.is ∙ (same ∙ r.was) in
    absurd (cc)

-- each node on the way has at least the weight that a new mark takes
pub enough_kept : (tree : SplitTree) (worth : ℕ → ℕ) (marks : List Mark) (old lent : List ℕ)
    (node first : ℕ) → AreRowsKept tree worth marks old → node < size tree → lent ≡ old →
    CoversFrom tree worth (refuted_by marks) node first → (j : ℕ) → first ≤ j → j < length lent →
    HasBelow tree j node →
    get_or lent node 0 ≤ get_or lent j 0
enough_kept tree worth marks old lent node first k h e s =
    rw e (enough tree worth (refuted_by marks) node first old k.board.are_open s h)

-- ---- the root

pub root_is : (tree : SplitTree) (worth : ℕ → ℕ) (marks : List Mark) (weights : List ℕ) (x : ℕ) →
    AreRowsKept tree worth marks weights → x ≡ get_or weights 0 x → x ≡ 0 →
    marked (refuted_by marks) 0 tree ≡ true
root_is tree worth marks weights x k e z =
    let s : 0 < size tree = omega (arith, some_node tree) in
    let r : subtree_at tree 0 ≡ tree = subtree-root tree in
    let read = get_or_read weights 0 x (some_row tree worth marks weights k.board) e 0 in
    rw r at (zero_marked tree worth marks weights 0 k.weighed k.board s (sym read ∙ z))

pub root_zero : (tree : SplitTree) (worth : ℕ → ℕ) (marks : List Mark) (weights : List ℕ) (x : ℕ) →
    AreRowsKept tree worth marks weights → x ≡ get_or weights 0 x →
    marked (refuted_by marks) 0 tree ≡ true → x ≡ 0
root_zero tree worth marks weights x k e h =
    let s : 0 < size tree = omega (arith, some_node tree) in
    let r : subtree_at tree 0 ≡ tree = subtree-root tree in
    let read = get_or_read weights 0 x (some_row tree worth marks weights k.board) e 0 in
    read ∙ marked_zero tree worth marks weights 0 k.board s (rw r h)

pub root_was : (tree : SplitTree) (worth : ℕ → ℕ) (marks : List Mark) (weights : List ℕ) (x : ℕ) →
    AreRowsKept tree worth marks weights → x ≡ get_or weights 0 x → 0 < x →
    marked (refuted_by marks) 0 tree ≡ false
root_was tree worth marks weights x k e h = elim (cases_Bool (marked (refuted_by marks) 0 tree)) [
  | inl is_marked ↦ let z = root_zero tree worth marks weights x k e is_marked in
      absurd (omega arith)
  | inr not_marked ↦ not_marked
]

-- whether a post marked the root, by the numbers of the root before and after
pub root_then : (tree : SplitTree) (worth : ℕ → ℕ) (marks : List Mark) (old new : List ℕ)
    (node x y : ℕ) (b : Bool) → AreRowsKept tree worth marks old →
    AreRowsKept tree worth (set marks node Refuted) new → x ≡ get_or old 0 x → 0 < x →
    y ≡ get_or new 0 y → b ≡ (y == 0) → (b ≡ true) ↔ MarksRoot tree marks (set marks node Refuted)
root_then tree worth marks old new node x y b k l e h f g = (
  λ t. let z : y ≡ 0 = grind (arith, nat_tests, sym g ∙ t) in record {
    was = root_was tree worth marks old x k e h;
    is = root_is tree worth (set marks node Refuted) new y l f z;
  },
  λ r. let z : y ≡ 0 = root_zero tree worth (set marks node Refuted) new y l f r.is in
      g ∙ test_same y 0 z,
)

-- where nothing is open before it, a refutation marks no root
pub root_else : (tree : SplitTree) (worth : ℕ → ℕ) (marks : List Mark) (old : List ℕ) (node x : ℕ)
    (b : Bool) → AreRowsKept tree worth marks old → x ≡ get_or old 0 x → x ≤ 0 → b ≡ nat_lt 0 x →
    (b ≡ true) ↔ MarksRoot tree marks (set marks node Refuted)
root_else tree worth marks old node x b k e h g =
    let z : x ≡ 0 = omega arith in
    let marked_before = root_is tree worth marks old x k e z in (
      λ t. let u : true ≡ false = sym t ∙ (g ∙ rw z refl) in absurd (cc),
      λ r. let u : true ≡ false = sym marked_before ∙ r.was in absurd (cc),
    )

-- the rows of a board are read at a node or at the root
pub kept_marked : (tree : SplitTree) (worth : ℕ → ℕ) (marks : List Mark) (weights : List ℕ)
    (node x : ℕ) → AreRowsKept tree worth marks weights → node < size tree →
    x ≡ get_or weights node 0 → (x == 0) ≡ marked (refuted_by marks) node (subtree_at tree node)
kept_marked tree worth marks weights node x k h e =
    zero_is (marked (refuted_by marks) node (subtree_at tree node)) x
    (λ z. zero_marked tree worth marks weights node k.weighed k.board h (sym e ∙ z))
    (λ m. e ∙ marked_zero tree worth marks weights node k.board h m)

-- the first number of a board is its open weight
pub kept_open : (tree : SplitTree) (worth : ℕ → ℕ) (marks : List Mark) (weights : List ℕ) (x : ℕ) →
    AreRowsKept tree worth marks weights →
    x ≡ get_or weights 0 0 → x ≡ open_weight worth (refuted_by marks) 0 tree
kept_open tree worth marks weights x k e =
    let r : subtree_at tree 0 ≡ tree = subtree-root tree in
    let s : 0 < size tree = omega (arith, some_node tree) in
    e ∙ rw r at (k.board.are_open.is 0 s)

-- a board has a row
pub kept_some : (tree : SplitTree) (worth : ℕ → ℕ) (marks : List Mark) (weights : List ℕ) →
    AreRowsKept tree worth marks weights → 0 < length weights
kept_some tree worth marks weights k = some_row tree worth marks weights k.board
