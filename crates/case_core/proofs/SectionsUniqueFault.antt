-- A bundle has one fault at most.
use Rattle.std.proofs.Common.{◌≡◌, ℕ, ◌+◌, ◌<◌, List, sym, ◌∙◌, ap, subst, arith, inl, inr}
use Rattle.std.proofs.lemmas.Bool.{cases_eq}
use Rattle.cnf_text.specs.Literal.{Literal}
use Rattle.cnf_text.specs.Icnf.{Item, cubes_of}
use Rattle.cnf_text.proofs.IcnfUnique.{one_text, one_text_fault, no_text_fault}
use Rattle.split_tree.specs.Clash as clash
use Rattle.split_tree.specs.declared.clash.Relation.{Relation}
use Rattle.split_tree.specs.declared.clash.Relation.TheVariants.{Equal, Prefix, Unrelated}
use Rattle.split_tree.specs.declared.clash.TreeFault.{TreeFault}
use Rattle.split_tree.specs.declared.clash.TreeFault.TheVariants as kind
use Rattle.split_tree.specs.SplitTree.{SplitTree, numbered, IsTreeOf}
use Rattle.case_core.specs.declared.fault.CaseFault.{CaseFault}
use Rattle.case_core.specs.declared.fault.CaseFault.TheVariants as faults
use Rattle.case_core.specs.Faults.{of_text, of_clash}
use Rattle.case_core.specs.Bundle.{Labelled, icnf_text, labels_of}
use Rattle.case_core.specs.Case.{SectionOf}
use Rattle.case_core.specs.Sections.{AreSectionsOf, LabelFaultAt, IsLabelFault, IsFaultOf, InText}
use Rattle.case_core.specs.Sections.{InCubes, InLabels}
use Rattle.case_core.proofs.SectionsUniqueCase.{sections_once, some_is, none_past, no_clash, fits}
use Rattle.case_core.proofs.SectionsUniqueCase.{one_tree}
use Rattle.cnf_text.proofs.ListPlaces.{Places, Same, Earlier, Later, places}

-- ---- the clash of cubes

no_earlier : (cubes : List (List Literal)) (i j m n : ℕ) (k l : Relation) →
    clash.IsClash cubes i j k → clash.IsClash cubes m n l → j < n → ⊥
no_earlier cubes i j m n k l c d less =
    c.clashes (sym c.is_kind ∙ d.least_second i j c.ordered less)

second_once : (cubes : List (List Literal)) (i j m n : ℕ) (k l : Relation) →
    clash.IsClash cubes i j k → clash.IsClash cubes m n l → j ≡ n
second_once cubes i j m n k l c d = elim (cases_eq j n) [
  | inl h ↦ h
  | inr other ↦
      let up : j < n → ⊥ = no_earlier cubes i j m n k l c d in
      let down : n < j → ⊥ = no_earlier cubes m n i j l k d c in omega (arith, up, down)
]

no_lesser : (cubes : List (List Literal)) (i m j : ℕ) (k l : Relation) → clash.IsClash cubes i j k →
    clash.IsClash cubes m j l → i < m → ⊥
no_lesser cubes i m j k l c d less = c.clashes (sym c.is_kind ∙ d.least_first i less)

first_once : (cubes : List (List Literal)) (i m j : ℕ) (k l : Relation) →
    clash.IsClash cubes i j k → clash.IsClash cubes m j l → i ≡ m
first_once cubes i m j k l c d = elim (cases_eq i m) [
  | inl h ↦ h
  | inr other ↦
      let up : i < m → ⊥ = no_lesser cubes i m j k l c d in
      let down : m < i → ⊥ = no_lesser cubes m i j l k d c in omega (arith, up, down)
]

pub record SameClash (i m j n : ℕ) (k l : Relation) : Type 0 where
  pub first : i ≡ m
  pub second : j ≡ n
  pub kind : k ≡ l

clash_once : (cubes : List (List Literal)) (i j m n : ℕ) (k l : Relation) →
    clash.IsClash cubes i j k → clash.IsClash cubes m n l → SameClash i m j n k l
clash_once cubes i j m n k l c d =
    let s = second_once cubes i j m n k l c d in
    let e : clash.IsClash cubes m j l = subst (λ (b : ℕ). clash.IsClash cubes m b l) (sym s) d in
    let f = first_once cubes i m j k l c e in record {
      first = f;
      second = s;
      kind =
          sym c.is_kind
          ∙ ap (λ a. clash.relation_of (clash.cube_at cubes a) (clash.cube_at cubes j)) f
          ∙ e.is_kind;
    }

two : (a b x y : ℕ) → a ≡ x + 1 → b ≡ y + 1 → x ≡ y → a ≡ b
two a b x y p q e = p ∙ ap (λ n. n + 1) e ∙ sym q

one_clash : (cubes : List (List Literal)) (a b : TreeFault) → clash.IsClashFault cubes a →
    clash.IsClashFault cubes b → a ≡ b
one_clash cubes (kind.Repeats x) (kind.Repeats y) p q =
    let s = clash_once cubes p.1 p.0 q.1 q.0 Equal Equal p.3 q.3 in
    ap (λ n. kind.Repeats n) (two x y p.0 q.0 p.2 q.2 s.second)
one_clash cubes (kind.NotATree x y) (kind.NotATree v w) p q =
    let s = clash_once cubes p.0 p.1 q.0 q.1 Unrelated Unrelated p.4 q.4 in
    ap (λ n. kind.NotATree n y) (two x v p.0 q.0 p.2 q.2 s.first)
    ∙ ap (λ n. kind.NotATree v n) (two y w p.1 q.1 p.3 q.3 s.second)
one_clash cubes (kind.Overlap x y) (kind.Overlap v w) p q =
    let s = clash_once cubes p.0 p.1 q.0 q.1 Prefix Prefix p.4 q.4 in
    ap (λ n. kind.Overlap n y) (two x v p.0 q.0 p.2 q.2 s.first)
    ∙ ap (λ n. kind.Overlap v n) (two y w p.1 q.1 p.3 q.3 s.second)
one_clash cubes (kind.Repeats x) (kind.NotATree v w) p q =
    let s = clash_once cubes p.1 p.0 q.0 q.1 Equal Unrelated p.3 q.4 in
    let e : Equal ≡ Unrelated = s.kind in cc
one_clash cubes (kind.Repeats x) (kind.Overlap v w) p q =
    let s = clash_once cubes p.1 p.0 q.0 q.1 Equal Prefix p.3 q.4 in
    let e : Equal ≡ Prefix = s.kind in cc
one_clash cubes (kind.NotATree x y) (kind.Repeats v) p q =
    let s = clash_once cubes p.0 p.1 q.1 q.0 Unrelated Equal p.4 q.3 in
    let e : Unrelated ≡ Equal = s.kind in cc
one_clash cubes (kind.NotATree x y) (kind.Overlap v w) p q =
    let s = clash_once cubes p.0 p.1 q.0 q.1 Unrelated Prefix p.4 q.4 in
    let e : Unrelated ≡ Prefix = s.kind in cc
one_clash cubes (kind.Overlap x y) (kind.Repeats v) p q =
    let s = clash_once cubes p.0 p.1 q.1 q.0 Prefix Equal p.4 q.3 in
    let e : Prefix ≡ Equal = s.kind in cc
one_clash cubes (kind.Overlap x y) (kind.NotATree v w) p q =
    let s = clash_once cubes p.0 p.1 q.0 q.1 Prefix Unrelated p.4 q.4 in
    let e : Prefix ≡ Unrelated = s.kind in cc
one_clash cubes a kind.Memory p q = absurd q
one_clash cubes kind.Memory b p q = absurd p

-- ---- the first label line that is refused

one_rule : (tree : SplitTree) (sections : List SectionOf) (label : Labelled) (a b : CaseFault) →
    LabelFaultAt tree sections label a → LabelFaultAt tree sections label b → a ≡ b
one_rule tree sections label (faults.BadLabel x) (faults.BadLabel y) p q =
    ap (λ n. faults.BadLabel n) (p.0 ∙ sym q.0)
one_rule tree sections label (faults.BadLabel x) (faults.NoSuchLeaf y) p q = absurd (q.1 p.1)
one_rule tree sections label (faults.BadLabel x) (faults.ProofTwice y) p q =
    absurd (some_is _ q.1.1.value q.1.1.is p.1)
one_rule tree sections label (faults.NoSuchLeaf x) (faults.BadLabel y) p q = absurd (p.1 q.1)
one_rule tree sections label (faults.NoSuchLeaf x) (faults.NoSuchLeaf y) p q =
    ap (λ n. faults.NoSuchLeaf n) (p.0 ∙ sym q.0)
one_rule tree sections label (faults.NoSuchLeaf x) (faults.ProofTwice y) p q =
    absurd (p.2 q.1.0 q.1.1)
one_rule tree sections label (faults.ProofTwice x) (faults.BadLabel y) p q =
    absurd (some_is _ p.1.1.value p.1.1.is q.1)
one_rule tree sections label (faults.ProofTwice x) (faults.NoSuchLeaf y) p q =
    absurd (q.2 p.1.0 p.1.1)
one_rule tree sections label (faults.ProofTwice x) (faults.ProofTwice y) p q =
    ap (λ n. faults.ProofTwice n) (p.0 ∙ sym q.0)
one_rule tree sections label a faults.Header p q = absurd q
one_rule tree sections label a (faults.Token line) p q = absurd q
one_rule tree sections label a faults.Unfinished p q = absurd q
one_rule tree sections label a (faults.TooLarge line) p q = absurd q
one_rule tree sections label a faults.Limit p q = absurd q
one_rule tree sections label a faults.Memory p q = absurd q
one_rule tree sections label a (faults.Repeats cube) p q = absurd q
one_rule tree sections label a (faults.NotATree first second) p q = absurd q
one_rule tree sections label a (faults.Overlap first second) p q = absurd q
one_rule tree sections label faults.Header b p q = absurd p
one_rule tree sections label (faults.Token line) b p q = absurd p
one_rule tree sections label faults.Unfinished b p q = absurd p
one_rule tree sections label (faults.TooLarge line) b p q = absurd p
one_rule tree sections label faults.Limit b p q = absurd p
one_rule tree sections label faults.Memory b p q = absurd p
one_rule tree sections label (faults.Repeats cube) b p q = absurd p
one_rule tree sections label (faults.NotATree first second) b p q = absurd p
one_rule tree sections label (faults.Overlap first second) b p q = absurd p

at_one_place : (tree : SplitTree) (labels : List Labelled) (a b : CaseFault)
    (f : IsLabelFault tree labels a) (g : IsLabelFault tree labels b) →
    Places f.before g.before f.label g.label → a ≡ b
at_one_place tree labels a b f g (Same p q) =
    let s : f.sections ≡ g.sections =
    sections_once tree g.before f.sections g.sections
    (subst (λ (l : List Labelled). AreSectionsOf tree l f.sections) p f.so_far).labelled
    g.so_far.labelled in
    one_rule tree f.sections f.label a b f.broken (rw (s, q) g.broken)
at_one_place tree labels a b f g (Earlier mid p) =
    absurd (none_past tree f.before f.label mid f.sections g.sections a
    (subst (λ (l : List Labelled). AreSectionsOf tree l g.sections) p g.so_far) f.so_far f.broken)
at_one_place tree labels a b f g (Later mid p) =
    absurd (none_past tree g.before g.label mid g.sections f.sections b
    (subst (λ (l : List Labelled). AreSectionsOf tree l f.sections) p f.so_far) g.so_far g.broken)

one_label_fault : (tree : SplitTree) (labels : List Labelled) (a b : CaseFault) →
    IsLabelFault tree labels a → IsLabelFault tree labels b → a ≡ b
one_label_fault tree labels a b f g =
    at_one_place tree labels a b f g
    (places f.before g.before f.label g.label f.after g.after (sym f.parts ∙ g.parts))

-- ---- the fault of a bundle

clash_or_tree : (items others : List Item) (tree : SplitTree) (k : TreeFault) → items ≡ others →
    clash.IsClashFault (cubes_of items) k → IsTreeOf tree (numbered 1 (cubes_of others)) → ⊥
clash_or_tree items others tree k e f is =
    no_clash (cubes_of others) k (fits others tree is)
    (subst (λ (i : List Item). clash.IsClashFault (cubes_of i) k) e f)

-- a bundle has one fault at most
pub one_fault : (bundle : List ℕ) (a b : CaseFault) → IsFaultOf bundle a → IsFaultOf bundle b →
    a ≡ b
one_fault bundle a b (InText x e f) (InText y d g) =
    e ∙ ap of_text (one_text_fault (icnf_text bundle) x y f g) ∙ sym d
one_fault bundle a b (InText x e f) (InCubes items k d stands g) =
    absurd (no_text_fault (icnf_text bundle) x items stands f)
one_fault bundle a b (InText x e f) (InLabels items tree stands is g) =
    absurd (no_text_fault (icnf_text bundle) x items stands f)
one_fault bundle a b (InCubes items k d stands g) (InText x e f) =
    absurd (no_text_fault (icnf_text bundle) x items stands f)
one_fault bundle a b (InLabels items tree stands is g) (InText x e f) =
    absurd (no_text_fault (icnf_text bundle) x items stands f)
one_fault bundle a b (InCubes items k e stands f) (InCubes others l d there g) =
    let same : items ≡ others = one_text (icnf_text bundle) items others stands there in
    e
    ∙ ap of_clash
    (one_clash (cubes_of others) k l
    (subst (λ (i : List Item). clash.IsClashFault (cubes_of i) k) same f) g) ∙ sym d
one_fault bundle a b (InCubes items k e stands f) (InLabels others tree there is g) =
    absurd (clash_or_tree items others tree k
    (one_text (icnf_text bundle) items others stands there) f is)
one_fault bundle a b (InLabels others tree there is g) (InCubes items k e stands f) =
    absurd (clash_or_tree items others tree k
    (one_text (icnf_text bundle) items others stands there) f is)
one_fault bundle a b (InLabels items tree stands is f) (InLabels others second there isnt g) =
    let same : items ≡ others = one_text (icnf_text bundle) items others stands there in
    let one : tree ≡ second = one_tree items others tree second same is isnt in
    one_label_fault second (labels_of bundle) a b
    (subst (λ (t : SplitTree). IsLabelFault t (labels_of bundle) a) one f) g
