-- Each bundle stands for a case or has a fault: its text, its cubes, and then label line after
-- label line.
use Rattle.std.proofs.Common.{◌≡◌, ◌≢◌, ◌⊎◌, inl, inr, ⊎_elim, ℕ, zero, suc, ◌+◌, ◌<◌, ◌≤◌, ◌-◌}
use Rattle.std.proofs.Common.{Bool, true, false, List, [], ◌∷◌, ◌++◌, length, get_or, Option, Some}
use Rattle.std.proofs.Common.{None, refl, sym, ◌∙◌, ap, subst, arith, append_assoc}
use Rattle.std.proofs.lemmas.List.{append-nil}
use Rattle.std.proofs.lemmas.Bool.{cases_eq, cases_lt}
use Rattle.cnf_text.specs.Literal.{Literal}
use Rattle.cnf_text.specs.Icnf.{Item, StandsFor, clauses_of, cubes_of}
use Rattle.cnf_text.specs.declared.icnf.TextFault.{TextFault}
use Rattle.cnf_text.specs.declared.icnf.TextFault.TheVariants as text
use Rattle.cnf_text.proofs.IcnfTotal.{items_or_a_fault}
use Rattle.split_tree.specs.SplitTree.{SplitTree, missing, cube, split, size, subtree_at, path_at}
use Rattle.split_tree.specs.SplitTree.{IsSplit, numbered, IsTreeOf}
use Rattle.split_tree.specs.Leaves.{HasTarget, missing_nodes}
use Rattle.split_tree.specs.declared.node.Leaf.TheVariants.{Cube, Missing}
use Rattle.split_tree.specs.declared.node.Target.{Target}
use Rattle.split_tree.specs.declared.node.Target.TheVariants.{Leaf, Node}
use Rattle.split_tree.specs.declared.clash.TreeFault.{TreeFault}
use Rattle.split_tree.specs.declared.clash.TreeFault.TheVariants as clash
use Rattle.split_tree.proofs.ClashFits.{are_fit}
use Rattle.split_tree.proofs.ClashTotal.{all_fit_or_a_clash}
use Rattle.split_tree.proofs.SplitTreeUnique.{literals_of}
use Rattle.split_tree.proofs.SplitTreeExists.{fit_tree}
use Rattle.split_tree.proofs.SplitTreeDepths.{is_split}
use Rattle.case_core.specs.declared.fault.CaseFault.{CaseFault}
use Rattle.case_core.specs.declared.fault.CaseFault.TheVariants as faults
use Rattle.case_core.specs.Bundle.{Labelled, icnf_text, labels_of}
use Rattle.case_core.specs.Case.{SectionOf, CaseOf, proof_for}
use Rattle.case_core.specs.Faults.{of_text, of_clash}
use Rattle.case_core.specs.Label.{Name, CubeName, MissingName, PathName, label_name, IsNamed}
use Rattle.case_core.specs.Sections.{AreSectionsOf, LabelFaultAt, IsLabelFault, IsCaseOf, IsFaultOf}
use Rattle.case_core.specs.Sections.{InText, InCubes, InLabels}
use Rattle.case_core.proofs.CaseTables.{sections_more}
use Rattle.case_core.proofs.SectionsReading.{labelled_more}

-- ---- whether a name names a target of the tree

abbrev Either : Type 0 → Type 0
Either P = P ⊎ (P → ⊥)

module _ (P : ℕ → Type 0) (each : (k : ℕ) → Either (P k)) where
  abbrev FoundBelow : ℕ → Type 0
  FoundBelow n = ((k : ℕ) × (k < n) × P k) ⊎ ((k : ℕ) → k < n → P k → ⊥)

  found_here : (n : ℕ) → ((k : ℕ) → k < n → P k → ⊥) → Either (P n) → FoundBelow (suc n)
  found_here n none (inl holds) = inl (n, omega arith, holds)
  found_here n none (inr fails) =
      inr (λ k l holds.
      ⊎_elim (λ same. fails (subst P same holds)) (λ other. none k (omega arith) holds)
      (cases_eq k n))

  found_below : (n : ℕ) → FoundBelow n
  found_below zero = inr (λ k l holds. absurd (omega arith))
  found_below (suc n) =
      ⊎_elim (λ found. let l = found.1 in inl (found.0, omega arith, found.2))
      (λ none. found_here n none (each n)) (found_below n)

same_number : (k j : ℕ) → Either (cube k ≡ cube j)
same_number k j =
    ⊎_elim (λ same. inl (ap cube same)) (λ other. inr (λ e. let same : k ≡ j = cc in other same))
    (cases_eq k j)

is_cube : (k : ℕ) (tree : SplitTree) → Either (tree ≡ cube k)
is_cube k missing = inr (λ e. cc)
is_cube k (cube j) = same_number j k
is_cube k (split v positive negative) = inr (λ e. cc)

same_sign : (a b : Bool) → Either (a ≡ b)
same_sign true true = inl refl
same_sign false false = inl refl
same_sign true false = inr (λ e. cc)
same_sign false true = inr (λ e. cc)

same_variable : (l m : Literal) → l.variable ≡ m.variable → Either (l.positive ≡ m.positive) →
    Either (l ≡ m)
same_variable l m v (inl p) = inl (λ i. record { variable = v i; positive = p i })
same_variable l m v (inr other) = inr (λ e. other (ap (λ (x : Literal). x.positive) e))

same_literal : (l m : Literal) → Either (l ≡ m)
same_literal l m =
    ⊎_elim (λ v. same_variable l m v (same_sign l.positive m.positive))
    (λ other. inr (λ e. other (ap (λ (x : Literal). x.variable) e)))
    (cases_eq l.variable m.variable)

first_literal : (l m : Literal) (ls ms : List Literal) → l ∷ ls ≡ m ∷ ms → l ≡ m
first_literal l m ls ms e = cc

other_literals : (l m : Literal) (ls ms : List Literal) → l ∷ ls ≡ m ∷ ms → ls ≡ ms
other_literals l m ls ms e = cc

same_front : (l m : Literal) (ls ms : List Literal) → Either (l ≡ m) → Either (ls ≡ ms) →
    Either (l ∷ ls ≡ m ∷ ms)
same_front l m ls ms (inl e) (inl f) = inl (cc)
same_front l m ls ms (inl e) (inr other) = inr (λ f. other (other_literals l m ls ms f))
same_front l m ls ms (inr other) f = inr (λ e. other (first_literal l m ls ms e))

same_path : (ls ms : List Literal) → Either (ls ≡ ms)
same_path [] [] = inl refl
same_path [] (m ∷ ms) = inr (λ e. cc)
same_path (l ∷ ls) [] = inr (λ e. cc)
same_path (l ∷ ls) (m ∷ ms) = same_front l m ls ms (same_literal l m) (same_path ls ms)

both : (P Q : Type 0) → Either P → Either Q → Either (P × Q)
both P Q (inl p) (inl q) = inl (p, q)
both P Q (inl p) (inr other) = inr (λ h. other h.1)
both P Q (inr other) q = inr (λ h. other h.0)

at_least : (a b : ℕ) → Either (a ≤ b)
at_least a b = ⊎_elim (λ less. inr (λ h. omega arith)) (λ more. inl more) (cases_lt b a)

abbrev NamesOneOrNone : SplitTree → Name → Type 0
NamesOneOrNone tree name =
    ((target : Target) × IsNamed tree name target)
    ⊎ ((target : Target) → IsNamed tree name target → ⊥)

cube_name : (tree : SplitTree) (k : ℕ) → NamesOneOrNone tree (CubeName k)
cube_name tree k =
    ⊎_elim (λ found. inl (Leaf (Cube k), (refl, (found.0, (found.1, found.2)))))
    (λ none. inr (λ target named. none named.1.0 named.1.1.0 named.1.1.1))
    (found_below (λ node. subtree_at tree node ≡ cube k) (λ node. is_cube k (subtree_at tree node))
    (size tree))

missing_name : (tree : SplitTree) (j : ℕ) → NamesOneOrNone tree (MissingName j)
missing_name tree j =
    ⊎_elim (λ within.
    inl (
      Leaf (Missing j),
      (refl, (get_or (missing_nodes tree) (j - 1) 0, (within.0, within.1, refl))),
    ))
    (λ not_within. inr (λ target named. not_within (named.1.1.0, named.1.1.1)))
    (both (1 ≤ j) (j ≤ length (missing_nodes tree)) (at_least 1 j)
    (at_least j (length (missing_nodes tree))))

path_name : (tree : SplitTree) (path : List Literal) → NamesOneOrNone tree (PathName path)
path_name tree path =
    ⊎_elim (λ found. inl (Node found.0, (found.0, refl, (found.1, found.2.0, found.2.1))))
    (λ none. inr (λ target named. none named.0 named.2.0 (named.2.1, named.2.2)))
    (found_below (λ node. IsSplit (subtree_at tree node) × (path_at tree node ≡ path))
    (λ node. both (IsSplit (subtree_at tree node)) (path_at tree node ≡ path)
    (is_split (subtree_at tree node)) (same_path (path_at tree node) path)) (size tree))

names : (tree : SplitTree) (name : Name) → NamesOneOrNone tree name
names tree (CubeName k) = cube_name tree k
names tree (MissingName j) = missing_name tree j
names tree (PathName path) = path_name tree path

-- ---- one label line more

has_target : (tree : SplitTree) (name : Name) (target : Target) → IsNamed tree name target →
    HasTarget tree target
has_target tree (CubeName k) target named = subst (HasTarget tree) (sym named.0) named.1
has_target tree (MissingName j) target named = subst (HasTarget tree) (sym named.0) named.1
has_target tree (PathName path) target named =
    subst (HasTarget tree) (sym named.1) (named.0, (refl, named.2.0, named.2.1))

same_name : (a b : Name) → Some a ≡ Some b → a ≡ b
same_name a b e = cc

module _ (tree : SplitTree) (label : Labelled) where
  -- the sections go on past the label line, or it is refused
  abbrev Goes : List Labelled → List SectionOf → Type 0
  Goes before sections =
      ((section : SectionOf) × AreSectionsOf tree (before ++ label ∷ []) (sections ++ section ∷ []))
      ⊎ ((fault : CaseFault) × (fault ≢ faults.Memory) × LabelFaultAt tree sections label fault)

  go_on : (before : List Labelled) (sections : List SectionOf) (name : Name) (target : Target) →
      AreSectionsOf tree before sections → label_name label.label ≡ Some name →
      IsNamed tree name target → (proof : Option (List ℕ)) → proof_for sections target ≡ proof →
      Goes before sections
  go_on before sections name target so_far is named None none =
      let section : SectionOf = record { target = target; proof = label.section } in
      inl (
        section,
        record {
          labelled =
              labelled_more tree before sections label section so_far.labelled
              (record { target = record { value = name; is = is; named = named }; proof = refl });
          apart =
              sections_more tree sections section so_far.apart (has_target tree name target named)
              none;
        },
      )
  go_on before sections name target so_far is named (Some proof) some =
      inr (
        faults.ProofTwice label.line,
        (λ e. cc),
        (
          refl,
          (
            target,
            record { value = name; is = is; named = named },
            (λ none. let e : Some proof ≡ None = sym some ∙ none in cc),
          ),
        ),
      )

  of_name : (before : List Labelled) (sections : List SectionOf) →
      AreSectionsOf tree before sections → (name : Option Name) → label_name label.label ≡ name →
      Goes before sections
  of_name before sections so_far None is = inr (faults.BadLabel label.line, (λ e. cc), (refl, is))
  of_name before sections so_far (Some name) is =
      ⊎_elim (λ found.
      go_on before sections name found.0 so_far is found.1 (proof_for sections found.0) refl)
      (λ none. inr (
        faults.NoSuchLeaf label.line,
        (λ e. cc),
        (
          refl,
          (λ nothing. let e : Some name ≡ None = sym is ∙ nothing in cc),
          (λ target other.
              none target (subst (λ (n : Name). IsNamed tree n target)
              (same_name other.value name (sym other.is ∙ is)) other.named)),
        ),
      ))
      (names tree name)

  one_label : (before : List Labelled) (sections : List SectionOf) →
      AreSectionsOf tree before sections → Goes before sections
  one_label before sections so_far = of_name before sections so_far (label_name label.label) refl

-- ---- all label lines

abbrev SectionsOrFault : SplitTree → List Labelled → Type 0
SectionsOrFault tree labels =
    ((sections : List SectionOf) × AreSectionsOf tree labels sections)
    ⊎ ((fault : CaseFault) × (fault ≢ faults.Memory) × IsLabelFault tree labels fault)

read_on : (tree : SplitTree) (before left : List Labelled) (sections : List SectionOf) →
    AreSectionsOf tree before sections → SectionsOrFault tree (before ++ left)
read_on tree before [] sections so_far = inl (sections, rw append-nil so_far)
read_on tree before (label ∷ after) sections so_far =
    ⊎_elim (λ more.
    subst (SectionsOrFault tree) (append_assoc before (label ∷ []) after)
    (read_on tree (before ++ label ∷ []) after (sections ++ more.0 ∷ []) more.1))
    (λ refused. inr (
      refused.0,
      refused.1,
      record {
        before = before;
        label = label;
        after = after;
        parts = refl;
        sections = sections;
        so_far = so_far;
        broken = refused.2;
      },
    ))
    (one_label tree label before sections so_far)

no_section : (tree : SplitTree) → AreSectionsOf tree [] []
no_section tree = record { labelled = tt; apart = λ i l. absurd (omega arith) }

-- ---- the bundle

real_text : (fault : TextFault) → fault ≢ text.Memory → of_text fault ≢ faults.Memory
real_text text.Header other e = cc
real_text (text.Token line) other e = cc
real_text text.Unfinished other e = cc
real_text (text.TooLarge line) other e = cc
real_text text.Limit other e = cc
real_text text.Memory other e = other refl

real_clash : (fault : TreeFault) → fault ≢ clash.Memory → of_clash fault ≢ faults.Memory
real_clash (clash.Repeats number) other e = cc
real_clash (clash.NotATree first second) other e = cc
real_clash (clash.Overlap first second) other e = cc
real_clash clash.Memory other e = other refl

abbrev CaseOrFault : List ℕ → Type 0
CaseOrFault bundle =
    ((case : CaseOf) × IsCaseOf bundle case)
    ⊎ ((fault : CaseFault) × (fault ≢ faults.Memory) × IsFaultOf bundle fault)

with_tree : (bundle : List ℕ) (items : List Item) (tree : SplitTree) →
    StandsFor (icnf_text bundle) items → IsTreeOf tree (numbered 1 (cubes_of items)) →
    CaseOrFault bundle
with_tree bundle items tree stands is =
    ⊎_elim (λ read.
    inl (
      record { formula = clauses_of items; tree = tree; sections = read.0 },
      record { items = items; text = stands; formula = refl; tree = is; sections = read.1 },
    ))
    (λ refused. inr (refused.0, refused.1, InLabels items tree stands is refused.2))
    (read_on tree [] (labels_of bundle) [] (no_section tree))

with_items : (bundle : List ℕ) (items : List Item) → StandsFor (icnf_text bundle) items →
    CaseOrFault bundle
with_items bundle items stands =
    ⊎_elim (λ fit.
    let found = fit_tree (literals_of (numbered 1 (cubes_of items)) + 1)
    (numbered 1 (cubes_of items)) (omega arith) (are_fit 1 (cubes_of items) fit) in
    with_tree bundle items found.0 stands found.1)
    (λ refused. inr (
      of_clash refused.0,
      real_clash refused.0 refused.1,
      InCubes items refused.0 refl stands refused.2,
    ))
    (all_fit_or_a_clash (cubes_of items))

-- each bundle stands for a case or has a fault
pub case_or_a_fault : (bundle : List ℕ) →
    ((case : CaseOf) × IsCaseOf bundle case)
    ⊎ ((fault : CaseFault) × (fault ≢ faults.Memory) × IsFaultOf bundle fault)
case_or_a_fault bundle =
    ⊎_elim (λ read. with_items bundle read.0 read.1)
    (λ refused. inr
    (of_text refused.0, real_text refused.0 refused.1, InText refused.0 refl refused.2))
    (items_or_a_fault (icnf_text bundle))
