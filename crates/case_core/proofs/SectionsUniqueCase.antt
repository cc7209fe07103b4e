-- A bundle stands for one case at most, and then has no fault.
use Rattle.std.proofs.Common.{◌≡◌, ◌≢◌, ℕ, suc, ◌+◌, List, [], ◌∷◌, ◌++◌, length, refl, sym, ◌∙◌}
use Rattle.std.proofs.Common.{ap, subst, arith, length-append, Option, None, Some, Result, Ok, Err}
use Rattle.std.specs.Prelude.{IfOk, IfErr, MatchResult}
use Rattle.std.specs.Result.{IsErrAnd}
use Rattle.std.proofs.lemmas.List.{get_or_append_left, get_or_at}
use Rattle.cnf_text.specs.Icnf.{Item, clauses_of, cubes_of}
use Rattle.cnf_text.proofs.IcnfUnique.{one_text, no_text_fault}
use Rattle.split_tree.specs.Clash as clash
use Rattle.split_tree.specs.declared.clash.TreeFault.{TreeFault}
use Rattle.split_tree.specs.declared.clash.TreeFault.TheVariants as kind
use Rattle.split_tree.specs.SplitTree.{SplitTree, numbered, IsTreeOf}
use Rattle.split_tree.proofs.NavigationPaths.{one_node}
use Rattle.split_tree.proofs.SplitTreeUnique.{tree_unique}
use Rattle.split_tree.proofs.ClashFits.{all_fit, tree_fits}
use Rattle.split_tree.specs.declared.node.Target.{Target}
use Rattle.split_tree.specs.declared.node.Target.TheVariants.{Node}
use Rattle.case_core.specs.declared.fault.CaseFault.{CaseFault}
use Rattle.case_core.specs.declared.fault.CaseFault.TheVariants as faults
use Rattle.case_core.specs.Bundle.{Labelled, icnf_text, labels_of}
use Rattle.case_core.specs.Label.{Name, CubeName, MissingName, PathName, IsNamed, IsTargetOf}
use Rattle.case_core.specs.Case.{SectionOf, CaseOf, AreSections, section_at, same_target, proof_for}
use Rattle.case_core.specs.Sections.{IsSectionOf, AreLabelled, AreSectionsOf, LabelFaultAt}
use Rattle.case_core.specs.Sections.{IsCaseOf, IsFaultOf, InText, InCubes, InLabels}
use Rattle.case_core.proofs.CaseTables.{none_from}

-- ---- a name is of one target

named_once : (tree : SplitTree) (name : Name) (a b : Target) → IsNamed tree name a →
    IsNamed tree name b → a ≡ b
named_once tree (CubeName k) a b x y = x.0 ∙ sym y.0
named_once tree (MissingName k) a b x y = x.0 ∙ sym y.0
named_once tree (PathName path) a b x y =
    x.1 ∙ ap Node (one_node tree x.0 y.0 x.2.0 y.2.0 (x.2.2 ∙ sym y.2.2)) ∙ sym y.1

same_name : (a b : Name) → Some a ≡ Some b → a ≡ b
same_name a b e = cc

target_once : (tree : SplitTree) (name : Option Name) (a b : Target) → IsTargetOf tree name a →
    IsTargetOf tree name b → a ≡ b
target_once tree name a b x y =
    named_once tree y.value a b
    (subst (λ (n : Name). IsNamed tree n a) (same_name x.value y.value (sym x.is ∙ y.is)) x.named)
    y.named

same_section : (a b : SectionOf) → a.target ≡ b.target → a.proof ≡ b.proof → a ≡ b
same_section a b t p = λ i. record { target = t i; proof = p i }

section_once : (tree : SplitTree) (label : Labelled) (a b : SectionOf) → IsSectionOf tree label a →
    IsSectionOf tree label b → a ≡ b
section_once tree label a b x y =
    same_section a b (target_once tree _ a.target b.target x.target y.target)
    (x.proof ∙ sym y.proof)

join : (a b : SectionOf) (x y : List SectionOf) → a ≡ b → x ≡ y → a ∷ x ≡ b ∷ y
join a b x y e f = cc

-- label lines have one list of sections at most
pub sections_once : (tree : SplitTree) (labels : List Labelled) (a b : List SectionOf) →
    AreLabelled tree labels a → AreLabelled tree labels b → a ≡ b
sections_once tree [] [] [] x y = refl
sections_once tree [] [] (s ∷ b) x y = absurd y
sections_once tree [] (s ∷ a) b x y = absurd x
sections_once tree (l ∷ labels) [] b x y = absurd x
sections_once tree (l ∷ labels) (s ∷ a) [] x y = absurd y
sections_once tree (l ∷ labels) (s ∷ a) (t ∷ b) x y =
    join s t a b (section_once tree l s t x.0 y.0) (sections_once tree labels a b x.1 y.1)

-- ---- sections that go on past a label line

record GoesPast (tree : SplitTree) (label : Labelled) (front all : List SectionOf) : Type 0 where
  pub section : SectionOf
  pub rest : List SectionOf
  pub parts : all ≡ front ++ section ∷ rest
  pub is : IsSectionOf tree label section

push_past : (tree : SplitTree) (label : Labelled) (s f : SectionOf) (front all : List SectionOf) →
    s ≡ f → GoesPast tree label front all → GoesPast tree label (f ∷ front) (s ∷ all)
push_past tree label s f front all e g =
    record {
      section = g.section;
      rest = g.rest;
      parts = join s f all (front ++ g.section ∷ g.rest) e g.parts;
      is = g.is;
    }

goes_past : (tree : SplitTree) (before : List Labelled) (label : Labelled) (after : List Labelled)
    (front all : List SectionOf) → AreLabelled tree (before ++ label ∷ after) all →
    AreLabelled tree before front
    → GoesPast tree label front all
goes_past tree [] label after [] [] h k = absurd h
goes_past tree [] label after [] (s ∷ all) h k =
    record { section = s; rest = all; parts = refl; is = h.0 }
goes_past tree [] label after (f ∷ front) all h k = absurd k
goes_past tree (b ∷ before) label after front [] h k = absurd h
goes_past tree (b ∷ before) label after [] (s ∷ all) h k = absurd k
goes_past tree (b ∷ before) label after (f ∷ front) (s ∷ all) h k =
    push_past tree label s f front all (section_once tree b s f h.0 k.0)
    (goes_past tree before label after front all h.1 k.1)

-- a name that is there isn't missing
pub some_is : (name : Option Name) (value : Name) → name ≡ Some value → name ≡ None → ⊥
some_is name value a b = let e : Some value ≡ None = sym a ∙ b in cc

no_earlier : (tree : SplitTree) (front rest : List SectionOf) (section : SectionOf) →
    AreSections tree (front ++ section ∷ rest) → proof_for front section.target ≡ None
no_earlier tree front rest section apart =
    none_from front section.target (λ j l.
    let long : length (front ++ section ∷ rest) ≡ length front + suc (length rest) =
    length-append front (section ∷ rest) in
    let here : section_at (front ++ section ∷ rest) (length front) ≡ section =
    get_or_at front section rest _ (length front) refl in
    let there : section_at (front ++ section ∷ rest) j ≡ section_at front j =
    get_or_append_left front (section ∷ rest) _ j l in
    let off = (apart (length front) (omega arith)).1 j l in
    ap (λ (t : Target). same_target (section_at front j).target t)
    (sym (ap (λ (s : SectionOf). s.target) here))
    ∙ ap (λ (s : SectionOf).
    same_target s.target (section_at (front ++ section ∷ rest) (length front)).target) (sym there)
    ∙ off)

not_broken : (tree : SplitTree) (front rest : List SectionOf) (label : Labelled)
    (section : SectionOf) (fault : CaseFault) → LabelFaultAt tree front label fault →
    IsSectionOf tree label section
    → AreSections tree (front ++ section ∷ rest) → ⊥
not_broken tree front rest label section (faults.BadLabel line) h s apart =
    some_is _ s.target.value s.target.is h.1
not_broken tree front rest label section (faults.NoSuchLeaf line) h s apart =
    h.2 section.target s.target
not_broken tree front rest label section (faults.ProofTwice line) h s apart =
    h.1.2 (ap (proof_for front) (target_once tree _ h.1.0 section.target h.1.1 s.target)
    ∙ no_earlier tree front rest section apart)
not_broken tree front rest label section faults.Header h s apart = h
not_broken tree front rest label section (faults.Token line) h s apart = h
not_broken tree front rest label section faults.Unfinished h s apart = h
not_broken tree front rest label section (faults.TooLarge line) h s apart = h
not_broken tree front rest label section faults.Limit h s apart = h
not_broken tree front rest label section faults.Memory h s apart = h
not_broken tree front rest label section (faults.Repeats cube) h s apart = h
not_broken tree front rest label section (faults.NotATree first second) h s apart = h
not_broken tree front rest label section (faults.Overlap first second) h s apart = h

-- no sections go on past a label line that is refused
pub none_past : (tree : SplitTree) (before : List Labelled) (label : Labelled)
    (after : List Labelled) (front all : List SectionOf) (fault : CaseFault) →
    AreSectionsOf tree (before ++ label ∷ after) all
    → AreSectionsOf tree before front → LabelFaultAt tree front label fault → ⊥
none_past tree before label after front all fault h k broken =
    let g = goes_past tree before label after front all h.labelled k.labelled in
    not_broken tree front g.rest label g.section fault broken g.is
    (subst (λ (s : List SectionOf). AreSections tree s) g.parts h.apart)

-- ---- the case

no_clash_kind : (cubes : List _) (i j : ℕ) (k : _) → clash.AllFit cubes →
    clash.IsClash cubes i j k → ⊥
no_clash_kind cubes i j k all c = c.clashes (sym c.is_kind ∙ all.fit i j c.ordered c.within)

-- cubes that all fit have no fault by a clash
pub no_clash : (cubes : List _) (fault : TreeFault) → clash.AllFit cubes →
    clash.IsClashFault cubes fault → ⊥
no_clash cubes (kind.Repeats second) all f = no_clash_kind cubes f.1 f.0 _ all f.3
no_clash cubes (kind.NotATree first second) all f = no_clash_kind cubes f.0 f.1 _ all f.4
no_clash cubes (kind.Overlap first second) all f = no_clash_kind cubes f.0 f.1 _ all f.4
no_clash cubes kind.Memory all f = f

-- items whose cubes have a tree have cubes that fit
pub fits : (items : List Item) (tree : SplitTree) → IsTreeOf tree (numbered 1 (cubes_of items)) →
    clash.AllFit (cubes_of items)
fits items tree is = all_fit 1 (cubes_of items) (tree_fits tree (numbered 1 (cubes_of items)) is)

same_case : (a b : CaseOf) → a.formula ≡ b.formula → a.tree ≡ b.tree → a.sections ≡ b.sections →
    a ≡ b
same_case a b f t s = λ i. record { formula = f i; tree = t i; sections = s i }

-- the cubes of the same items have one tree
pub one_tree : (items others : List Item) (a b : SplitTree) → items ≡ others →
    IsTreeOf a (numbered 1 (cubes_of items)) → IsTreeOf b (numbered 1 (cubes_of others)) → a ≡ b
one_tree items others a b e x y =
    tree_unique a b (numbered 1 (cubes_of others))
    (subst (λ (i : List Item). IsTreeOf a (numbered 1 (cubes_of i))) e x) y

-- a bundle stands for one case at most
pub one_case : (bundle : List ℕ) (a b : CaseOf) → IsCaseOf bundle a → IsCaseOf bundle b → a ≡ b
one_case bundle a b x y =
    let items : x.items ≡ y.items = one_text (icnf_text bundle) x.items y.items x.text y.text in
    let tree : a.tree ≡ b.tree = one_tree x.items y.items a.tree b.tree items x.tree y.tree in
    same_case a b (x.formula ∙ ap (λ i. clauses_of i) items ∙ sym y.formula) tree
    (sections_once b.tree (labels_of bundle) a.sections b.sections
    (subst (λ (t : SplitTree). AreLabelled t (labels_of bundle) a.sections) tree
    x.sections.labelled) y.sections.labelled)

-- no bundle has both a case and a fault
pub case_or_fault : (bundle : List ℕ) (case : CaseOf) (fault : CaseFault) → IsCaseOf bundle case →
    IsFaultOf bundle fault → ⊥
case_or_fault bundle case fault x (InText text e f) =
    no_text_fault (icnf_text bundle) text x.items x.text f
case_or_fault bundle case fault x (InCubes items k e stands clashes) =
    let same : x.items ≡ items = one_text (icnf_text bundle) x.items items x.text stands in
    no_clash (cubes_of x.items) k (fits x.items case.tree x.tree)
    (subst (λ (i : List Item). clash.IsClashFault (cubes_of i) k) (sym same) clashes)
case_or_fault bundle case fault x (InLabels items tree stands is f) =
    let same : x.items ≡ items = one_text (icnf_text bundle) x.items items x.text stands in
    let one : case.tree ≡ tree = one_tree x.items items case.tree tree same x.tree is in
    none_past tree f.before f.label f.after f.sections case.sections fault
    (subst (λ (l : List Labelled). AreSectionsOf tree l case.sections) f.parts
    (subst (λ (t : SplitTree). AreSectionsOf t (labels_of bundle) case.sections) one x.sections))
    f.so_far f.broken

is_memory : (fault : CaseFault) → (fault ≢ faults.Memory → ⊥) → fault ≡ faults.Memory
is_memory faults.Memory h = refl
is_memory faults.Header h = absurd (h (λ e. cc))
is_memory (faults.Token line) h = absurd (h (λ e. cc))
is_memory faults.Unfinished h = absurd (h (λ e. cc))
is_memory (faults.TooLarge line) h = absurd (h (λ e. cc))
is_memory faults.Limit h = absurd (h (λ e. cc))
is_memory (faults.Repeats cube) h = absurd (h (λ e. cc))
is_memory (faults.NotATree first second) h = absurd (h (λ e. cc))
is_memory (faults.Overlap first second) h = absurd (h (λ e. cc))
is_memory (faults.BadLabel line) h = absurd (h (λ e. cc))
is_memory (faults.NoSuchLeaf line) h = absurd (h (λ e. cc))
is_memory (faults.ProofTwice line) h = absurd (h (λ e. cc))

-- a bundle of a case is read as it, unless memory runs out
pub read_only : (r : Result CaseOf CaseFault) (bundle : List ℕ) → IfOk r (IsCaseOf bundle) →
    IfErr r (λ fault. fault ≢ faults.Memory → IsFaultOf bundle fault)
    → (case : CaseOf) → IsCaseOf bundle case →
    MatchResult r (λ read. read ≡ case) (λ fault. fault ≡ faults.Memory)
read_only (Ok read) bundle ok err case is = one_case bundle read case ok is
read_only (Err fault) bundle ok err case is =
    is_memory fault (λ other. case_or_fault bundle case fault is (err other))

-- ---- the fault that is handed on

-- a result's fault that is this one has what this one has
pub handed_on : {X : Type 0} (r : Result X CaseFault) (P : CaseFault → Type 0) (fault : CaseFault) →
    IsErrAnd r (λ e. e ≡ fault) → P fault → IfErr r P
handed_on (Ok x) P fault h p = tt
handed_on (Err e) P fault h p = subst P (sym h) p
