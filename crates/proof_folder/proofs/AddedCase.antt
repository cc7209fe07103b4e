-- The case of a bundle with sections added.
use Rattle.std.proofs.Common.{◌≡◌, ◌∙◌, sym, ap, refl, ℕ, ◌+◌, ◌<◌, false, List, []}
use Rattle.std.proofs.Common.{◌∷◌, ◌++◌, append_assoc, append-nil, length, arith, subst}
use Rattle.std.proofs.Common.{Option, None, Some, true, zero, suc}
use Rattle.case_core.specs.Tokens.{words}
use Rattle.case_core.specs.SplitTree.{SplitTree}
use Rattle.case_core.specs.Leaves.{HasTarget}
use Rattle.case_core.specs.Target.{Target}
use Rattle.case_core.specs.Bundle.{lines_of, text_before, icnf_text, Labelled, labelled}
use Rattle.case_core.specs.Bundle.{is_label, labels_of}
use Rattle.case_core.specs.Label.{label_name, IsTargetOf}
use Rattle.case_core.specs.Case.{CaseOf, SectionOf, proof_for, section_at, same_target, AreSections}
use Rattle.case_core.specs.Sections.{IsCaseOf, AreLabelled, AreSectionsOf}
use Rattle.case_core.proofs.CaseTables.{sections_more, none_before, none_from}
use Rattle.std.specs.List.{onto_first}
use Rattle.proof_folder.specs.Added.{HasNoLabelLine}
use Rattle.proof_folder.specs.Added.{AreEnds, IsAlmost, AreAlmost, LeafFile, section_text}
use Rattle.proof_folder.specs.Added.{texts_of, section_of, sections_of, MayBeAdded, MayAllBeAdded}
use Rattle.proof_folder.specs.Added.{IsCaseWith}
use Rattle.case_core.proofs.BundleMore.{lines_more}
use Rattle.proof_folder.proofs.AddedLines.{before_label, label_begun, almost_header}
use Rattle.proof_folder.proofs.AddedLabels.{labels_more, sections_almost, labelled_more, plain_text}
use Rattle.proof_folder.proofs.AddedLabels.{LabelsMore, SectionsMore}

-- ---- sections that differ by line ends

pub almost_self : (sections : List SectionOf) → AreAlmost sections sections
almost_self [] = tt
almost_self (section ∷ sections) =
    (refl, ([], tt, sym (append-nil section.proof)), almost_self sections)

pub almost_more : (one other added : List SectionOf) → AreAlmost one other →
    AreAlmost (one ++ added) (other ++ added)
almost_more [] [] added almost = almost_self added
almost_more [] (y ∷ other) added almost = absurd almost
almost_more (x ∷ one) [] added almost = absurd almost
almost_more (x ∷ one) (y ∷ other) added almost =
    (almost.0, almost.1, almost_more one other added almost.2)

almost_long : (one other : List SectionOf) → AreAlmost one other → length other ≡ length one
almost_long [] [] almost = refl
almost_long [] (y ∷ other) almost = absurd almost
almost_long (x ∷ one) [] almost = absurd almost
almost_long (x ∷ one) (y ∷ other) almost =
    let below : length other ≡ length one = almost_long one other almost.2 in omega arith

almost_at : (one other : List SectionOf) → AreAlmost one other → (i : ℕ) →
    (section_at one i).target ≡ (section_at other i).target
almost_at [] [] almost i = refl
almost_at [] (y ∷ other) almost i = absurd almost
almost_at (x ∷ one) [] almost i = absurd almost
almost_at (x ∷ one) (y ∷ other) almost zero = almost.0
almost_at (x ∷ one) (y ∷ other) almost (suc i) = almost_at one other almost.2 i

pub almost_sections : (tree : SplitTree) (one other : List SectionOf) → AreAlmost one other →
    AreSections tree one → AreSections tree other
almost_sections tree one other almost are i l =
    let long : length other ≡ length one = almost_long one other almost in
    let less : i < length one = omega arith in
    subst (λ (t : Target). HasTarget tree t
    × ((j : ℕ) → j < i → same_target (section_at other j).target t ≡ false))
    (almost_at one other almost i) (
      (are i less).0,
      λ j h.
          subst (λ (t : Target). same_target t (section_at one i).target ≡ false)
          (almost_at one other almost j) ((are i less).1 j h),
    )

-- a target without a section has none among sections that differ by line ends
pub almost_free : (one other : List SectionOf) (target : Target) → AreAlmost one other →
    proof_for one target ≡ None → proof_for other target ≡ None
almost_free one other target almost free =
    none_from other target
    (λ j l.
    subst (λ (t : Target). same_target t target ≡ false) (almost_at one other almost j)
    (none_before one target free j
    (let long : length other ≡ length one = almost_long one other almost in omega arith)))

ends_more : (one other : List ℕ) → AreEnds one → AreEnds other → AreEnds (one ++ other)
ends_more [] other are more = more
ends_more (byte ∷ one) other are more = (are.0, ends_more one other are.1 more)

almost_twice : (a b c : List ℕ) → IsAlmost a b → IsAlmost b c → IsAlmost a c
almost_twice a b c one two = (
  one.0 ++ two.0,
  ends_more one.0 two.0 one.1 two.1,
  two.2 ∙ ap (λ (t : List ℕ). t ++ two.0) one.2 ∙ append_assoc a one.0 two.0,
)

pub almost_on : (a b c : List SectionOf) → AreAlmost a b → AreAlmost b c → AreAlmost a c
almost_on [] [] [] one two = tt
almost_on [] [] (z ∷ c) one two = absurd two
almost_on [] (y ∷ b) c one two = absurd one
almost_on (x ∷ a) [] c one two = absurd one
almost_on (x ∷ a) (y ∷ b) [] one two = absurd two
almost_on (x ∷ a) (y ∷ b) (z ∷ c) one two = (
  one.0 ∙ two.0,
  almost_twice x.proof y.proof z.proof one.1 two.1,
  almost_on a b c one.2 two.2,
)

-- ---- one section more

-- a section may be added below a line where the sections are these: it is a label line, which names
-- the target, and the target has no section
pub record MayStandBelow (tree : SplitTree) (sections : List SectionOf) (label : List ℕ)
    (target : Target) (proof : List ℕ) : Type 0 where
  pub is_one : is_label label ≡ true
  pub one_line : lines_of label ≡ label ∷ []
  pub named : IsTargetOf tree (label_name (words label)) target
  pub has : HasTarget tree target
  pub free : proof_for sections target ≡ None
  pub plain : HasNoLabelLine proof

module _ (bundle label proof : List ℕ) (case : CaseOf) (target : Target) (is : IsCaseOf bundle case)
    (may : MayStandBelow case.tree case.sections label target proof) where
  abbrev whole_text : List ℕ
  whole_text = bundle ++ 10 ∷ (label ++ 10 ∷ proof)

  lines : lines_of whole_text ≡ lines_of bundle ++ label ∷ lines_of proof
  lines =
      lines_more bundle (label ++ 10 ∷ proof)
      ∙ ap (λ (l : List (List ℕ)). lines_of bundle ++ l)
      (lines_more label proof
      ∙ ap (λ (l : List (List ℕ)). l ++ lines_of proof) may.one_line)

  more : LabelsMore 1 (lines_of bundle) label (lines_of proof)
  more = labels_more 1 (lines_of bundle) label (lines_of proof) may.is_one

  abbrev last : Labelled
  last = record { line = more.at; label = words label; section = proof }

  labels : labels_of whole_text ≡ more.changed ++ last ∷ []
  labels =
      let plain = plain_text proof (more.at + 1) may.plain in
      ap (labelled 1) lines ∙ more.parts
      ∙ ap (λ (l : List Labelled).
      more.changed
      ++ record { line = more.at; label = words label; section = text_before (lines_of proof) } ∷ l)
      plain.0
      ∙ ap (λ (t : List ℕ).
      more.changed ++ record { line = more.at; label = words label; section = t } ∷ []) plain.1

  sections : SectionsMore case.tree more.changed case.sections
  sections =
      sections_almost case.tree (labels_of bundle) more.changed case.sections more.almost
      is.sections.labelled

  abbrev section : SectionOf
  section = record { target = target; proof = proof }

  are_sections : AreSectionsOf case.tree (labels_of whole_text) (sections.changed ++ section ∷ [])
  are_sections = record {
    labelled =
        subst (λ (l : List Labelled). AreLabelled case.tree l (sections.changed ++ section ∷ []))
        (sym labels)
        (labelled_more case.tree more.changed sections.changed last section sections.labelled
        (record { target = may.named; proof = refl }));
    apart =
        sections_more case.tree sections.changed section
        (almost_sections case.tree case.sections sections.changed sections.almost is.sections.apart)
        may.has
        (almost_free case.sections sections.changed target sections.almost may.free);
  }

  icnf : IsAlmost (icnf_text bundle) (icnf_text whole_text)
  icnf =
      subst (λ (l : List (List ℕ)). IsAlmost (icnf_text bundle) (text_before l)) (sym lines)
      (before_label (lines_of bundle) label (lines_of proof) may.is_one)

  pub one_more : IsCaseWith whole_text case (section ∷ [])
  one_more = record {
    whole = record {
      formula = case.formula;
      tree = case.tree;
      sections = sections.changed ++ section ∷ [];
    };
    is = record {
      items = is.items;
      text = (
        is.text.0,
        almost_header (icnf_text bundle) (icnf_text whole_text) icnf ∙ is.text.1,
        is.text.2,
      );
      formula = is.formula;
      tree = is.tree;
      sections = are_sections;
    };
    formula = refl;
    tree = refl;
    sections = almost_more case.sections sections.changed (section ∷ []) sections.almost;
  }

-- the bundle with a file stands for the case with its section
pub one_added : (bundle name proof : List ℕ) (case : CaseOf) (target : Target)
    → IsCaseOf bundle case → MayBeAdded case.tree case.sections name target proof
    → IsCaseWith (bundle ++ section_text name (Some proof)) case
    (record { target = target; proof = proof } ∷ [])
one_added bundle name proof case target is may =
    subst (λ (t : List ℕ). IsCaseWith t case (record { target = target; proof = proof } ∷ []))
    (ap (λ (t : List ℕ). bundle ++ 10 ∷ 108 ∷ 32 ∷ t) (sym (append_assoc name (10 ∷ []) proof)))
    (one_more bundle (108 ∷ 32 ∷ name) proof case target is (record {
      is_one = label_begun name;
      one_line = ap (λ (l : List (List ℕ)). onto_first 108 (onto_first 32 l)) may.one_line;
      named = may.named;
      has = may.has;
      free = may.free;
      plain = may.plain;
    }))

-- ---- all files

may_almost : (tree : SplitTree) (one other : List SectionOf) (leaves : List LeafFile) →
    AreAlmost one other → MayAllBeAdded tree one leaves → MayAllBeAdded tree other leaves
may_almost tree one other [] almost may = tt
may_almost tree one other (leaf ∷ leaves) almost may = (
  λ proof is. let m = may.0 proof is in record {
    one_line = m.one_line;
    named = m.named;
    has = m.has;
    free = almost_free one other leaf.target almost m.free;
    plain = m.plain;
  },
  may_almost tree (one ++ section_of leaf.target leaf.proof)
      (other ++ section_of leaf.target leaf.proof) leaves
      (almost_more one other (section_of leaf.target leaf.proof) almost) may.1,
)

pub none_added : (bundle : List ℕ) (case : CaseOf) → IsCaseOf bundle case →
    IsCaseWith bundle case []
none_added bundle case is = record {
  whole = case;
  is = is;
  formula = refl;
  tree = refl;
  sections =
      subst (λ (s : List SectionOf). AreAlmost s case.sections) (sym (append-nil case.sections))
      (almost_self case.sections);
}

-- first one file, and then others
pub then_added : (bundle : List ℕ) (case : CaseOf) (first others : List SectionOf)
    (one : IsCaseWith bundle case first) (whole : List ℕ) → IsCaseWith whole one.whole others →
    IsCaseWith whole case (first ++ others)
then_added bundle case first others one whole two = record {
  whole = two.whole;
  is = two.is;
  formula = two.formula ∙ one.formula;
  tree = two.tree ∙ one.tree;
  sections =
      almost_on (case.sections ++ (first ++ others)) (one.whole.sections ++ others)
      two.whole.sections
      (subst (λ (s : List SectionOf). AreAlmost s (one.whole.sections ++ others))
      (append_assoc case.sections first others)
      (almost_more (case.sections ++ first) one.whole.sections others one.sections))
      two.sections;
}

leaf_added : (bundle : List ℕ) (case : CaseOf) (name : List ℕ) (target : Target)
    (proof : Option (List ℕ)) → IsCaseOf bundle case
    → ((text : List ℕ) → proof ≡ Some text → MayBeAdded case.tree case.sections name target text)
    → IsCaseWith (bundle ++ section_text name proof) case (section_of target proof)
leaf_added bundle case name target None is may =
    subst (λ (t : List ℕ). IsCaseWith t case []) (sym (append-nil bundle))
    (none_added bundle case is)
leaf_added bundle case name target (Some proof) is may =
    one_added bundle name proof case target is (may proof refl)

pub all_added : (leaves : List LeafFile) (bundle : List ℕ) (case : CaseOf) → IsCaseOf bundle case →
    MayAllBeAdded case.tree case.sections leaves
    → IsCaseWith (bundle ++ texts_of leaves) case (sections_of leaves)
all_added [] bundle case is may =
    subst (λ (t : List ℕ). IsCaseWith t case []) (sym (append-nil bundle))
    (none_added bundle case is)
all_added (leaf ∷ leaves) bundle case is may =
    let one = leaf_added bundle case leaf.name leaf.target leaf.proof is may.0 in
    let here : List ℕ = bundle ++ section_text leaf.name leaf.proof in
    let rest =
    all_added leaves here one.whole one.is
    (subst (λ (tree : SplitTree). MayAllBeAdded tree one.whole.sections leaves) (sym one.tree)
    (may_almost case.tree (case.sections ++ section_of leaf.target leaf.proof) one.whole.sections
    leaves one.sections may.1)) in
    then_added here case (section_of leaf.target leaf.proof) (sections_of leaves) one
    (bundle ++ (section_text leaf.name leaf.proof ++ texts_of leaves))
    (subst (λ (t : List ℕ). IsCaseWith t one.whole (sections_of leaves))
    (append_assoc bundle (section_text leaf.name leaf.proof) (texts_of leaves)) rest)
