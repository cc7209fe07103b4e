-- A bundle of whole lines that goes on with a label line and a section.
use Rattle.std.proofs.Common.{◌≡◌, ◌≢◌, ◌∙◌, sym, ap, subst, refl, ℕ, ◌+◌, List, [], ◌∷◌}
use Rattle.std.proofs.Common.{◌++◌, inl, inr, length, arith, length-append, None, Some}
use Rattle.std.specs.Prelude.{count_by}
use Rattle.std.proofs.lemmas.List.Splits.{length-slice_split, slice_split_at}
use Rattle.cnf_text.specs.Tokens.{is_line_end, words}
use Rattle.split_tree.specs.Leaves.{HasTarget}
use Rattle.split_tree.specs.declared.node.Target.{Target}
use Rattle.case_core.specs.Bundle.{Labelled, icnf_text, labelled, labels_of, lines_of}
use Rattle.case_core.specs.Bundle.{text_before}
use Rattle.case_core.specs.Case.{CaseOf, proof_for}
use Rattle.case_core.specs.Label.{IsNamed, IsTargetOf, Name, label_name}
use Rattle.case_core.specs.Bundle.{AreWholeLines}
use Rattle.case_core.specs.Labelled.{IsBehindLabel}
use Rattle.case_core.specs.Sections.{IsCaseOf, IsFaultOf, LabelFaultAt}
use Rattle.case_core.specs.Sections.{InLabels}
use Rattle.case_core.specs.declared.fault.CaseFault.{CaseFault}
use Rattle.case_core.specs.declared.fault.CaseFault.TheVariants as faults
use Rattle.case_core.specs.declared.label.LabelFault.{LabelFault}
use Rattle.case_core.specs.declared.label.LabelFault.TheVariants as label
use Rattle.case_core.specs.Finding.{HasSection}
use Rattle.case_core.specs.Inner.Bundle.{HasNoLabel, at_line}
use Rattle.case_core.specs.Inner.Label.{NamesNone, told}
use Rattle.case_core.proofs.CaseTables.{sections_more}
use Rattle.case_core.proofs.LabelFirst.{plain_of}
use Rattle.case_core.proofs.BundleLines.{before_label, first_no_end}
use Rattle.case_core.proofs.BundleLines.{labels_label, plain_text, Whole, whole_lines}
use Rattle.case_core.proofs.SectionsReading.{labelled_more}

-- ---- a label line and what stands below it

-- its lines
record Below (text line section : List ℕ) : Type 0 where
  pub below : List (List ℕ)
  pub lines : lines_of text ≡ line ∷ below
  pub none : HasNoLabel section → (number : ℕ) → labelled number below ≡ []
  pub before : HasNoLabel section → text_before below ≡ section

lines_below : (text line section : List ℕ) → IsBehindLabel text line section →
    Below text line section
lines_below text line section is = elim is.parts [
  | inl whole ↦ record {
    below = lines_of section;
    lines =
        ap lines_of whole
        ∙ slice_split_at is_line_end line 10 section (first_no_end line line [] is.alone) refl;
    none = λ plain number. plain number;
    before = λ plain. plain_text 1 section (plain 1);
  }
  | inr last ↦ record {
    below = [];
    lines = ap lines_of last.0 ∙ is.alone;
    none = λ plain number. refl;
    before = λ plain. sym last.1;
  }
]

some_name : (name : Name) → Some name ≡ None → ⊥
some_name name e = cc

same_name : (one other : Name) → Some one ≡ Some other → one ≡ other
same_name one other e = cc

-- ---- behind whole lines

module _ (done text line section : List ℕ) (whole : AreWholeLines done)
    (is : IsBehindLabel text line section) where
  at : Whole done
  at = whole_lines done whole

  below : Below text line section
  below = lines_below text line section is

  lines_are : lines_of (done ++ text) ≡ at.base ++ line ∷ below.below
  lines_are =
      at.more text ∙ ap (λ (l : List (List ℕ)). at.base ++ l) below.lines

  pub icnf_same : icnf_text (done ++ text) ≡ icnf_text done
  icnf_same =
      ap text_before lines_are ∙ before_label at.base line below.below is.is
      ∙ ap text_before (sym at.lines)

  first_labelled : (number : ℕ) → labelled number (line ∷ below.below)
      ≡ at_line number line (text_before below.below) ∷ labelled (number + 1) below.below
  first_labelled number = rw is.is refl

  labels_are : labels_of (done ++ text)
      ≡ labels_of done ++ at_line (1 + length at.base) line (text_before below.below)
      ∷ labelled ((1 + length at.base) + 1) below.below
  labels_are =
      ap (labelled 1) lines_are ∙ labels_label 1 at.base line below.below is.is
      ∙ ap (λ (l : List (List ℕ)). labelled 1 l
      ++ labelled (1 + length at.base) (line ∷ below.below)) (sym at.lines)
      ∙ ap (λ (l : List Labelled). labels_of done ++ l) (first_labelled (1 + length at.base))

  one_label : HasNoLabel section → labels_of (done ++ text)
      ≡ labels_of done ++ at_line (1 + length at.base) line section ∷ []
  one_label plain =
      labels_are
      ∙ ap (λ (l : List Labelled). labels_of done
      ++ at_line (1 + length at.base) line (text_before below.below) ∷ l)
      (below.none plain ((1 + length at.base) + 1))
      ∙ ap (λ (t : List ℕ). labels_of done ++ at_line (1 + length at.base) line t ∷ [])
      (below.before plain)

  -- the bundle stands for a case with one section more
  pub one_more : (case : CaseOf) (target : Target) → IsCaseOf done case → labels_of section ≡ []
      → IsTargetOf case.tree (label_name (words line)) target → HasTarget case.tree target
      → proof_for case.sections target ≡ None
      → IsCaseOf (done ++ text) (record {
        formula = case.formula;
        tree = case.tree;
        sections = case.sections ++ record { target = target; proof = section } ∷ [];
      })
  one_more case target of plain named has free = record {
    items = of.items;
    text = rw icnf_same of.text;
    formula = of.formula;
    tree = of.tree;
    sections = rw (one_label (plain_of section plain)) (record {
      labelled =
          labelled_more case.tree (labels_of done) case.sections
          (at_line (1 + length at.base) line section)
          (record { target = target; proof = section }) of.sections.labelled
          (record { target = named; proof = refl });
      apart =
          sections_more case.tree case.sections (record { target = target; proof = section })
          of.sections.apart has free;
    });
  }

  -- the number of the label line
  line_number : 1 + length at.base ≡ count_by is_line_end done + 1
  line_number =
      let all : length (lines_of done) ≡ count_by is_line_end done + 1 =
      length-slice_split is_line_end done in
      let parts : length (lines_of done) ≡ length (at.base ++ [] ∷ []) = ap length at.lines in
      let sum : length (at.base ++ [] ∷ []) ≡ length at.base + 1 =
      length-append at.base ([] ∷ []) in
      omega (arith, all, parts, sum)

  -- with a faulty label line that is the bundle's fault
  fault_here : (case : CaseOf) (fault : CaseFault) → IsCaseOf done case
      → LabelFaultAt case.tree case.sections
      (at_line (1 + length at.base) line (text_before below.below)) fault
      → IsFaultOf (done ++ text) fault
  fault_here case fault of broken =
      InLabels of.items case.tree (rw icnf_same of.text) of.tree (record {
        before = labels_of done;
        label = at_line (1 + length at.base) line (text_before below.below);
        after = labelled ((1 + length at.base) + 1) below.below;
        parts = labels_are;
        sections = case.sections;
        so_far = of.sections;
        broken = broken;
      })

  -- it names nothing in the tree
  pub fault_named : (case : CaseOf) (kind : LabelFault) (number : ℕ) (fault : CaseFault)
      → IsCaseOf done case → number ≡ count_by is_line_end done + 1
      → NamesNone case.tree (label_name (words line)) kind → fault ≡ told kind number
      → fault ≢ faults.Memory → IsFaultOf (done ++ text) fault
  fault_named case label.BadForm number fault of counted names is_told some =
      rw is_told (fault_here case (faults.BadLabel number) of (counted ∙ sym line_number, names))
  fault_named case label.NoSuchTarget number fault of counted names is_told some =
      rw is_told (fault_here case (faults.NoSuchLeaf number) of (
        counted ∙ sym line_number,
        λ none. some_name names.0 (sym names.1 ∙ none),
        λ target named. names.2 target
            (subst (λ (name : Name). IsNamed case.tree name target)
            (same_name named.value names.0 (sym named.is ∙ names.1)) named.named),
      ))
  fault_named case label.Twice number fault of counted names is_told some = absurd names
  fault_named case label.Memory number fault of counted names is_told some =
      absurd (some is_told)

  -- its target has a section
  pub fault_twice : (case : CaseOf) (target : Target) (number : ℕ) → IsCaseOf done case
      → number ≡ count_by is_line_end done + 1
      → IsTargetOf case.tree (label_name (words line)) target → HasSection case target
      → IsFaultOf (done ++ text) (faults.ProofTwice number)
  fault_twice case target number of counted named has =
      fault_here case (faults.ProofTwice number) of
      (counted ∙ sym line_number, (target, named, has))
