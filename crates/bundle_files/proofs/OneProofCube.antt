-- The bundle of a formula's file and of the cube without a literal: its tree is cube 1 alone, it
-- has no section, and its faults are those of the bundle with a proof behind it.
use Rattle.std.proofs.Common.{◌≡◌, ◌∙◌, sym, ap, refl, subst, ℕ, List, [], ◌∷◌, ◌++◌, map}
use Rattle.std.proofs.Common.{codes, append_assoc, Option, None, Some, inl, inr, false}
use Rattle.std.proofs.lemmas.List.{map-append}
use Rattle.case_core.specs.Literal.{Literal}
use Rattle.case_core.specs.Numbers.{decimal, digits_value, number_of}
use Rattle.case_core.specs.Tokens.{Token, all_tokens, line_tokens, lines_from, token_lines}
use Rattle.case_core.specs.Tokens.{is_comment}
use Rattle.case_core.specs.Tokens.{is_blank, words}
use Rattle.case_core.specs.Icnf.{Item, ClauseItem, CubeItem, Symbol, CubeMark, EndMark, StandsFor}
use Rattle.case_core.specs.Icnf.{after_header, cubes_of, spelled, spelling, symbol_of, symbols_of}
use Rattle.case_core.specs.Dimacs.{IsDimacs}
use Rattle.case_core.specs.Problem as code
use Rattle.case_core.specs.Bundle.{Labelled, icnf_text, is_label, labelled, labels_of, lines_of}
use Rattle.case_core.specs.Case.{CaseOf, SectionOf, proof_for}
use Rattle.case_core.specs.Sections.{AreLabelled, InCubes, InLabels, InText, IsCaseOf, IsFaultOf}
use Rattle.case_core.specs.SplitTree.{SplitTree, missing, cube, split, IsTreeOf, Numbered, numbered}
use Rattle.case_core.specs.Target.{Target}
use Rattle.case_core.specs.declared.fault.CaseFault.{CaseFault}
use Rattle.case_core.proofs.BundleMore.{lines_more}
use Rattle.case_core.proofs.DimacsFormula.{clauses_as_symbols}
use Rattle.case_core.proofs.IcnfUnique.{one_spelling}
use Rattle.cube_report.specs.Fault.{Fault}
use Rattle.cube_report.specs.Device.{GrewBy}
use Rattle.file_store.specs.Files.{Held, IsTextAt, may_lie_at}
use Rattle.bundle_files.specs.Formula.{HasCount, HasOtherCount, IsBundleBy, IsFormulaFront}
use Rattle.bundle_files.specs.Formula.{IsOverwritten}
use Rattle.bundle_files.specs.Formula.{IsFormulaFault}
use Rattle.bundle_files.specs.Judging.{IsRefusedWithEach, one_cube_text}
use Rattle.bundle_files.specs.Inner.WhileRead.{IsFrontFault}
use Rattle.bundle_files.proofs.FormulaPlain.{plain_labels, plain_more}
use Rattle.bundle_files.proofs.FormulaReading.{bundle_read, count_refused, over_end}
use Rattle.bundle_files.proofs.FormulaText.{bundle_tokens, over_plain, some_tokens}
use Rattle.bundle_files.proofs.LawsFormula.{items_with_section, section_keeps_items}
use Rattle.bundle_files.proofs.LawsFormula.{text_fault_with_section}

-- ---- the cube without a literal

abbrev pub cube_text : List ℕ
cube_text = codes "a 0"

cube_plain : is_label cube_text ≡ false
unfolding is_label words is_blank
cube_plain = refl

cube_symbols : (n : ℕ)
    → symbols_of (all_tokens (lines_from n (lines_of (icnf_text cube_text))))
    ≡ CubeMark ∷ EndMark ∷ []
unfolding line_tokens is_comment words is_blank is_label number_of decimal digits_value
cube_symbols n = refl

-- it has no header
no_header : after_header (token_lines 1 (icnf_text cube_text)) ≡ None
unfolding token_lines line_tokens is_comment words is_blank is_label
no_header = refl

-- ---- the items

spelled_front : (formula : List (List Literal)) (more : List Item)
    → spelled (map ClauseItem formula ++ more) ≡ spelled (map ClauseItem formula) ++ spelled more
spelled_front [] more = refl
spelled_front (clause ∷ formula) more =
    ap (λ (s : List Symbol). spelling (ClauseItem clause) ++ s) (spelled_front formula more)
    ∙ sym (append_assoc (spelling (ClauseItem clause)) (spelled (map ClauseItem formula))
    (spelled more))

cubes_front : (formula : List (List Literal)) (more : List Item)
    → cubes_of (map ClauseItem formula ++ more) ≡ cubes_of more
cubes_front [] more = refl
cubes_front (clause ∷ formula) more = cubes_front formula more

-- below a formula it is the only cube
only_cube : (text over : List ℕ) (formula : List (List Literal)) (items : List Item)
    → IsDimacs text formula → IsOverwritten text over
    → StandsFor (icnf_text (over ++ 10 ∷ cube_text)) items → cubes_of items ≡ [] ∷ []
only_cube text over formula items is made stands =
    let found = bundle_tokens text over cube_text formula is made in
    let others = all_tokens (lines_from found.0 (lines_of (icnf_text cube_text))) in
    let one : List Item = CubeItem [] ∷ [] in
    let same : spelled items ≡ spelled (map ClauseItem formula ++ one) =
    sym stands.2.0
    ∙ ap symbols_of (some_tokens _ _ (sym stands.1 ∙ found.1))
    ∙ map-append (λ (t : Token). symbol_of t.bytes) is.has.tokens others
    ∙ ap (λ (s : List Symbol). s ++ symbols_of others)
    (clauses_as_symbols is.has.tokens formula is.has.written)
    ∙ ap (λ (s : List Symbol). spelled (map ClauseItem formula) ++ s) (cube_symbols found.0)
    ∙ sym (spelled_front formula one) in
    ap cubes_of (one_spelling items (map ClauseItem formula ++ one) same)
    ∙ cubes_front formula one

-- ---- the tree, and the sections

abbrev first_number : List Numbered → ℕ
first_number [] = 0
first_number (c ∷ cubes) = c.number

tree_of_one : (tree : SplitTree) → IsTreeOf tree (numbered 1 ([] ∷ [])) → tree ≡ cube 1
tree_of_one missing is = absurd (cc)
tree_of_one (cube k) is = ap cube (sym (ap first_number is))
tree_of_one (split v positive negative) is = absurd is.1.0

no_section : (tree : SplitTree) (labels : List Labelled) (sections : List SectionOf)
    (target : Target) → labels ≡ [] → AreLabelled tree labels sections
    → proof_for sections target ≡ None
no_section tree [] [] target none are = refl
no_section tree [] (section ∷ sections) target none are = absurd are
no_section tree (label ∷ labels) sections target none are = absurd (cc)

-- what stands before the bundle's own text, and that cube
module _ (has : List ℕ → List ℕ → Type 0) (formula : Option (List ℕ)) (said : Option code.Problem)
    (front bundle : List ℕ) (is : IsFormulaFront has formula said front)
    (whole : bundle ≡ front ++ cube_text) where
  pub no_labels : labels_of bundle ≡ []
  no_labels = labels formula said is
    where
      labels : (formula : Option (List ℕ)) (said : Option code.Problem)
          → IsFormulaFront has formula said front → labels_of bundle ≡ []
      labels None None begun =
          ap labels_of (whole ∙ ap (λ (f : List ℕ). f ++ cube_text) begun)
          ∙ plain_labels 1 (lines_of cube_text) (cube_plain, tt)
      labels None (Some other) begun = absurd begun
      labels (Some path) None begun = absurd begun
      labels (Some path) (Some other) (over, read, ends) =
          ap labels_of (over_end over front cube_text bundle ends whole)
          ∙ ap (labelled 1) (lines_more over cube_text)
          ∙ plain_labels 1 (lines_of over ++ lines_of cube_text)
          (plain_more (lines_of over) (lines_of cube_text)
          (over_plain read.text over read.formula read.dimacs read.overwritten) (cube_plain, tt))

  pub one_tree : (case : CaseOf) → IsCaseOf bundle case → case.tree ≡ cube 1
  one_tree case of = tree formula said is
    where
      tree : (formula : Option (List ℕ)) (said : Option code.Problem)
          → IsFormulaFront has formula said front → case.tree ≡ cube 1
      tree None None begun =
          let there : bundle ≡ cube_text = whole ∙ ap (λ (f : List ℕ). f ++ cube_text) begun in
          let some : None ≡ Some of.text.0 =
          sym no_header
          ∙ ap (λ (t : List ℕ). after_header (token_lines 1 (icnf_text t))) (sym there)
          ∙ of.text.1 in absurd (cc)
      tree None (Some other) begun = absurd begun
      tree (Some path) None begun = absurd begun
      tree (Some path) (Some other) (over, read, ends) =
          tree_of_one case.tree
          (subst (λ (c : List (List Literal)). IsTreeOf case.tree (numbered 1 c))
          (only_cube read.text over read.formula of.items read.dimacs read.overwritten
          (subst (λ (t : List ℕ). StandsFor (icnf_text t) of.items)
          (over_end over front cube_text bundle ends whole) of.text)) of.tree)

  pub no_proof : (case : CaseOf) (target : Target) → IsCaseOf bundle case
      → proof_for case.sections target ≡ None
  no_proof case target of =
      no_section case.tree (labels_of bundle) case.sections target no_labels of.sections.labelled

-- ---- the bundle with a proof

no_more_labels : (before after : List Labelled) (label : Labelled) → [] ≡ before ++ label ∷ after
    → ⊥
no_more_labels [] after label is = cc
no_more_labels (other ∷ before) after label is = cc

-- a bundle without a label line has the faults that it has with a section
fault_with_section : (bundle rest : List ℕ) (kind : CaseFault) → labels_of bundle ≡ []
    → IsFaultOf bundle kind → IsFaultOf (bundle ++ 10 ∷ 108 ∷ 32 ∷ rest) kind
fault_with_section bundle rest kind none (InText text same is) =
    InText text same (text_fault_with_section bundle rest text is)
fault_with_section bundle rest kind none (InCubes items clash same stands is) =
    InCubes items clash same (items_with_section bundle rest items stands) is
fault_with_section bundle rest kind none (InLabels items tree stands of label) =
    absurd (no_more_labels label.before label.after label.label (sym none ∙ label.parts))

count_with_section : (said : Option code.Problem) (bundle rest : List ℕ) → HasCount said bundle
    → HasCount said (bundle ++ 10 ∷ 108 ∷ 32 ∷ rest)
count_with_section None bundle rest counted = tt
count_with_section (Some said) bundle rest counted = λ items stands.
    counted items (section_keeps_items bundle rest items stands)

other_with_section : (said : Option code.Problem) (bundle rest : List ℕ) (fault : Fault)
    → HasOtherCount said bundle fault
    → HasOtherCount said (bundle ++ 10 ∷ 108 ∷ 32 ∷ rest) fault
other_with_section None bundle rest fault other = absurd other
other_with_section (Some said) bundle rest fault other =
    (other.0, items_with_section bundle rest other.0 other.1, other.2, other.3)

-- the bundle grew by the cube and the proof
with_proof : (has : List ℕ → List ℕ → Type 0) (front bundle proof : List ℕ)
    → bundle ≡ front ++ cube_text
    → GrewBy (IsTextAt has None (Some (one_cube_text proof))) front
    (bundle ++ (codes "\nl 1\n" ++ proof))
with_proof has front bundle proof whole = (
  one_cube_text proof,
  refl,
  ap (λ (t : List ℕ). t ++ (codes "\nl 1\n" ++ proof)) whole
      ∙ append_assoc front cube_text (codes "\nl 1\n" ++ proof),
)

-- its fault is one with each proof
pub refused_with_each : (held : Held) (formula : Option (List ℕ)) (said : Option code.Problem)
    (front bundle : List ℕ) (fault : Fault) → IsFormulaFront (may_lie_at held) formula said front
    → bundle ≡ front ++ cube_text → IsFrontFault said bundle fault
    → IsRefusedWithEach held formula fault
refused_with_each held formula said front bundle fault is whole (inl (first, counted)) = λ proof.
    let rest = 49 ∷ 10 ∷ proof in
    inl (
      bundle ++ (codes "\nl 1\n" ++ proof),
      bundle_read (may_lie_at held) formula said front (bundle ++ (codes "\nl 1\n" ++ proof)) None
          (Some (one_cube_text proof)) is (with_proof (may_lie_at held) front bundle proof whole)
          (count_with_section said bundle rest counted),
      (
        first.0,
        first.1,
        fault_with_section bundle rest first.0
            (no_labels (may_lie_at held) formula said front bundle is whole) first.2,
      ),
    )
refused_with_each held formula said front bundle fault is whole (inr other) = λ proof.
    inr (count_refused held formula said front (bundle ++ (codes "\nl 1\n" ++ proof)) None
    (Some (one_cube_text proof)) fault is (with_proof (may_lie_at held) front bundle proof whole)
    (other_with_section said bundle (49 ∷ 10 ∷ proof) fault other))

-- and that of the file is one
pub file_refused : (held : Held) (formula : Option (List ℕ)) (fault : Fault)
    → ((file input : Option (List ℕ)) → IsFormulaFault held formula file input fault)
    → IsRefusedWithEach held formula fault
file_refused held formula fault is = λ proof. inr (is None (Some (one_cube_text proof)))

-- the bundle, where it has as many clauses as is said
pub one_read : (has : List ℕ → List ℕ → Type 0) (formula : Option (List ℕ))
    (said : Option code.Problem) (front bundle : List ℕ) → IsFormulaFront has formula said front
    → bundle ≡ front ++ cube_text → HasCount said bundle
    → IsBundleBy has formula None (Some cube_text) bundle
one_read has formula said front bundle is whole counted =
    bundle_read has formula said front bundle None (Some cube_text) is (cube_text, refl, whole)
    counted
