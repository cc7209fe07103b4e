-- What was given for the targets of a bundle's sections, in the place of its own proofs: each below
-- the label line that the bundle has for the target.
use Rattle.std.proofs.Common.{◌≡◌, ◌∙◌, sym, refl, subst, ℕ, suc, ◌+◌, ◌<◌, true, false}
use Rattle.std.proofs.Common.{List, [], ◌∷◌, ◌++◌, append_assoc, append-nil, length, arith}
use Rattle.std.proofs.Common.{Option, None, Some, inl, inr}
use Rattle.std.specs.List.{AllByRecursion}
use Rattle.std.proofs.lemmas.Bool.{cases_Bool}
use Rattle.std.proofs.lemmas.List.Splits.{slice_split_none}
use Rattle.case_core.specs.Tokens.{is_line_end, words}
use Rattle.case_core.specs.SplitTree.{SplitTree}
use Rattle.case_core.specs.Leaves.{HasTarget, IsTargetAt}
use Rattle.case_core.specs.Target.{Target}
use Rattle.case_core.specs.Bundle.{lines_of, is_label, labelled}
use Rattle.case_core.specs.Label.{label_name, IsTargetOf}
use Rattle.case_core.specs.Case.{CaseOf, SectionOf, AreSections, section_at, proof_for, same_target}
use Rattle.case_core.specs.Sections.{IsCaseOf, AreLabelled}
use Rattle.case_core.proofs.CaseTables.{same_target-true}
use Rattle.case_core.proofs.BundleLines.{HaveNoEnds}
use Rattle.mark_board.specs.declared.mark.Mark.{Mark}
use Rattle.mark_board.specs.Marking.{mark_at}
use Rattle.mark_board.specs.Findings.{IsMarkOf}
use Rattle.proof_folder.specs.Added.{HasNoLabelLine, section_of, IsCaseWith}
use Rattle.proof_folder.specs.Given.{AreFoundApart, IsJudgedAs}
use Rattle.proof_folder.proofs.AddedCase.{almost_free, one_more, none_added, then_added}
use Rattle.proof_folder.proofs.AddedMarks.{proof_second, findings_without_line_ends}
use Rattle.proof_folder.proofs.GivenCase.{free_behind}
use Rattle.proof_folder.proofs.GivenFound.{all_given, is_given}
use Rattle.proof_folder.proofs.GivenLeaves.{HasCubes, past_one, at_one, swapped}

-- ---- the label lines of sections

-- each section has a line of its own, which is a label line and names its target
abbrev pub AreNamedBy : SplitTree → List (List ℕ) → List SectionOf → Type 0
AreNamedBy tree [] [] = Unit {0}
AreNamedBy tree (line ∷ lines) (section ∷ sections) =
    (is_label line ≡ true) × (lines_of line ≡ line ∷ [])
    × IsTargetOf tree (label_name (words line)) section.target
    × AreNamedBy tree lines sections
AreNamedBy tree [] (section ∷ sections) = ⊥
AreNamedBy tree (line ∷ lines) [] = ⊥

pub named_by : (tree : SplitTree) (number : ℕ) (lines : List (List ℕ)) (sections : List SectionOf) →
    HaveNoEnds lines → AreLabelled tree (labelled number lines) sections
    → (own : List (List ℕ)) × AreNamedBy tree own sections
named_by tree number [] [] ends are = ([], tt)
named_by tree number [] (section ∷ sections) ends are = absurd are
named_by tree number (line ∷ lines) [] ends are = ([], tt)
named_by tree number (line ∷ lines) (section ∷ sections) ends are =
    elim (cases_Bool (is_label line)) [
      | inl is ↦
          let here = rw is at are in
          let below = named_by tree (number + 1) lines sections ends.1 here.1 in (
            line ∷ below.0,
            (is, slice_split_none is_line_end line ends.0, here.0.target, below.1),
          )
      | inr other ↦
          named_by tree (number + 1) lines (section ∷ sections) ends.1 (rw other at are)
    ]

-- no two of them have one target, and the tree has each
abbrev pub AreApart : List SectionOf → Type 0
AreApart [] = Unit {0}
AreApart (section ∷ sections) =
    AllByRecursion (λ other. same_target section.target other.target ≡ false) sections
    × AreApart sections

all_other : (target : Target) (sections : List SectionOf)
    → ((i : ℕ) → i < length sections → same_target target (section_at sections i).target ≡ false)
    → AllByRecursion (λ other. same_target target other.target ≡ false) sections
all_other target [] other = tt
all_other target (section ∷ sections) other =
    (other 0 (omega arith), all_other target sections (λ i l. other (suc i) (omega arith)))

apart_and_there : (tree : SplitTree) (sections : List SectionOf) → AreSections tree sections
    → AreApart sections × AllByRecursion (λ section. HasTarget tree section.target) sections
apart_and_there tree [] are = (tt, tt)
apart_and_there tree (section ∷ sections) are =
    let below =
    apart_and_there tree sections
    (λ i l. (
      (are (suc i) (omega arith)).0,
      λ j h. (are (suc i) (omega arith)).1 (suc j) (omega arith),
    ))
    in (
      (
        all_other section.target sections
            (λ i l. (are (suc i) (omega arith)).1 0 (omega arith)),
        below.0,
      ),
      ((are 0 (omega arith)).0, below.1),
    )

-- what is given for a target, below its line
abbrev pub placed : List ℕ → Option (List ℕ) → List ℕ
placed line None = []
placed line (Some proof) = 10 ∷ (line ++ 10 ∷ proof)

module _ (given : Target → Option (List ℕ)) where
  abbrev pub texts_below : List (List ℕ) → List SectionOf → List ℕ
  texts_below [] sections = []
  texts_below (line ∷ lines) [] = []
  texts_below (line ∷ lines) (section ∷ sections) =
      placed line (given section.target) ++ texts_below lines sections

  -- with the same targets, the sections that are given
  abbrev pub given_below : List SectionOf → List SectionOf
  given_below [] = []
  given_below (section ∷ sections) =
      section_of section.target (given section.target) ++ given_below sections

  -- what is given for their targets is plain
  abbrev pub ArePlain : List SectionOf → Type 0
  ArePlain sections =
      AllByRecursion (λ section. (text : List ℕ) → given section.target ≡ Some text
      → HasNoLabelLine text) sections

  -- their targets have no section among others
  abbrev AreFree : List SectionOf → List SectionOf → Type 0
  AreFree others sections =
      AllByRecursion (λ section. proof_for others section.target ≡ None) sections

  still_free : (others changed : List SectionOf) (target : Target) (proof : Option (List ℕ))
      (sections : List SectionOf)
      → ((t : Target) → proof_for (others ++ section_of target proof) t ≡ None
      → proof_for changed t ≡ None)
      → AllByRecursion (λ other. same_target target other.target ≡ false) sections
      → AreFree others sections → AreFree changed sections
  still_free others changed target proof [] same apart free = tt
  still_free others changed target proof (section ∷ sections) same apart free = (
    same section.target (free_behind section.target target proof others free.0 apart.0),
    still_free others changed target proof sections same apart.1 free.1,
  )

  one_below : (bundle line : List ℕ) (case : CaseOf) (target : Target) (proof : Option (List ℕ))
      → IsCaseOf bundle case → is_label line ≡ true → lines_of line ≡ line ∷ []
      → IsTargetOf case.tree (label_name (words line)) target → HasTarget case.tree target
      → proof_for case.sections target ≡ None
      → ((text : List ℕ) → proof ≡ Some text → HasNoLabelLine text)
      → IsCaseWith (bundle ++ placed line proof) case (section_of target proof)
  one_below bundle line case target None is label one named has free plain =
      subst (λ (t : List ℕ). IsCaseWith t case []) (sym (append-nil bundle))
      (none_added bundle case is)
  one_below bundle line case target (Some proof) is label one named has free plain =
      one_more bundle line proof case target is (record {
        is_one = label;
        one_line = one;
        named = named;
        has = has;
        free = free;
        plain = plain proof refl;
      })

  pub all_below : (tree : SplitTree) (lines : List (List ℕ)) (sections : List SectionOf)
      (bundle : List ℕ) (case : CaseOf) → tree ≡ case.tree → IsCaseOf bundle case
      → AreNamedBy tree lines sections → AreApart sections
      → AllByRecursion (λ section. HasTarget tree section.target) sections
      → ArePlain sections → AreFree case.sections sections
      → IsCaseWith (bundle ++ texts_below lines sections) case (given_below sections)
  all_below tree [] [] bundle case same is named apart there plain free =
      subst (λ (t : List ℕ). IsCaseWith t case []) (sym (append-nil bundle))
      (none_added bundle case is)
  all_below tree [] (section ∷ sections) bundle case same is named apart there plain free =
      absurd named
  all_below tree (line ∷ lines) [] bundle case same is named apart there plain free = absurd named
  all_below tree (line ∷ lines) (section ∷ sections) bundle case same is named apart there plain
      free =
      let target : Target = section.target in
      let here : List ℕ = bundle ++ placed line (given target) in
      let one =
      one_below bundle line case target (given target) is named.0 named.1
      (subst (λ (t : SplitTree). IsTargetOf t (label_name (words line)) target) same named.2)
      (subst (λ (t : SplitTree). HasTarget t target) same there.0) free.0 plain.0 in
      let rest =
      all_below tree lines sections here one.whole (same ∙ sym one.tree) one.is named.3 apart.1
      there.1 plain.1
      (still_free case.sections one.whole.sections target (given target) sections
      (λ t. almost_free (case.sections ++ section_of target (given target)) one.whole.sections t
      one.sections) apart.0 free.1) in
      then_added here case (section_of target (given target)) (given_below sections) one
      (bundle ++ (placed line (given target) ++ texts_below lines sections))
      (subst (λ (t : List ℕ). IsCaseWith t one.whole (given_below sections))
      (append_assoc bundle (placed line (given target)) (texts_below lines sections)) rest)

  -- ---- what is found of them

  none_below : (target : Target) (sections : List SectionOf)
      → AllByRecursion (λ other. same_target target other.target ≡ false) sections
      → proof_for (given_below sections) target ≡ None
  none_below target [] others = refl
  none_below target (section ∷ sections) others =
      past_one target section.target (given section.target) (given_below sections)
      (swapped target section.target others.0)
      ∙ none_below target sections others.1

  -- a target has what is given for it, where nothing is given for one without a section
  pub found_below : (sections : List SectionOf) (target : Target) → AreApart sections
      → (proof_for sections target ≡ None → given target ≡ None)
      → proof_for (given_below sections) target ≡ given target
  found_below [] target apart none = sym (none refl)
  found_below (section ∷ sections) target apart none =
      elim (cases_Bool (same_target section.target target)) [
        | inl same ↦
            subst (λ (t : Target). proof_for (given_below (section ∷ sections)) t ≡ given t)
            (same_target-true section.target target same)
            (at_one section.target (given section.target) (given_below sections)
            (none_below section.target sections apart.0))
        | inr other ↦
            past_one target section.target (given section.target) (given_below sections) other
            ∙ found_below sections target apart.1 (λ free. none (rw other free))
      ]

free_of_bare : (sections : List SectionOf) (target : Target) → sections ≡ [] →
    proof_for sections target ≡ None
free_of_bare sections target bare = rw bare refl

module _ (known : Target → Option (Option (List ℕ))) (case : CaseOf) (marks : List Mark)
    (text : List ℕ) (sections : List SectionOf)
    (is : IsCaseOf text
    (record { formula = case.formula; tree = case.tree; sections = sections }))
    (bare : case.sections ≡ []) (cubes : HasCubes case.tree)
    (unknown : (target : Target) → proof_for sections target ≡ None → known target ≡ Some None)
    (are : AreFoundApart known case marks) where
  abbrev given : Target → Option (List ℕ)
  given = all_given known case marks cubes are

  with_given : (head : List ℕ) → IsCaseOf head case → (lines : List (List ℕ))
      → AreNamedBy case.tree lines sections
      → IsCaseWith (head ++ texts_below given lines sections) case (given_below given sections)
  with_given head begins lines named =
      let parts = apart_and_there case.tree sections is.sections.apart in
      all_below given case.tree lines sections head case refl begins named parts.0 parts.1
      (all_plain sections parts.1) (all_free sections)
    where
      all_plain : (some : List SectionOf)
          → AllByRecursion (λ section. HasTarget case.tree section.target) some
          → ArePlain given some
      all_plain [] there = tt
      all_plain (section ∷ some) there = (
        (is_given known case marks cubes are there.0.0 section.target there.0.1).plain,
        all_plain some there.1,
      )

      all_free : (some : List SectionOf)
          → AllByRecursion (λ section. proof_for case.sections section.target ≡ None) some
      all_free [] = tt
      all_free (section ∷ some) =
          (free_of_bare case.sections section.target bare, all_free some)

  abbrev with_them : CaseOf
  with_them = record {
    formula = case.formula;
    tree = case.tree;
    sections = case.sections ++ given_below given sections;
  }

  each_mark : (node : ℕ) (target : Target) → IsTargetAt case.tree node target →
      IsMarkOf with_them target (mark_at marks node)
  each_mark node target at =
      let mine =
      is_given known case marks cubes are node target at in
      let free : proof_for case.sections target ≡ None =
      free_of_bare case.sections target bare in
      rw (proof_second case.sections (given_below given sections) target free
      ∙ found_below given sections target
      (apart_and_there case.tree sections is.sections.apart).0
      (λ none. rw (unknown target none) at mine.held))
      (mine.mark_is free)

  -- a bundle of the case with all of it as sections stands for one of whose findings these are the
  -- marks
  pub judged_below : (head : List ℕ) → IsCaseOf head case → (lines : List (List ℕ))
      → AreNamedBy case.tree lines sections
      → IsJudgedAs (head ++ texts_below given lines sections) case marks
  judged_below head begins lines named =
      let made = with_given head begins lines named in
      record {
        whole = made.whole;
        is = made.is;
        formula = made.formula;
        tree = made.tree;
        findings =
            findings_without_line_ends case made.whole
            (case.sections ++ given_below given sections) marks made.formula made.tree
            made.sections (record { long = are.long; each = each_mark });
      }
