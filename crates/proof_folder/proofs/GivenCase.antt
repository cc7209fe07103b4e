-- The case of a bundle with the sections of the proofs that are given for leaves.
use Rattle.std.proofs.Common.{◌≡◌, ◌≢◌, ◌∙◌, ◌<◌, ◌^◌, refl, ℕ, false, List, [], ◌∷◌}
use Rattle.std.proofs.Common.{◌++◌, map, Option, None, Some}
use Rattle.std.specs.List.{AllByRecursion}
use Rattle.case_core.specs.Bundle.{labels_of}
use Rattle.case_core.specs.SplitTree.{SplitTree}
use Rattle.case_core.specs.Leaf.{Leaf}
use Rattle.case_core.specs.Leaves.{HasLeaf}
use Rattle.case_core.specs.Target.{Target}
use Rattle.case_core.specs.Target.TheVariants.{Leaf as Named}
use Rattle.case_core.specs.Case.{CaseOf, SectionOf, proof_for, same_target}
use Rattle.case_core.specs.Finding.{HasSection}
use Rattle.case_core.specs.Sections.{IsCaseOf}
use Rattle.case_core.proofs.CaseTables.{proof_added}
use Rattle.proof_folder.specs.Added.{AreAlmost, IsCaseWith, MayAllBeAdded, section_of}
use Rattle.proof_folder.specs.Added.{section_text, sections_of, texts_of}
use Rattle.proof_folder.specs.Given.{Given, file_of, files_of, leaves_of, MayBeGiven, HasFewLeaves}
use Rattle.proof_folder.specs.Given.{leaf_number, name_of}
use Rattle.proof_folder.proofs.AddedCase.{all_added, one_added}
use Rattle.proof_folder.proofs.AddedMarks.{AlmostTexts, almost_for, proof_second}
use Rattle.proof_folder.proofs.GivenNames.{one_line, leaf_named}
use Rattle.proof_folder.proofs.GivenLeaves.{HasCubes, IsOfTree, IsOther, AreOthers, leaves_of_tree}
use Rattle.proof_folder.proofs.GivenLeaves.{leaves_are_others}

pub free_behind : (target other : Target) (proof : Option (List ℕ)) (sections : List SectionOf) →
    proof_for sections target ≡ None → same_target other target ≡ false
    → proof_for (sections ++ section_of other proof) target ≡ None
free_behind target other proof sections free apart =
    proof_second sections (section_of other proof) target free ∙ alone proof
  where
    alone : (proof : Option (List ℕ)) → proof_for (section_of other proof) target ≡ None
    alone None = refl
    alone (Some text) = rw apart refl

module _ (case : CaseOf) (given : Given) (may : MayBeGiven case given) where
  abbrev IsFree : List SectionOf → Leaf → Type 0
  IsFree sections leaf = (text : List ℕ) → given leaf ≡ Some text →
      proof_for sections (Named leaf) ≡ None

  all_free : (leaves : List Leaf) → AllByRecursion (IsOfTree case.tree) leaves →
      AllByRecursion (IsFree case.sections) leaves
  all_free [] of_tree = tt
  all_free (leaf ∷ leaves) of_tree =
      (λ text is. may.free leaf text of_tree.0.0 is, all_free leaves of_tree.1)

  still_free : (sections : List SectionOf) (leaf : Leaf) (leaves : List Leaf) →
      AllByRecursion (IsOther leaf) leaves → AllByRecursion (IsFree sections) leaves
      → AllByRecursion (IsFree (sections ++ section_of (Named leaf) (given leaf))) leaves
  still_free sections leaf [] others free = tt
  still_free sections leaf (x ∷ leaves) others free = (
    λ text is. free_behind (Named x) (Named leaf) (given leaf) sections (free.0 text is) others.0,
    still_free sections leaf leaves others.1 free.1,
  )

  all_may : (sections : List SectionOf) (leaves : List Leaf) →
      AllByRecursion (IsOfTree case.tree) leaves → AreOthers leaves
      → AllByRecursion (IsFree sections) leaves
      → MayAllBeAdded case.tree sections (map (file_of given) leaves)
  all_may sections [] of_tree others free = tt
  all_may sections (leaf ∷ leaves) of_tree others free = (
    λ text is. record {
      one_line = one_line leaf of_tree.0.1;
      named = leaf_named case.tree leaf of_tree.0.1 of_tree.0.0;
      has = of_tree.0.0;
      free = free.0 text is;
      plain = may.plain leaf text of_tree.0.0 is;
    },
    all_may (sections ++ section_of (Named leaf) (given leaf)) leaves of_tree.1 others.1
        (still_free sections leaf leaves others.0 free.1),
  )

  pub given_make_a_case : (bundle : List ℕ) → HasCubes case.tree → HasFewLeaves case.tree →
      IsCaseOf bundle case
      → IsCaseWith (bundle ++ texts_of (files_of given case.tree)) case
      (sections_of (files_of given case.tree))
  given_make_a_case bundle cubes few is =
      let of_tree = leaves_of_tree case.tree cubes few in
      all_added (files_of given case.tree) bundle case is
      (all_may case.sections (leaves_of case.tree) of_tree (leaves_are_others case.tree)
      (all_free (leaves_of case.tree) of_tree))

-- ---- the proof of one leaf

-- the text stands for a case with that tree, in which the target has a section
pub record IsCaseWhere (text : List ℕ) (tree : SplitTree) (target : Target) : Type 0 where
  pub whole : CaseOf
  pub is : IsCaseOf text whole
  pub tree_is : whole.tree ≡ tree
  pub has : HasSection whole target

still_has : (one other : List SectionOf) (target : Target) (text : List ℕ) → AreAlmost one other
    → proof_for one target ≡ Some text → proof_for other target ≢ None
still_has one other target text almost some none =
    let texts : AlmostTexts (proof_for one target) (proof_for other target) =
    almost_for one other target almost in rw (some, none) at texts

pub leaf_given : (bundle proof : List ℕ) (case : CaseOf) (leaf : Leaf) → IsCaseOf bundle case
    → leaf_number leaf < 2 ^ 64 → HasLeaf case.tree leaf
    → proof_for case.sections (Named leaf) ≡ None → labels_of proof ≡ []
    → IsCaseWhere (bundle ++ section_text (name_of leaf) (Some proof)) case.tree (Named leaf)
leaf_given bundle proof case leaf is few has free plain =
    let section : SectionOf = record { target = Named leaf; proof = proof } in
    let made =
    one_added bundle (name_of leaf) proof case (Named leaf) is (record {
      one_line = one_line leaf few;
      named = leaf_named case.tree leaf few has;
      has = has;
      free = free;
      plain = plain;
    }) in record {
      whole = made.whole;
      is = made.is;
      tree_is = made.tree;
      has =
          still_has (case.sections ++ section ∷ []) made.whole.sections (Named leaf) proof
          made.sections (proof_added case.sections section free);
    }
