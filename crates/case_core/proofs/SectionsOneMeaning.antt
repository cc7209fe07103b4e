-- A bundle stands for one case at most, or has one fault.
use Rattle.std.proofs.Common.{◌≡◌, ◌+◌, ◌≤◌, ◌^◌, ℕ, List, [], ◌∷◌, subst, arith, Vec}
use Rattle.std.specs.List.{AllByRecursion}
use Rattle.cnf_text.specs.Literal.{Literal}
use Rattle.cnf_text.specs.Icnf.{Item, ClauseItem, CubeItem, item_literals, clauses_of, cubes_of}
use Rattle.cnf_text.specs.Icnf.{Within, StandsFor, IsTextFault}
use Rattle.cnf_text.specs.Icnf as icnf
use Rattle.split_tree.specs.Clash as clash
use Rattle.split_tree.specs.SplitTree.{SplitTree, numbered, IsTreeOf, total}
use Rattle.case_core.specs.Case.{CaseOf}
use Rattle.case_core.specs.Sections.{IsCaseOf}
use Rattle.case_core.specs.Inner.Label.{IsLimited, IsPathInRange}
use Rattle.case_core.specs.Inner.Sections.{HasTree}
use Rattle.case_core.proofs.LabelLimits.{limited}

pub cubes_in_range : (items : List Item) → icnf.InRange items →
    AllByRecursion IsPathInRange (cubes_of items)
cubes_in_range [] h = tt
cubes_in_range (ClauseItem literals ∷ items) h = cubes_in_range items h.1
cubes_in_range (CubeItem literals ∷ items) h = (h.0, cubes_in_range items h.1)

-- a tree of the cubes that were read is one of the text's cubes
pub has_tree : {Z : Type 0} (tree : SplitTree) (items : List Item) (cubes : List (Vec Literal Z)) →
    Within items → clash.cube_lists cubes ≡ cubes_of items →
    IsTreeOf tree (numbered 1 (clash.cube_lists cubes))
    → total 0 tree ≤ 2 ^ 60 + 2 ^ 24 → HasTree tree items
has_tree tree items cubes within e is total_is =
    let same : IsTreeOf tree (numbered 1 (cubes_of items)) =
    subst (λ (cs : List (List Literal)). IsTreeOf tree (numbered 1 cs)) e is in record {
      is = same;
      limited =
          limited tree (cubes_of items) same (omega (arith, within.cubes))
          (cubes_in_range items within.variables);
      total = total_is;
    }

-- so it is of a bundle's case: its tree keeps the limits of labels
pub case_limited : (bundle : List ℕ) (case : CaseOf) → IsCaseOf bundle case → IsLimited case.tree
case_limited bundle case is =
    let within = is.text.2.1 in
    limited case.tree (cubes_of is.items) is.tree (omega (arith, within.cubes))
    (cubes_in_range is.items within.variables)
