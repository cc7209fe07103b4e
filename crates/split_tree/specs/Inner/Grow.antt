use Rattle.std.specs.Prelude.{◌≡◌, ◌≢◌, List, [], ◌∷◌, ◌++◌, map, Vec}
use Rattle.std.specs.List.{AllByRecursion}
use Rattle.std.specs.declared.option.Option.{Option}
use Rattle.std.specs.declared.option.Option.TheVariants.{None, Some}
use Rattle.split_tree.specs.declared.shape.Shape.{Shape}
use Rattle.split_tree.specs.declared.shape.Shape.TheVariants.{Missing, Cube, Split}
use Rattle.split_tree.specs.declared.clash.Relation.TheVariants.{Fit}
use Rattle.split_tree.specs.declared.group.Ahead.{Ahead}
use Rattle.split_tree.specs.declared.group.Group.{Group}
use Rattle.cnf_text.specs.Literal.{Literal}
use Rattle.split_tree.specs.Clash.{relation_of}
use Rattle.split_tree.specs.SplitTree.{SplitTree, Numbered, SplitsOn, IsTreeOf}
use Rattle.split_tree.specs.Inner.Nodes.{preorder}

-- the cubes on their way, by what lies ahead of them
abbrev pub cubes_ahead : List Ahead → List Numbered
cubes_ahead [] = []
cubes_ahead (c ∷ cubes) =
    record { number = c.number; literals = c.literals.now } ∷ cubes_ahead cubes

-- the literals go on with this stretch
abbrev pub BeginsWith : List Literal → List Literal → Type 0
BeginsWith stretch literals = (rest : List Literal) × (literals ≡ stretch ++ rest)

-- the same cubes where this stretch lies ahead of each before its own literals
abbrev pub led_by : List Literal → List Ahead → List Numbered
led_by stretch [] = []
led_by stretch (c ∷ cubes) =
    record { number = c.number; literals = stretch ++ c.literals.now } ∷ led_by stretch cubes

-- the cubes of a group, by what lies ahead of them
abbrev pub group_ahead : Group → List Numbered
group_ahead group = led_by group.shared.now group.cubes.items

-- no two of them clash
abbrev pub AreFit : List Numbered → Type 0
AreFit [] = Unit {0}
AreFit (c ∷ cubes) =
    AllByRecursion (λ d. relation_of c.literals d.literals ≡ Fit) cubes × AreFit cubes

-- what stands at the root of the tree of these cubes, or that two of them clash
abbrev pub IsShapeAt : Option Shape → List Numbered → Type 0
IsShapeAt None cubes = AreFit cubes → ⊥
IsShapeAt (Some Missing) cubes = cubes ≡ []
IsShapeAt (Some (Cube k)) cubes = cubes ≡ record { number = k; literals = [] } ∷ []
IsShapeAt (Some (Split v)) cubes = (cubes ≢ []) × AllByRecursion (λ c. SplitsOn v c.literals) cubes

-- the nodes of the tree of these cubes, or that two of them clash
abbrev pub AreShapesOf : {Z : Type 0} → List Numbered → Option (Vec Shape Z) → Type 0
AreShapesOf cubes None = AreFit cubes → ⊥
AreShapesOf cubes (Some shapes) =
    (tree : SplitTree) × IsTreeOf tree cubes × (preorder tree ≡ shapes.items)

-- the lists of cubes whose trees are still to grow, the next one last
abbrev pub waiting : List Group → List (List Numbered)
waiting pending = map group_ahead pending
