use Rattle.std.proofs.Common.{◌≡◌, length, get_or, ◌-◌, refl, ap, arith}
use Rattle.std.proofs.lemmas.Bool.{leb-true, le-leb}
use Rattle.split_tree.specs.Leaves.{missing_nodes}
use Rattle.split_tree.proofs.LeavesNodes.{has_cube, cube_has}
use Rattle.split_tree.proofs.tree.Tree.has_leaf.Goals as goal

pub returns-then-number-ge1 : goal.returns-then-number-ge1
returns-then-number-ge1 c =
    let cubes = rw c.self.view_is at c.self.invariant.cubes_are in
    rw c.in-Cube.is (
      λ e. has_cube c.args.self.now c.self.inside.cube_nodes.items c.in-Cube.number cubes
          c.if-number-ge1.true
          (omega (arith, leb-true c.in-Cube.number c.len.result e)),
      λ h. let r =
          cube_has c.args.self.now c.self.inside.cube_nodes.items c.in-Cube.number cubes h in
          le-leb c.in-Cube.number c.len.result (omega (arith, r.1)),
    )

pub returns-else-number-ge1 : goal.returns-else-number-ge1
returns-else-number-ge1 c =
    let cubes = rw c.self.view_is at c.self.invariant.cubes_are in
    rw c.in-Cube.is (
      λ e. absurd (omega (arith, leb-true 1 c.in-Cube.number e)),
      λ h. let r =
          cube_has c.args.self.now c.self.inside.cube_nodes.items c.in-Cube.number cubes h in
          le-leb 1 c.in-Cube.number r.0,
    )

pub returns-then-number-ge1-2 : goal.returns-then-number-ge1-2
returns-then-number-ge1-2 c =
    let listed : length c.self.inside.missing_nodes.items ≡ length (missing_nodes c.args.self.now) =
    ap length (rw c.self.view_is at c.self.invariant.missing_are) in
    rw c.in-Missing.is (
      λ e. (
        get_or (missing_nodes c.args.self.now) (c.in-Missing.number - 1) 0,
        (
          c.if-number-ge1-2.true,
          omega (arith, leb-true c.in-Missing.number c.len-then-number-ge1-2.result e),
          refl,
        ),
      ),
      λ h. le-leb c.in-Missing.number c.len-then-number-ge1-2.result (omega (arith, h.1.1)),
    )
