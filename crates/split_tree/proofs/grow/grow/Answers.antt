use Rattle.std.proofs.Common.{◌≡◌, [], arith}
use Rattle.std.proofs.lemmas.List.Elements.{All-push}
use Rattle.split_tree.specs.Inner.Nodes.{HasVariable}
use Rattle.split_tree.specs.Inner.Grow.{cubes_ahead, group_ahead, waiting}
use Rattle.split_tree.proofs.GrowLoop.{waiting_push, grows_start, grows_leaf, grows_split}
use Rattle.split_tree.proofs.GrowLoop.{grows_clash, grows_all, lighter_leaf, lighter_split}
use Rattle.split_tree.proofs.grow.grow.Goals as goal
use Rattle.std.proofs.lemmas.List.{nil_from_length}

pub loop-group-init : goal.loop-group-init
loop-group-init c =
    rw (
      c.in_ok-push.ensures.items,
      c.new-pending.ensures.items,
      c.new-shapes.ensures.items,
      c.gathered.ensures,
    ) (record {
      grows = grows_start (cubes_ahead c.args.start.items);
      variables = λ k d l. absurd (omega arith);
    })

pub loop-group-smaller : goal.loop-group-smaller
loop-group-smaller c =
    let popped =
    waiting_push c.loop-group.pending.items c.pop.new.self.items c.in-Some.group
    c.in-Some.ensures.items in
    rw (c.in_ok-push_branches.ensures, popped)
    (lighter_split (waiting c.pop.new.self.items) (group_ahead c.in-Some.group)
    c.in-Split.field-0 (rw c.in-Split.is at c.in-Some-shape_at.ensures.shape))

pub loop-group-smaller-in_default-shape : goal.loop-group-smaller-in_default-shape
loop-group-smaller-in_default-shape c =
    let popped =
    waiting_push c.loop-group.pending.items c.pop.new.self.items c.in-Some.group
    c.in-Some.ensures.items in
    rw popped (lighter_leaf (waiting c.pop.new.self.items) (group_ahead c.in-Some.group))

pub returns-in_default-shape_at-clause-shapes : goal.returns-in_default-shape_at-clause-shapes
returns-in_default-shape_at-clause-shapes c =
    let popped =
    waiting_push c.loop-group.pending.items c.pop.new.self.items c.in-Some.group
    c.in-Some.ensures.items in
    grows_clash (cubes_ahead c.args.start.items) c.loop-group.shapes.items
    (waiting c.pop.new.self.items) (group_ahead c.in-Some.group)
    (rw popped at c.loop-group.invariant.grows) c.in_default-shape_at.ensures.shape

pub loop-group-preserved : goal.loop-group-preserved
loop-group-preserved c =
    let popped =
    waiting_push c.loop-group.pending.items c.pop.new.self.items c.in-Some.group
    c.in-Some.ensures.items in
    let variables =
    All-push HasVariable c.loop-group.shapes.items c.in-Some-shape_at.shape
    c.loop-group.invariant.variables c.in-Some-shape_at.ensures.variable in
    rw (c.in_ok-push-2.ensures.items, c.in_ok-push_branches.ensures) (record {
      grows =
          rw c.in-Split.is
          (grows_split (cubes_ahead c.args.start.items) c.loop-group.shapes.items
          (waiting c.pop.new.self.items) (group_ahead c.in-Some.group) c.in-Split.field-0
          (rw popped at c.loop-group.invariant.grows)
          (rw c.in-Split.is at c.in-Some-shape_at.ensures.shape));
      variables = variables;
    })

pub loop-group-preserved-in_default-shape : goal.loop-group-preserved-in_default-shape
loop-group-preserved-in_default-shape c =
    let popped =
    waiting_push c.loop-group.pending.items c.pop.new.self.items c.in-Some.group
    c.in-Some.ensures.items in
    let variables =
    All-push HasVariable c.loop-group.shapes.items c.in-Some-shape_at.shape
    c.loop-group.invariant.variables c.in-Some-shape_at.ensures.variable in
    rw c.in_ok-push-2.ensures.items (record {
      grows =
          grows_leaf (cubes_ahead c.args.start.items) c.loop-group.shapes.items
          (waiting c.pop.new.self.items) (group_ahead c.in-Some.group)
          c.in-Some-shape_at.shape (rw popped at c.loop-group.invariant.grows)
          c.in-Some-shape_at.ensures.shape c.in_default-shape.not-Split;
      variables = variables;
    })

pub returns-clause-shapes : goal.returns-clause-shapes
returns-clause-shapes c =
    let none_left : c.loop-group.pending.items ≡ [] =
    nil_from_length c.loop-group.pending.items (omega (arith, c.in_default.ensures.cases)) in
    grows_all (cubes_ahead c.args.start.items) c.loop-group.shapes.items
    (rw none_left at c.loop-group.invariant.grows)
