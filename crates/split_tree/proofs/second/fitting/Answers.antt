use Rattle.std.proofs.Common.{◌≡◌, [], arith, inl, inr, length, take}
use Rattle.split_tree.proofs.ClashRelations.{length-cubes_of}
use Rattle.std.proofs.lemmas.List.{nil_from_length}
use Rattle.split_tree.specs.Clash.{cube_lists}
use Rattle.split_tree.specs.SplitTree.{numbered}
use Rattle.split_tree.specs.Inner.Grow.{group_ahead, waiting}
use Rattle.split_tree.proofs.GrowLoop.{waiting_push, all_pop, lighter_leaf}
use Rattle.split_tree.proofs.SecondWalk.{Rises, starts, walks_past, walks_down}
use Rattle.split_tree.proofs.SecondAlike.{firsts, few_alike, lighter_down, rises_numbered}
use Rattle.split_tree.proofs.SecondAlike.{last_clash, bound_some, fitting_at, led_take}
use Rattle.split_tree.proofs.SecondAlike.{number_behind}
use Rattle.split_tree.proofs.second.fitting.Goals as goal

pub loop-group-init : goal.loop-group-init
loop-group-init c =
    let cubes = cube_lists c.args.cubes.now in
    let clash = last_clash cubes c.requires.clash in
    rw (
      c.in_ok-push.ensures.items,
      c.new-pending.ensures.items,
      c.gathered.ensures,
      c.in_ok-at_root.ensures,
    )
    (starts (numbered 1 cubes) (length c.args.cubes.now) (rises_numbered 1 cubes)
    (rw (length-cubes_of c.args.cubes.now) at clash))

pub loop-group-smaller-in_ok-push_branches : goal.loop-group-smaller-in_ok-push_branches
loop-group-smaller-in_ok-push_branches c =
    let group = c.in-Some.group in
    let popped =
    waiting_push c.loop-group.pending.items c.pop.new.self.items group c.in-Some.ensures.items in
    let alike = c.alike_in-alike.ensures in
    rw (
      c.in_ok-push_branches.ensures,
      c.truncate.ensures.items,
      ← led_take c.alike_in-alike.result group.shared.now group.cubes.items,
      popped,
    )
    (elim alike.alike [
      | inl few ↦ absurd (omega (arith, c.if-alike-gt1.true))
      | inr split ↦
          lighter_down (waiting c.pop.new.self.items) (group_ahead group)
          c.alike_in-alike.result split.0 c.if-alike-gt1.true alike.within split.1
    ])

pub loop-group-smaller : goal.loop-group-smaller
loop-group-smaller c =
    let popped =
    waiting_push c.loop-group.pending.items c.pop.new.self.items c.in-Some.group
    c.in-Some.ensures.items in
    rw popped (lighter_leaf (waiting c.pop.new.self.items) (group_ahead c.in-Some.group))

pub loop-group-preserved-in_ok-push_branches : goal.loop-group-preserved-in_ok-push_branches
loop-group-preserved-in_ok-push_branches c =
    let start = numbered 1 (cube_lists c.args.cubes.now) in
    let group = c.in-Some.group in
    let count = c.alike_in-alike.result in
    let nodes = waiting c.pop.new.self.items in
    let popped =
    waiting_push c.loop-group.pending.items c.pop.new.self.items group c.in-Some.ensures.items in
    let alike = c.alike_in-alike.ensures in
    let walks = rw popped at c.loop-group.invariant in
    let behind =
    number_behind group.shared.now group.cubes.items count c.loop-group.bound
    c.bound_behind-bound.result (rw c.deref.ensures.value at c.bound_behind-bound.ensures) in
    let first =
    firsts (group_ahead group) c.loop-group.bound count c.bound_behind-bound.result
    (all_pop Rises nodes (group_ahead group) walks.rises).1 alike behind in
    rw (
      c.in_ok-push_branches.ensures,
      c.truncate.ensures.items,
      ← led_take count group.shared.now group.cubes.items,
    )
    (elim alike.alike [
      | inl few ↦ absurd (omega (arith, c.if-alike-gt1.true))
      | inr split ↦
          walks_down start (group_ahead group) (take count (group_ahead group))
          c.loop-group.bound c.bound_behind-bound.result split.0 nodes walks first split.1
    ])

pub loop-group-preserved : goal.loop-group-preserved
loop-group-preserved c =
    let start = numbered 1 (cube_lists c.args.cubes.now) in
    let group = c.in-Some.group in
    let count = c.alike_in-alike.result in
    let nodes = waiting c.pop.new.self.items in
    let popped =
    waiting_push c.loop-group.pending.items c.pop.new.self.items group c.in-Some.ensures.items in
    let walks = rw popped at c.loop-group.invariant in
    let behind =
    number_behind group.shared.now group.cubes.items count c.loop-group.bound
    c.bound_behind-bound.result (rw c.deref.ensures.value at c.bound_behind-bound.ensures) in
    let first =
    firsts (group_ahead group) c.loop-group.bound count c.bound_behind-bound.result
    (all_pop Rises nodes (group_ahead group) walks.rises).1 c.alike_in-alike.ensures behind in
    walks_past start (group_ahead group) (take count (group_ahead group))
    c.loop-group.bound c.bound_behind-bound.result nodes walks first
    (few_alike (group_ahead group) count (let few = c.if-alike-gt1.false in omega arith))

pub overflow_sub-result : goal.overflow_sub-result
overflow_sub-result c =
    let none_left : c.loop-group.pending.items ≡ [] =
    nil_from_length c.loop-group.pending.items (omega (arith, c.in_default.ensures.cases)) in
    bound_some (cube_lists c.args.cubes.now) c.loop-group.bound
    (rw none_left at c.loop-group.invariant)

pub returns : goal.returns
returns c =
    let none_left : c.loop-group.pending.items ≡ [] =
    nil_from_length c.loop-group.pending.items (omega (arith, c.in_default.ensures.cases)) in
    fitting_at (cube_lists c.args.cubes.now) c.loop-group.bound c.requires.clash
    (rw none_left at c.loop-group.invariant)
