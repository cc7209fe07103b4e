use Rattle.std.proofs.lemmas.Bool.{eqb-true, eq-eqb}
use Rattle.std.proofs.Common.{◌+◌, ◌≡◌, [], sym, ◌∙◌, arith}
use Rattle.split_tree.specs.SplitTree.{subtree_at, branch}
use Rattle.split_tree.proofs.NodesCoding.{subtree-root}
use Rattle.split_tree.proofs.SplitTreeLabels.{label-root}
use Rattle.split_tree.proofs.NavigationSteps.{step_path, split_under}
use Rattle.split_tree.specs.Navigation.{HasBelow}
use Rattle.split_tree.proofs.nodes.Nodes.path_to.Goals as goal

pub loop-here-init : goal.loop-here-init
loop-here-init c =
    let root : subtree_at c.args.self.now 0 ≡ c.args.self.now = subtree-root c.args.self.now in (
      c.new-path.ensures.items
          ∙ sym (label-root branch [] [] c.args.self.now),
      record { reached = omega arith; before_end = rw root (omega arith) },
    )

pub loop-here-preserved : goal.loop-here-preserved
loop-here-preserved c =
    let step = c.toward-next.ensures in (
      c.in_ok-push.ensures.items
          ∙ (rw c.from_parts.ensures
          (step_path c.args.self.now c.loop-here.here c.args.node c.toward-next.result
          c.variable_of.result _
          c.loop-here.path.items step c.loop-here.invariant.0 c.variable_of.ensures.value (
            eqb-true c.toward-next.result (c.loop-here.here + 1),
            eq-eqb c.toward-next.result (c.loop-here.here + 1),
          ))),
      record { reached = step.reached; before_end = step.before_end },
    )

pub variable_of-requires : goal.variable_of-requires
variable_of-requires c =
    let root : HasBelow c.args.self.now c.loop-here.here c.args.node = c.loop-here.invariant.1 in
    record {
      within = omega (arith, c.requires, root.reached, c.loop-here-test.true);
      inner = split_under c.args.self.now c.loop-here.here c.args.node (record {
        within = omega (arith, c.requires, root.reached);
        later = c.loop-here-test.true;
        before_end = root.before_end;
      });
    }
