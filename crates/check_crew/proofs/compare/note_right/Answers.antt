use Rattle.std.proofs.Common.{◌∙◌, subst, sym}
use Rattle.check_crew.specs.Examined.{IsExamined}
use Rattle.check_crew.specs.declared.targets.ExaminedTarget.{ExaminedTarget}
use Rattle.check_crew.proofs.compare.note_right.Goals as goal

pub loop-one-preserved : goal.loop-one-preserved
loop-one-preserved c =
    let was = c.loop-one.invariant in record {
      long = c.note_one.ensures.len ∙ was.long;
      noted = λ known list were.
          c.note_one.ensures.right known list.view list.of_case
          (subst
          (λ (one : ExaminedTarget).
          IsExamined (known one.target) list.view one.target one.examined)
          (sym c.one-item.is)
          (list.all c.loop-one.one-index c.one-item.result c.loop-one-test.true))
          (was.noted known list were);
    }
