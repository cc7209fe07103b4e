use Rattle.std.proofs.Common.{Some, sym, ap, ◌∙◌, arith}
use Rattle.hint_check.proofs.BlockRuns.{falsifies, falsifies-low, falsifies-high}
use Rattle.hint_check.proofs.block.Falsifier.literal.Goals as goal
use Rattle.hint_check.proofs.block.Falsifier.literal.Goals.{then-self-lt2-via-then-self-lt2}
use Rattle.hint_check.proofs.block.Falsifier.literal.Goals.{then-self-lt2-via-else-self-lt2+then-self-ge-NUMBERS}

pub returns-then-self-lt2 : goal.returns-then-self-lt2
returns-then-self-lt2 c =
    elim c.then-self-lt2.branch [
      | then-self-lt2-via-then-self-lt2 w ↦
          sym (falsifies-low c.args.self.number w.if-self-lt2.true)
      | then-self-lt2-via-else-self-lt2+then-self-ge-NUMBERS w ↦
          sym (falsifies-high c.args.self.number w.if-self-ge-NUMBERS.true)
    ]

pub returns : goal.returns
returns c =
    ap Some c.from_parts.ensures
    ∙ sym (falsifies c.args.self.number (omega (arith, c.if-self-lt2.false))
    (omega (arith, c.if-self-ge-NUMBERS.false)))
