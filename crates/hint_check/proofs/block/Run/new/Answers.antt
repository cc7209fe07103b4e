use Rattle.std.proofs.Common.{◌-◌, drop}
use Rattle.std.proofs.lemmas.List.Elements.{All-take, All-drop}
use Rattle.hint_check.specs.declared.block.Block.{Block}
use Rattle.hint_check.specs.Inner.Blocks.{BlockWithin}
use Rattle.hint_check.proofs.block.Run.new.Goals as goal

pub invariant_of-result : goal.invariant_of-result
invariant_of-result c =
    let list = c.args.blocks.list.now in
    let P = λ (block : Block). BlockWithin block c.args.blocks.reach in
    record {
      within = All-take P (c.args.end - c.args.start) (drop c.args.start list)
          (All-drop P c.args.start list c.args.blocks.within);
    }
