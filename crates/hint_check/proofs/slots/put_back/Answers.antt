use Rattle.std.proofs.Common.{take, get_or, nat_eq, refl, sym, ap, ◌∙◌, arith}
use Rattle.std.specs.Prelude.{if◌then◌else◌}
use Rattle.std.proofs.lemmas.List.{take_all}
use Rattle.std.proofs.lemmas.List.Folds.{list_any_more}
use Rattle.hint_check.specs.Inner.Stamps.{is_named}
use Rattle.hint_check.specs.Inner.Table.{slot_at}
use Rattle.hint_check.proofs.TableParts.{put_more}
use Rattle.hint_check.proofs.slots.put_back.Goals as goal

pub loop-id-init : goal.loop-id-init
loop-id-init c = record { slots = λ i. refl; long = refl }

pub put_one_back-requires : goal.put_one_back-requires
put_one_back-requires c = c.loop-id.invariant.long ∙ c.requires

pub loop-id-preserved : goal.loop-id-preserved
loop-id-preserved c =
    let ids = c.args.ids.now in
    let i = c.loop-id.id-index in
    let id = get_or ids i 0 in record {
      slots = λ q.
          c.put_one_back.ensures.slots q
          ∙ ap (λ s. if nat_eq id q then slot_at c.args.first.now q else s)
          (c.loop-id.invariant.slots q)
          ∙ put_more (is_named (take i ids) q) (nat_eq id q) (slot_at c.args.first.now q)
          (slot_at c.args.slots.now.items q)
          ∙ ap (λ b. if b then slot_at c.args.first.now q else slot_at c.args.slots.now.items q)
          (sym (list_any_more (λ named. nat_eq named q) ids i 0 c.loop-id-test.true));
      long = c.put_one_back.ensures.length ∙ c.loop-id.invariant.long;
    }

pub returns : goal.returns
returns c = record {
  slots = λ q.
      c.loop-id.invariant.slots q
      ∙ ap (λ done. if is_named done q then slot_at c.args.first.now q
      else slot_at c.args.slots.now.items q)
      (take_all c.loop-id.id-index c.args.ids.now (omega arith));
  length = c.loop-id.invariant.long;
}
