use Rattle.std.proofs.Common.{◌-◌, length, map, take, drop, ap, arith}
use Rattle.std.proofs.lemmas.List.{get_or_default}
use Rattle.hint_check.proofs.HoldersOrder.{named}
use Rattle.hint_check.proofs.holders.push_run.Goals as goal

pub returns-then-holder-number : goal.returns-then-holder-number
returns-then-holder-number c =
    let list = c.args.list.now in
    let rest = take (length list - c.args.begin) (drop c.args.begin list) in
    let i = c.loop-holder.holder-index in (
      map (λ h. h.id) (take i rest),
      c.loop-holder.invariant,
      λ id. named list c.args.number id c.args.begin i c.requires.order c.requires.bound
          (omega arith) c.requires.before (λ h below. omega (
            arith,
            c.if-holder-number.true,
            ap (λ h. h.number) (get_or_default rest i h (record { number = 0; id = 0 }) below),
          )),
    )

pub returns : goal.returns
returns c =
    let list = c.args.list.now in
    let rest = take (length list - c.args.begin) (drop c.args.begin list) in
    let i = c.loop-holder.holder-index in (
      map (λ h. h.id) (take i rest),
      c.loop-holder.invariant,
      λ id. named list c.args.number id c.args.begin i c.requires.order c.requires.bound
          (omega arith) c.requires.before (λ h below. absurd (omega (arith, below))),
    )
