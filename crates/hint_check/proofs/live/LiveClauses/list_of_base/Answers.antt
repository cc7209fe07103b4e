use Rattle.std.proofs.Common.{◌≡◌, ◌==◌, ◌++◌, subst, List, ℕ, true}
use Rattle.std.specs.List.{Contains, enumerate_from, list_any}
use Rattle.std.specs.Result.{OnOk}
use Rattle.cnf_text.specs.Literal.{literal_number}
use Rattle.hint_check.specs.Inner.Holders.{holder_of}
use Rattle.hint_check.specs.Inner.Index.{AddsHolders}
use Rattle.hint_check.proofs.IndexIds.{index-adds}
use Rattle.hint_check.proofs.LiveParts.{OnOk-weaker}
use Rattle.hint_check.proofs.live.LiveClauses.list_of_base.Goals as goal

pub returns-in-Some-clause-listed : goal.returns-in-Some-clause-listed
returns-in-Some-clause-listed c =
    let base = c.self.inside.base.now in
    let before = c.args.ids.now.items in
    let after = c.list.new.ids.items in
    subst (λ live. OnOk c.list.result
    (AddsHolders (enumerate_from 1 live.1) c.args.lit before after)) c.self.view_is
    (OnOk-weaker c.list.result
    ((more : List ℕ) × (after ≡ before ++ more)
    × ((id : ℕ) → Contains c.in-Some.holders (holder_of (literal_number c.args.lit) id)
    → list_any (λ named. named == id) more ≡ true))
    (AddsHolders (enumerate_from 1 base) c.args.lit before after)
    (index-adds c.in-Some.holders base c.args.lit before after
    (rw c.in-Some.is at c.self.invariant.3)) c.list.ensures)

pub returns-clause-listed : goal.returns-clause-listed
returns-clause-listed c =
    let before = c.args.ids.now.items in
    let after = c.list-2.new.ids.items in
    subst (λ live. AddsHolders (enumerate_from 1 live.1) c.args.lit before after) c.self.view_is
    (index-adds c.in_ok-holders.holders c.self.inside.base.now c.args.lit before after
    c.in_ok-holders.ensures c.in_ok-list.ensures)
