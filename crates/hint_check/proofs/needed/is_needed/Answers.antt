use Rattle.std.proofs.Common.{◌&&◌, not, Bool, sym, ap, ◌∙◌}
use Rattle.cnf_text.specs.Literal.{Literal}
use Rattle.hint_check.specs.Literals.{has, is_tautology, meets}
use Rattle.hint_check.specs.Addition.{others}
use Rattle.hint_check.specs.Inner.Assignment.{set_of}
use Rattle.hint_check.proofs.AdditionGroups.{is_needed-held, is_needed-free}
use Rattle.hint_check.proofs.needed.is_needed.Goals as goal

pub returns-then-not-holds_with_none_true : goal.returns-then-not-holds_with_none_true
returns-then-not-holds_with_none_true c =
    let set = set_of c.args.reached.now in
    let clause = c.in-Some.clause in
    let test : Literal → Bool = λ lit. has clause lit && not (meets set (others lit clause)) in
    is_needed-free c.args.live.now.0 set c.args.pivot c.args.id clause c.in-Some.ensures
    (ap test (sym c.negated.ensures) ∙ sym c.holds_with_none_true.ensures
    ∙ c.if-not-holds_with_none_true.true)

pub returns-then-not-may_clash : goal.returns-then-not-may_clash
returns-then-not-may_clash c =
    let set = set_of c.args.reached.now in
    let clause = c.in-Some.clause in
    let test : Literal → Bool = λ lit. has clause lit && not (meets set (others lit clause)) in
    sym (ap not (c.may_clash.ensures c.if-not-may_clash.true))
    ∙ is_needed-held c.args.live.now.0 set c.args.pivot c.args.id clause c.in-Some.ensures
    (ap test (sym c.negated.ensures) ∙ sym c.holds_with_none_true.ensures
    ∙ c.if-not-holds_with_none_true.false)

pub returns : goal.returns
returns c =
    let set = set_of c.args.reached.now in
    let clause = c.in-Some.clause in
    let listed = c.deref.ensures.value ∙ c.in_ok-list.ensures in
    let test : Literal → Bool = λ lit. has clause lit && not (meets set (others lit clause)) in
    ap not (c.in_ok-tautology.ensures ∙ ap is_tautology listed)
    ∙ is_needed-held c.args.live.now.0 set c.args.pivot c.args.id clause c.in-Some.ensures
    (ap test (sym c.negated.ensures) ∙ sym c.holds_with_none_true.ensures
    ∙ c.if-not-holds_with_none_true.false)
