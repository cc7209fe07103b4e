use Rattle.std.proofs.Common.{◌≡◌, ◌+◌, ◌++◌, ◌∷◌, [], take, length, sym, ap, ◌∙◌, append_assoc}
use Rattle.std.proofs.Common.{arith, subst}
use Rattle.std.proofs.lemmas.List.{take_more, take_all, length-take-le, length-append, map-append}
use Rattle.std.proofs.lemmas.List.{length-map}
use Rattle.std.specs.FinMap as fin
use Rattle.cnf_text.specs.Literal.{Literal}
use Rattle.cnf_text.specs.Formula.{units}
use Rattle.hint_check.specs.Live.{Live}
use Rattle.hint_check.specs.Inner.Alike.{Alike}
use Rattle.hint_check.proofs.AlikeLists.{literals-self}
use Rattle.hint_check.proofs.AlikeMaps.{alike-insert}
use Rattle.hint_check.proofs.LiteralsSets.{unit-no_clash}
use Rattle.hint_check.proofs.LiveStart.{numbered, numbered-push, numbered-start, numbered-alone}
use Rattle.hint_check.proofs.live.LiveClauses.start_over.Goals as goal

pub insert-requires : goal.insert-requires
insert-requires c = unit-no_clash c.lit-item.result

pub loop-lit-init : goal.loop-lit-init
loop-lit-init c =
    let formula = c.args.self.now.1 in
    let same = ap length (c.clauses.ensures ∙ c.formula.ensures ∙ ap (λ live. live.1) c.self.view_is
    ∙ c.clear.ensures.base) in
    record {
      inserted = subst (Alike c.clear.new.self.0) (numbered-alone formula) c.clear.ensures.clauses;
      base = c.clear.ensures.base;
      next = omega (arith, same);
    }

pub loop-lit-preserved : goal.loop-lit-preserved
loop-lit-preserved c =
    let i = c.loop-lit.lit-index in
    let id = c.loop-lit.id in
    let path = c.args.path.now in
    let formula = c.args.self.now.1 in
    let item = c.lit-item.result in
    let so_far = formula ++ units (take i path) in
    let next : id ≡ length so_far + 1 =
    c.loop-lit.invariant.next
    ∙ ap (λ n. length formula + n + 1)
    (sym (length-map (take i path) (λ (l : Literal). l ∷ []) ∙ length-take-le i path (omega arith)))
    ∙ ap (λ n. n + 1) (sym (length-append formula (units (take i path)))) in
    record {
      inserted =
          subst (λ (live : Live). Alike live (numbered (formula ++ units (take (i + 1) path))))
          (sym (ap (λ live. live.0) c.in_ok-insert.ensures.ok))
          (subst (Alike (fin.insert c.loop-lit.self.0 id (item ∷ [])))
          (sym (numbered-push so_far (item ∷ []) id next)
          ∙ ap numbered (append_assoc formula (units (take i path)) ((item ∷ []) ∷ [])
          ∙ ap (λ more. formula ++ more)
          (sym (map-append (λ (l : Literal). l ∷ []) (take i path) (item ∷ []))
          ∙ ap units (ap (λ x. take i path ++ x ∷ []) c.lit-item.is
          ∙ sym (take_more path i item c.loop-lit-test.true)))))
          (alike-insert c.loop-lit.self.0 (numbered so_far) id (item ∷ []) (item ∷ [])
          c.loop-lit.invariant.inserted (literals-self (item ∷ []))));
      base = ap (λ live. live.1) c.in_ok-insert.ensures.ok ∙ c.loop-lit.invariant.base;
      next = omega arith;
    }

pub returns-clause-ok : goal.returns-clause-ok
returns-clause-ok c =
    let formula = c.args.self.now.1 in
    subst (Alike c.loop-lit.self.0)
    (ap (λ path. numbered (formula ++ units path))
    (take_all c.loop-lit.lit-index c.args.path.now (omega arith))
    ∙ numbered-start formula c.args.path.now) c.loop-lit.invariant.inserted
