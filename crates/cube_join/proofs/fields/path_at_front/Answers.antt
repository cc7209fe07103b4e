use Rattle.std.proofs.Common.{◌∙◌, ◌≡◌, [], ◌∷◌, ◌++◌, rules, true, false, sym}
use Rattle.cube_join.proofs.FieldsPaths.{path_step, path_end}
use Rattle.cube_join.proofs.fields.path_at_front.Goals as goal

pub loop-literal-preserved : goal.loop-literal-preserved
loop-literal-preserved c =
    let same : c.push.new.self.items ≡ c.loop-literal.path.items ++ c.in-Some.literal ∷ [] =
    search rules in
    path_step c.args.text.now c.loop-literal.left.now c.in-Some.rest.now _ c.loop-literal.path.items
    c.push.new.self.items c.in-Some.literal c.in-Some.ensures.some (λ r ends e. let clash : true ≡
    false = c.in-Some.ensures.end r ends e in cc)
    c.loop-literal.invariant same (search rules)

pub returns-in_default-behind : goal.returns-in_default-behind
returns-in_default-behind c = λ path rest are ends e.
    let both =
    path_end c.args.text.now c.loop-literal.left.now c.loop-literal.path.items path rest
    c.in_default.ensures.some c.loop-literal.invariant are ends e in
    c.in_default-behind.ensures rest both.1

pub returns : goal.returns
returns c = λ path rest are ends e.
    let both =
    path_end c.args.text.now c.loop-literal.left.now c.loop-literal.path.items path rest
    c.in_default.ensures.some c.loop-literal.invariant are ends e in (
      both.0,
      let same : 32 ∷ 48 ∷ c.in-Some-behind.rest.now ≡ 32 ∷ 48 ∷ rest =
          sym c.in-Some-behind.ensures ∙ both.1 in cc,
    )
