use Rattle.cube_join.proofs.FieldsPaths.{minus_read}
use Rattle.cube_join.proofs.fields.sign_at_front.Goals as goal

pub returns-in-Some-clause-sign : goal.returns-in-Some-clause-sign
returns-in-Some-clause-sign c = λ literal rest small e.
    minus_read literal.variable literal.positive c.args.text.now rest c.in-Some.digits.now small e
    c.in-Some.ensures
