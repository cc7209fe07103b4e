use Rattle.std.proofs.Common.{◌+◌, ◌∙◌, refl}
use Rattle.cube_join.proofs.FieldsNumbers.{line_step, line_end, no_line, rest_is}
use Rattle.cube_join.proofs.fields.behind_line.Goals as goal

pub returns-then-byte-eq10 : goal.returns-then-byte-eq10
returns-then-byte-eq10 c = λ line rest lacks e.
    rest_is c.args.text.now (c.loop-index.index + 1)
    ∙ line_end c.args.text.now c.loop-index.index _ line rest c.loop-index-test.true refl
    c.if-byte-eq10.true c.loop-index.invariant lacks e

pub loop-index-preserved : goal.loop-index-preserved
loop-index-preserved c =
    line_step c.args.text.now c.loop-index.index _ c.loop-index-test.true refl c.if-byte-eq10.false
    c.loop-index.invariant

pub returns : goal.returns
returns c = λ line rest lacks e.
    no_line c.args.text.now c.loop-index.index line rest c.loop-index-test.false
    c.loop-index.invariant lacks e
