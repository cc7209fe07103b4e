use Rattle.std.proofs.Common.{arith}
use Rattle.cnf_text.proofs.DimacsScan.{literal_more, no_literal_more}
use Rattle.cnf_text.proofs.dimacs.Scan.add_to_clause.Goals as goal

pub returns-then-self-ge-MAX_LITERALS-clause-err :
    goal.returns-then-self-ge-MAX_LITERALS-clause-err
returns-then-self-ge-MAX_LITERALS-clause-err c = λ line before has.
    no_literal_more c.args.self.now before c.args.literal line c.requires.inside c.requires.range
    (omega arith) has

pub returns-clause-ok : goal.returns-clause-ok
returns-clause-ok c = λ before has.
    literal_more c.args.self.now _ before c.args.literal c.requires.inside c.requires.range
    (omega arith) (omega arith) has
