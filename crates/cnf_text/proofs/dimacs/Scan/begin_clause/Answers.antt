use Rattle.std.proofs.Common.{arith}
use Rattle.cnf_text.proofs.DimacsScan.{clause_begun, no_clause_more, no_first_literal}
use Rattle.cnf_text.proofs.dimacs.Scan.begin_clause.Goals as goal

pub returns-then-self-ge-MAX_CLAUSES-clause-err : goal.returns-then-self-ge-MAX_CLAUSES-clause-err
returns-then-self-ge-MAX_CLAUSES-clause-err c = λ line before has.
    no_clause_more c.args.self.now before c.args.literal line c.requires.between c.requires.range
    (omega arith) has

pub returns-then-self-ge-MAX_LITERALS-clause-err :
    goal.returns-then-self-ge-MAX_LITERALS-clause-err
returns-then-self-ge-MAX_LITERALS-clause-err c = λ line before has.
    no_first_literal c.args.self.now before c.args.literal line c.requires.between c.requires.range
    (omega arith) has

pub returns-clause-ok : goal.returns-clause-ok
returns-clause-ok c = λ before has.
    clause_begun c.args.self.now _ before c.args.literal c.requires.between c.requires.range
    (omega arith) (omega arith) (omega arith) has
