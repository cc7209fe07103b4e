use Rattle.std.proofs.Common.{arith}
use Rattle.cnf_text.proofs.DimacsScan.{empty_more, no_empty_more}
use Rattle.cnf_text.proofs.dimacs.Scan.empty_clause.Goals as goal

pub returns-then-self-ge-MAX_CLAUSES-clause-err : goal.returns-then-self-ge-MAX_CLAUSES-clause-err
returns-then-self-ge-MAX_CLAUSES-clause-err c = λ line before has.
    no_empty_more c.args.self.now before line c.requires.between (omega arith) has

pub returns-clause-ok : goal.returns-clause-ok
returns-clause-ok c = λ before has.
    empty_more c.args.self.now before c.requires.between (omega arith) has
