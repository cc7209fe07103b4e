use Rattle.cnf_text.proofs.DimacsScan.{clause_ended}
use Rattle.cnf_text.proofs.dimacs.Scan.end_clause.Goals as goal

pub returns : goal.returns
returns c = λ before has. clause_ended c.args.self.now before c.requires has
