use Rattle.std.proofs.Common.{sym, ap, ◌∙◌}
use Rattle.cnf_text.specs.Tokens.{all_tokens, below}
use Rattle.cnf_text.specs.Dimacs.{after_problem}
use Rattle.cnf_text.proofs.DimacsReading.{counted_clauses, counted_ok, counted_err}
use Rattle.cnf_text.proofs.dimacs.read_counted.Goals as goal

pub returns-in-Ok-clause-ok : goal.returns-in-Ok-clause-ok
returns-in-Ok-clause-ok c =
    counted_ok c.counted.result c.args.text.now c.in-Some.problem c.in-Some.ensures.0 _
    c.in-Ok.scan.clauses c.in-Ok.scan.greatest c.in-Some.ensures.1
    (sym (ap after_problem c.new-tokens.ensures.value) ∙ c.in-Some.ensures.2)
    (counted_clauses c.in-Ok.scan (all_tokens (below c.read_header.new.tokens)) c.in-Ok.ensures.ok.0
    c.in-Ok.ensures.ok.1) c.counted.ensures.ok

pub returns-in-Ok-clause-err : goal.returns-in-Ok-clause-err
returns-in-Ok-clause-err c =
    counted_err c.counted.result c.args.text.now c.in-Some.problem c.in-Some.ensures.0 _
    c.in-Ok.scan.clauses c.in-Ok.scan.greatest c.in-Some.ensures.1
    (sym (ap after_problem c.new-tokens.ensures.value) ∙ c.in-Some.ensures.2)
    (counted_clauses c.in-Ok.scan (all_tokens (below c.read_header.new.tokens)) c.in-Ok.ensures.ok.0
    c.in-Ok.ensures.ok.1) c.counted.ensures.err
