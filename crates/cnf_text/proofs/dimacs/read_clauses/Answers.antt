use Rattle.std.proofs.Common.{arith}
use Rattle.cnf_text.specs.Icnf.{symbol_of_number}
use Rattle.cnf_text.specs.Numbers.{number_of}
use Rattle.cnf_text.specs.Tokens.{all_tokens, below}
use Rattle.cnf_text.proofs.TokensUpTo.{at_start, one_less}
use Rattle.cnf_text.proofs.DimacsReading.{one_more_scanned, scan_broken, all_scanned}
use Rattle.cnf_text.proofs.DimacsReading.{scan_unfinished, no_cube_mark, none_scanned}
use Rattle.cnf_text.proofs.dimacs.read_clauses.Goals as goal

pub loop-word-init : goal.loop-word-init
loop-word-init c = (
  record {
    up = at_start (all_tokens (below c.args.tokens)) c.words_below-words.result
        c.words_below-words.ensures.words;
    scanned = none_scanned;
  },
  (let few = c.words_below-words.ensures.few in omega arith),
)

pub loop-word-preserved : goal.loop-word-preserved
loop-word-preserved c =
    let next = c.in-Some.ensures in (
      one_more_scanned c.loop-word.scan c.read.new.self (all_tokens (below c.args.tokens))
          c.loop-word.words c.in-Some.rest next.0 c.loop-word.count c.loop-word.invariant.0 next.1
          (c.in_default-read.ensures.ok (symbol_of_number (number_of next.0))
          (no_cube_mark (number_of next.0)) (c.clause_word.ensures next.0 next.2)),
      one_less c.loop-word.words c.in-Some.rest next.0 c.loop-word.count next.1
          c.loop-word.invariant.1,
    )

pub returns-in-Err-clause-err : goal.returns-in-Err-clause-err
returns-in-Err-clause-err c =
    let next = c.in-Some.ensures in
    rw c.on_line.ensures
    (scan_broken c.loop-word.scan
    (all_tokens (below c.args.tokens)) c.loop-word.words c.in-Some.rest
    next.0 c.loop-word.count c.line_below.result c.in-Err.broken c.loop-word.invariant.0 next.1
    (c.in-Err.ensures.err (symbol_of_number (number_of next.0))
    (no_cube_mark (number_of next.0)) (c.clause_word.ensures next.0 next.2))
    c.line_below.ensures)

pub returns-then-scan-clause-err : goal.returns-then-scan-clause-err
returns-then-scan-clause-err c =
    scan_unfinished c.loop-word.scan (all_tokens (below c.args.tokens))
    (all_scanned c.loop-word.scan (all_tokens (below c.args.tokens)) c.loop-word.words
    c.loop-word.count c.loop-word.invariant.0 c.in_default.ensures) c.if-scan.true

pub returns-clause-ok : goal.returns-clause-ok
returns-clause-ok c = (
  c.if-scan.false,
  all_scanned c.loop-word.scan (all_tokens (below c.args.tokens)) c.loop-word.words
      c.loop-word.count c.loop-word.invariant.0 c.in_default.ensures,
)
