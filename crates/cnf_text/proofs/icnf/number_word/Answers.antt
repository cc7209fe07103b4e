use Rattle.std.proofs.Common.{sym, arith}
use Rattle.cnf_text.specs.Numbers.{number_of}
use Rattle.cnf_text.proofs.NumbersDigits.{large_number}
use Rattle.cnf_text.proofs.icnf.number_word.Goals as goal

pub returns-then-number-from : goal.returns-then-number-from
returns-then-number-from c = λ bytes is.
    large_number (number_of bytes) c.args.number (sym is) (omega arith)
