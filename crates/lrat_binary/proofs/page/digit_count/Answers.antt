use Rattle.std.proofs.Common.{sym}
use Rattle.lrat_binary.proofs.PageDigits.{one, two, three, four, five}
use Rattle.lrat_binary.proofs.page.digit_count.Goals as goal

pub returns-then-number-lt10-clause-count : goal.returns-then-number-lt10-clause-count
returns-then-number-lt10-clause-count c = sym (one c.args.number c.if-number-lt10.true)

pub returns-then-number-lt100-clause-count : goal.returns-then-number-lt100-clause-count
returns-then-number-lt100-clause-count c =
    sym (two c.args.number c.if-number-lt10.false c.if-number-lt100.true)

pub returns-then-number-lt1000-clause-count : goal.returns-then-number-lt1000-clause-count
returns-then-number-lt1000-clause-count c =
    sym (three c.args.number c.if-number-lt100.false c.if-number-lt1000.true)

pub returns-then-number-lt10000-clause-count : goal.returns-then-number-lt10000-clause-count
returns-then-number-lt10000-clause-count c =
    sym (four c.args.number c.if-number-lt1000.false c.if-number-lt10000.true)

pub returns-then-number-lt100000-clause-count : goal.returns-then-number-lt100000-clause-count
returns-then-number-lt100000-clause-count c =
    sym (five c.args.number c.if-number-lt10000.false c.if-number-lt100000.true)
