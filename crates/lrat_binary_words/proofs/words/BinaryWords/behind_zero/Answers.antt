use Rattle.std.proofs.Common.{arith}
use Rattle.lrat_binary_words.specs.Words.{symbols_with_ends}
use Rattle.lrat_binary_words.proofs.Fronts.{unfinished}
use Rattle.lrat_binary_words.proofs.words.BinaryWords.behind_zero.Goals as goal

pub returns-in-None-clause-front : goal.returns-in-None-clause-front
returns-in-None-clause-front c =
    unfinished 0 1 c.self.inside.bytes.now c.args.self (λ ends. symbols_with_ends ends c.args.self)
    c.in-None.ensures c.self.view_is (omega arith)
