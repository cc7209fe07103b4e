use Rattle.std.proofs.Common.{◌≡◌, ◌≢◌, Result, Ok, Err, ◌⊎◌, inl, inr}
use Rattle.std.specs.Prelude.{IfErr}
use Rattle.cnf_text.specs.declared.icnf.Word.{Word}
use Rattle.cnf_text.specs.declared.icnf.Word.TheVariants as words
use Rattle.cnf_text.specs.declared.icnf.Broken.{Broken}
use Rattle.cnf_text.specs.declared.icnf.Broken.TheVariants as broken
use Rattle.cnf_text.specs.declared.dimacs.Scan.{Scan}
use Rattle.cnf_text.specs.Icnf.{Symbol, Signed, EndMark, CubeMark}
use Rattle.cnf_text.specs.Inner.Icnf.{Means}
use Rattle.cnf_text.specs.Inner.Dimacs.{BreaksScan}
use Rattle.cnf_text.proofs.DimacsScan.{large_here, unknown_here}
use Rattle.cnf_text.proofs.dimacs.Scan.read.Goals as goal

-- what is refused of a symbol, said of the word for it
err_here : {R : Type 0} (r : Result R Broken) (scan : Scan) (s : Symbol) (word : Word)
    → ((symbol : Symbol) → Means word symbol → symbol ≡ s) → IfErr r (BreaksScan scan s)
    → IfErr r (λ rule. (symbol : Symbol) → symbol ≢ CubeMark → Means word symbol
    → BreaksScan scan symbol rule)
err_here (Ok x) scan s word is h = tt
err_here (Err rule) scan s word is h = λ symbol no means. rw (is symbol means) h

no_clause : (scan : Scan) (word : Word) → (word ≡ words.Cube) ⊎ (word ≡ words.Unknown)
    → (symbol : Symbol) → symbol ≢ CubeMark → Means word symbol
    → BreaksScan scan symbol broken.Token
no_clause scan word (inl is) symbol other means = absurd (other (rw is at means))
no_clause scan word (inr is) symbol other means = λ line before has.
    let unknown = rw is at means in rw unknown (unknown_here scan before line has)

pub returns-in-Literal-clause-err : goal.returns-in-Literal-clause-err
returns-in-Literal-clause-err c =
    err_here c.literal.result c.args.self.now (Signed c.in-Literal.literal) c.args.word
    (λ symbol means. (rw c.in-Literal.is at means).0) c.literal.ensures.err

pub returns-in-End-clause-err : goal.returns-in-End-clause-err
returns-in-End-clause-err c =
    err_here c.end.result c.args.self.now EndMark c.args.word
    (λ symbol means. rw c.in-End.is at means) c.end.ensures.err

pub returns-in-TooLarge-clause-err : goal.returns-in-TooLarge-clause-err
returns-in-TooLarge-clause-err c = λ symbol _ means line before has.
    let large = rw c.in-TooLarge.is at means in
    rw large.1 (large_here c.args.self.now before large.0 line large.2 has)

pub returns-in-Cube-clause-err : goal.returns-in-Cube-clause-err
returns-in-Cube-clause-err c = no_clause c.args.self.now c.args.word c.in-Cube.is
