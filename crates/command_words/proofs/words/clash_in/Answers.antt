use Rattle.command_words.proofs.words.clash_in.Goals as goal

pub returns-clause-none : goal.returns-clause-none
returns-clause-none c = λ none. (
  c.are_apart.ensures.0 c.if-not-are_apart.false,
  c.spares_read.ensures.0 c.if-not-spares_read.false,
  c.spares_read-2.ensures.0 c.if-not-spares_read-2.false,
  c.are_apart-2.ensures.0 c.if-not-are_apart-2.false,
  c.are_apart-3.ensures.0 c.if-not-are_apart-3.false,
  c.spares_read-3.ensures.0 c.if-not-spares_read-3.false,
)
