use Rattle.std.proofs.Common.{◌∙◌, refl}
use Rattle.cnf_text.proofs.WordsLeft.{left_word}
use Rattle.cnf_text.proofs.NumbersDigits.{told_plain}
use Rattle.cnf_text.proofs.words.word_at_once.Goals as goal

pub returns-in-Some : goal.returns-in-Some
returns-in-Some c = (
  c.in-Some.ensures.0,
  c.in-Some.ensures.1,
  told_plain _ _ c.in-Some.ensures.2 c.in-Some.ensures.3,
)

pub returns : goal.returns
returns c = (
  c.split_at.result.0.now,
  left_word c.args.text.now c.requires.some c.requires.visible
      ∙ rw (
        c.split_at.ensures.front,
        c.behind_space.ensures,
        c.split_at.ensures.back,
        c.word_len.ensures.value,
      ) refl,
  c.word_of.ensures,
)
