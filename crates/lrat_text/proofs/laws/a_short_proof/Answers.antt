use Rattle.std.proofs.Common.{refl}
use Rattle.cnf_text.specs.Numbers.{digits_value, decimal, number_of}
use Rattle.cnf_text.specs.Tokens.{is_blank, is_comment, words, line_tokens, token_lines}
use Rattle.lrat_text.proofs.ProofUnique.{worked_out}
use Rattle.lrat_text.proofs.laws.a_short_proof.Goals as goal

pub returns : goal.returns
unfolding token_lines line_tokens is_comment is_blank words number_of decimal digits_value
returns c = worked_out _ _ refl
