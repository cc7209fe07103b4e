use Rattle.std.proofs.Common.{refl}
use Rattle.std.specs.Fmt.{digits}
use Rattle.lrat_binary.proofs.laws.short_texts.Goals as goal

pub returns-clause-empty_clause : goal.returns-clause-empty_clause
unfolding digits
returns-clause-empty_clause c = refl

pub returns-clause-two_literals : goal.returns-clause-two_literals
unfolding digits
returns-clause-two_literals c = refl

pub returns-clause-deletion : goal.returns-clause-deletion
unfolding digits
returns-clause-deletion c = refl

pub returns-clause-no_deletion : goal.returns-clause-no_deletion
unfolding digits
returns-clause-no_deletion c = refl

pub returns-clause-two_steps : goal.returns-clause-two_steps
unfolding digits
returns-clause-two_steps c = refl

pub returns-clause-group : goal.returns-clause-group
unfolding digits
returns-clause-group c = refl

pub returns-clause-two_bytes : goal.returns-clause-two_bytes
unfolding digits
returns-clause-two_bytes c = refl

pub returns-clause-padded : goal.returns-clause-padded
unfolding digits
returns-clause-padded c = refl

pub returns-clause-padded_mark : goal.returns-clause-padded_mark
unfolding digits
returns-clause-padded_mark c = refl

pub returns-clause-cut_step : goal.returns-clause-cut_step
unfolding digits
returns-clause-cut_step c = refl

pub returns-clause-cut_number : goal.returns-clause-cut_number
unfolding digits
returns-clause-cut_number c = refl

pub returns-clause-negative_id : goal.returns-clause-negative_id
unfolding digits
returns-clause-negative_id c = refl

pub returns-clause-negative_zero : goal.returns-clause-negative_zero
unfolding digits
returns-clause-negative_zero c = refl

pub returns-clause-negative_deletion : goal.returns-clause-negative_deletion
unfolding digits
returns-clause-negative_deletion c = refl

pub returns-clause-greatest_variable : goal.returns-clause-greatest_variable
unfolding digits
returns-clause-greatest_variable c = refl

pub returns-clause-variable_above : goal.returns-clause-variable_above
unfolding digits
returns-clause-variable_above c = refl

pub returns-clause-greatest_id : goal.returns-clause-greatest_id
unfolding digits
returns-clause-greatest_id c = refl

pub returns-clause-id_above : goal.returns-clause-id_above
unfolding digits
returns-clause-id_above c = refl

pub returns-clause-past_64_bits : goal.returns-clause-past_64_bits
unfolding digits
returns-clause-past_64_bits c = refl

pub returns-clause-id_zero : goal.returns-clause-id_zero
unfolding digits
returns-clause-id_zero c = refl

pub returns-clause-stray_then_deletion : goal.returns-clause-stray_then_deletion
unfolding digits
returns-clause-stray_then_deletion c = refl
