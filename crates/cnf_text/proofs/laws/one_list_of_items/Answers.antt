use Rattle.cnf_text.proofs.IcnfUnique.{one_text}
use Rattle.cnf_text.proofs.laws.one_list_of_items.Goals as goal

pub returns : goal.returns
returns c = one_text
