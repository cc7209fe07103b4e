use Rattle.split_tree.proofs.ClashTotal.{all_fit_or_a_clash as law}
use Rattle.split_tree.proofs.laws.all_fit_or_a_clash.Goals as goal

pub returns : goal.returns
returns c = law
