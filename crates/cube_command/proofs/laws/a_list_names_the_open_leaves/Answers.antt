use Rattle.cube_command.proofs.OpenReports.{lists_open}
use Rattle.cube_command.proofs.laws.a_list_names_the_open_leaves.Goals as goal

pub returns : goal.returns
returns c = lists_open
