use Rattle.command_words.proofs.WordsPaths.{beside, within}
use Rattle.command_words.proofs.words.name_in.Goals as goal

pub returns-in_err-name : goal.returns-in_err-name
returns-in_err-name c =
    rw c.from_residual-in_err-name.ensures
    (beside c.args.folder.now c.args.path.now c.in_ok-inside.inside.now c.in_ok-inside.ensures
    c.in_err-name.ensures)

pub returns : goal.returns
returns c =
    within c.args.folder.now c.args.path.now c.in_ok-inside.inside.now c.in_ok-name.name.now
    c.before-2.result c.in_ok-inside.ensures c.in_ok-name.ensures c.before-2.ensures
