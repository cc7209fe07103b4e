use Rattle.run_watch.proofs.watched.WatchedGate.after.Goals as goal

pub logs-requires : goal.logs-requires
logs-requires g c = (c.args.found.now.node, c.requires.here)
