use Rattle.cube_report.proofs.BoardsGathered.{target_inside}
use Rattle.run_watch.proofs.progress.ProgressGate.after.Goals as goal

pub keep_open-requires : goal.keep_open-requires
keep_open-requires g c = target_inside _ _ _ c.requires.here
