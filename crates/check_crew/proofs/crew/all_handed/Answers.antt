use Rattle.check_crew.proofs.crew.all_handed.Goals as goal

pub failed_first-requires-after_bounds : goal.failed_first-requires-after_bounds
failed_first-requires-after_bounds g c κs within = λ k d inside.
    (c.with_own-shifts.ensures.kept k d inside).is.fault_is
