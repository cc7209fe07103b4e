use Rattle.join_command.proofs.telling.tell_fault.Goals as goal

pub returns-in-Stranger : goal.returns-in-Stranger
returns-in-Stranger g c = rw c.in-Stranger.is (record { told = c.tell_read.ensures.told })
