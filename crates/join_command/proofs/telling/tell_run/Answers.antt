use Rattle.std.proofs.Common.{inl, refl}
use Rattle.join_command.proofs.telling.tell_run.Goals as goal

pub returns-in-Thread : goal.returns-in-Thread
returns-in-Thread g c = rw c.in-Thread.is (record { told = inl (refl, c.tell.ensures) })

pub returns-in-Device : goal.returns-in-Device
returns-in-Device g c = rw c.in-Device.is (record { told = inl (refl, c.tell-in-Device.ensures) })
