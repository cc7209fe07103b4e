use Rattle.std.proofs.Common.{inl, refl}
use Rattle.cube_command.proofs.telling.tell_fault.Goals as goal

pub tell-requires-clause-line : goal.tell-requires-clause-line
tell-requires-clause-line g c = rw c.in-Thread.is at c.requires.fault

pub tell-requires-in-Device-clause-line : goal.tell-requires-in-Device-clause-line
tell-requires-in-Device-clause-line g c = rw c.in-Device.is at c.requires.fault

pub returns-in-Thread : goal.returns-in-Thread
returns-in-Thread g c = rw c.in-Thread.is (record { told = inl (refl, c.tell.ensures) })

pub returns-in-Device : goal.returns-in-Device
returns-in-Device g c = rw c.in-Device.is (record { told = inl (refl, c.tell-in-Device.ensures) })
