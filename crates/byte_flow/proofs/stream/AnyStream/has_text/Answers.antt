use Rattle.byte_flow.proofs.DeviceGiven.{left_some}
use Rattle.byte_flow.proofs.stream.AnyStream.has_text.Goals as goal

pub returns : goal.returns
returns g c = left_some (g.S.Source.remaining c.args.self.now)
