use Rattle.tide_server.specs.Promises.{service_states}
use Rattle.tide_server.proofs.CompletenessLemmas.{serves_completely}
use Rattle.tide_server.proofs.completeness.servers_are_complete.Goals as goal

pub returns : goal.returns
returns g c = serves_completely (service_states g.F.Files.state g.D.Door.state g.E.Sink.state g.K.Clock.state)
