use Rattle.tide_desk.specs.Promises.{states}
use Rattle.tide_desk.proofs.CompletenessLemmas.{is_complete}
use Rattle.tide_desk.proofs.completeness.runs_are_complete.Goals as goal

pub returns : goal.returns
returns g c = is_complete (states g.F.Files.state g.O.Sink.state g.E.Sink.state g.K.Clock.state)
