use Rattle.tide_desk.specs.Promises.{states}
use Rattle.tide_desk.proofs.CompletenessLemmas.{ends_by_answer, ends_by_what_came}
use Rattle.tide_desk.proofs.completeness.runs_end_by_their_answers.Goals as goal

pub returns-clause-held : goal.returns-clause-held
returns-clause-held g c = ends_by_answer (states g.F.Files.state g.O.Sink.state g.E.Sink.state g.K.Clock.state)

pub returns-clause-came : goal.returns-clause-came
returns-clause-came g c = ends_by_what_came (states g.F.Files.state g.O.Sink.state g.E.Sink.state g.K.Clock.state)
