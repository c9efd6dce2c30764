use Rattle.tide_desk.specs.Promises.{states}
use Rattle.tide_desk.proofs.PassedOnLemmas.{checks_came, checks_certified}
use Rattle.tide_desk.proofs.passed_on.what_was_certified_is_checked.Goals as goal

pub returns-clause-held : goal.returns-clause-held
returns-clause-held g c =
    checks_certified (states g.F.Files.state g.O.Sink.state g.E.Sink.state g.K.Clock.state)
    (states g.G.Files.state g.P.Sink.state g.D.Sink.state g.L.Clock.state) c.what_certify_answers_is_accepted.ensures

pub returns-clause-came : goal.returns-clause-came
returns-clause-came g c =
    checks_came (states g.F.Files.state g.O.Sink.state g.E.Sink.state g.K.Clock.state)
    (states g.G.Files.state g.P.Sink.state g.D.Sink.state g.L.Clock.state) c.certified_is_accepted.ensures
