use Rattle.std.proofs.Common.{ap, ◌∙◌}
use Rattle.highest_water.specs.Workings.Findings.{under_finding}
use Rattle.highest_water.proofs.JudgingLemmas.{under_finding-is_under, single_finding-at}
use Rattle.highest_water.proofs.peak_cell_finding.finding_on.Goals as goal

pub returns-in-Under : goal.returns-in-Under
returns-in-Under g c =
    rw c.in-Under.is (c.under_finding.ensures ∙ ap (under_finding c.args.number) c.is_under.ensures
    ∙ under_finding-is_under (g.C.Curve.state c.args.curve.now).curve_model.curve_spec c.args.highest c.args.at.minute
    c.args.number c.in-Under.minutes)

pub returns-in-Single : goal.returns-in-Single
returns-in-Single g c =
    rw c.in-Single.is (c.single_finding.ensures ∙ single_finding-at (g.C.Curve.state c.args.curve.now).curve_model.curve_spec
    c.args.highest c.args.at c.args.number c.requires.value)
