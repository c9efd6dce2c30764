use Rattle.std.proofs.Common.{FitsSigned, ◌+◌, ◌*◌, rules, ap, ◌∙◌, pos, unsigned_abs, w64}
use Rattle.std.proofs.lemmas.Int.{to_z-of_z}
use mir.Syntax.{w128}
use Rattle.slope_agreement.specs.UnitGaps.{unit_gap_of}
use Rattle.slope_agreement.proofs.SlopeLaws.{slope_law}
use Rattle.slope_agreement.proofs.unit_gaps.unit_gap.Goals as goal

pub returns-clause-value : goal.returns-clause-value
unfolding unit_gap_of
returns-clause-value c =
    let speed = to_z-of_z w64 c.args.w c.ranges.w in
    let short : FitsSigned w64 c.step-step.result = search rules in
    let step = to_z-of_z w64 c.step-step.result short in
    let fits : FitsSigned w128 c.from.result = search rules in
    let w = unsigned_abs c.args.w in
    to_z-of_z w128 c.from.result fits ∙ (rw (speed, step) at c.from.ensures)
    ∙ ap (λ s. pos (w * s + 100000 * w + 68754935416)) (ap unsigned_abs (rw speed at c.step-step.ensures.value))

pub returns-clause-law : goal.returns-clause-law
returns-clause-law c = slope_law (unsigned_abs c.args.w)
