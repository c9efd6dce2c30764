use Rattle.std.proofs.Common.{FitsSigned, rules, pos, ◌*ℤ◌, ap, sym, ◌∙◌, arith}
use Rattle.std.proofs.lemmas.Int.{to_z-of_z}
use mir.Syntax.{w64, w128}
use Rattle.year_blend.specs.declared.parts.Place.TheVariants.{Plain}
use Rattle.year_blend.specs.Weights.{total_weight}
use Rattle.station_curve.proofs.Approximating.{full_weight, approximate_slope-at, slope_approximate}
use Rattle.station_curve.proofs.curve.StationCurve.approximate_slope.Goals as goal

pub returns-in-Some-clause-value : goal.returns-in-Some-clause-value
returns-in-Some-clause-value c =
    let same = to_z-of_z w64 c.args.m c.ranges.m in
    let place = (rw same at c.in-Some.ensures.year).0 in
    full_weight c.approximate_year_slope.result c.by_full_weight.result
    (omega (arith, c.approximate_year_slope.ensures.size)) c.by_full_weight.ensures
    ∙ rw (approximate_slope-at c.args.self.now.book c.args.self.now.station c.args.m (Plain c.in-Some.year) place)
    (ap (λ z. pos total_weight *ℤ z) (rw same at c.approximate_year_slope.ensures.value))

pub returns-in-Some-clause-approximate : goal.returns-in-Some-clause-approximate
returns-in-Some-clause-approximate c =
    rw (returns-in-Some-clause-value c) (slope_approximate c.args.self.now c.args.m c.in-Some.ensures.valid c.requires)

pub returns-in-None-clause-value : goal.returns-in-None-clause-value
returns-in-None-clause-value c =
    let same = to_z-of_z w64 c.args.m c.ranges.m in
    let fits : FitsSigned w128 c.slope.result = search rules in
    to_z-of_z w128 c.slope.result fits ∙ rw same at c.slope.ensures.value
    ∙ sym (approximate_slope-at c.args.self.now.book c.args.self.now.station c.args.m _ (rw same at c.in-None.ensures.year).2)

pub returns-in-None-clause-approximate : goal.returns-in-None-clause-approximate
returns-in-None-clause-approximate c =
    rw (returns-in-None-clause-value c) (slope_approximate c.args.self.now c.args.m c.in-None.ensures.valid c.requires)
