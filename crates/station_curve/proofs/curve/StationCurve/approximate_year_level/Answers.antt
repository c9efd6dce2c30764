use Rattle.std.proofs.Common.{◌≡◌, ◌*◌, ◌^◌, pos, ◌+ℤ◌, ◌*ℤ◌, ap, ◌∙◌, lit<}
use Rattle.std.proofs.lemmas.Int.{to_z-of_z}
use mir.Syntax.{w64, w128}
use mir.Val.{to_z, of_z}
use Rattle.station_curve.specs.Levels.{minutes_into}
use Rattle.station_curve.specs.Approximate.{approximate_year_level}
use Rattle.station_curve.proofs.Products.{cast_small, kept_small, abs_plus, plus, plus_fits}
use Rattle.station_curve.proofs.Ready.{datum_of, datum_small}
use Rattle.station_curve.proofs.WithinLimits.{approximate_heights-present}
use Rattle.station_curve.specs.Curves.{waves_of}
use Rattle.station_curve.proofs.curve.StationCurve.approximate_year_level.Goals as goal

pub mean_level-requires : goal.mean_level-requires
mean_level-requires c =
    kept_small w64 c.self.inside.datum (10 ^ 10) (datum_small c.self.inside c.self.invariant) (lit< tt)

pub overflow_add-result : goal.overflow_add-result
overflow_add-result c =
    plus_fits w128 c.mean_level.result c.in_billionths.result (10 ^ 19) (2 * 10 ^ 18) c.mean_level.ensures.size c.in_billionths.ensures.size (lit< tt)

pub returns-clause-size : goal.returns-clause-size
returns-clause-size c =
    rw (plus w128 c.mean_level.result c.in_billionths.result (10 ^ 19) (2 * 10 ^ 18) c.mean_level.ensures.size c.in_billionths.ensures.size (lit< tt))
    (abs_plus c.mean_level.result c.in_billionths.result (10 ^ 19) (2 * 10 ^ 18) c.mean_level.ensures.size c.in_billionths.ensures.size)

pub returns-clause-value : goal.returns-clause-value
unfolding approximate_year_level
returns-clause-value c =
    let b = c.args.self.now.book in
    let s = c.args.self.now.station in
    let at = c.waves_at-at.ensures in
    let minutes = rw (to_z-of_z w64 c.args.m c.ranges.m) at at.minutes in
    let datum : to_z w64 (of_z w64 c.self.inside.datum) ≡ s.datum =
    datum_of c.self.inside c.args.self.now c.self.invariant c.self.view_is in
    plus w128 c.mean_level.result c.in_billionths.result (10 ^ 19) (2 * 10 ^ 18) c.mean_level.ensures.size c.in_billionths.ensures.size (lit< tt)
    ∙ ap (λ x. x +ℤ c.in_billionths.result) (c.mean_level.ensures.value ∙ ap (λ d. pos (10 ^ 9) *ℤ d) datum)
    ∙ ap (λ y. (pos (10 ^ 9) *ℤ s.datum) +ℤ y)
    (rw (cast_small w64 c.approximate_heights.result (30518 * 10 ^ 9) c.approximate_heights.ensures.size (lit< tt))
    at c.in_billionths.ensures.value
    ∙ ap (λ z. pos (2 ^ 15) *ℤ z) ((rw (minutes, at.waves) at c.approximate_heights.ensures.value)
    ∙ (approximate_heights-present (minutes_into b.first_year c.args.year c.args.m) (waves_of b s c.args.year))))
