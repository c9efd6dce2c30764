use Rattle.std.proofs.Common.{◌+◌, ◌*◌, ◌^◌, pos, ◌-ℤ◌, ◌*ℤ◌, ap, lit<, ◌∙◌}
use Rattle.std.proofs.lemmas.Int.{to_z-of_z}
use mir.Syntax.{w64, w128}
use Rattle.fixed_sine.specs.Circle.{radian}
use Rattle.year_blend.specs.Weights.{total_weight}
use Rattle.station_curve.proofs.Blending.{slope_plain, slope_blend, level_change}
use Rattle.station_curve.proofs.Products.{cast_small, kept_small, abs_below, abs_span, abs_plus, abs_minus, plus, plus_fits, minus, minus_fits, under}
use Rattle.station_curve.proofs.curve.StationCurve.slope.Goals as goal

pub weighted-requires-clause-value : goal.weighted-requires-clause-value
weighted-requires-clause-value c = kept_small w128 c.year_slope.result (10 ^ 26) c.year_slope.ensures.size (lit< tt)

pub overflow_sub-change : goal.overflow_sub-change
overflow_sub-change c =
    minus_fits w64 c.year_heights.result c.year_heights-in-Blend.result (10 ^ 18) (10 ^ 18)
    c.year_heights.ensures.size c.year_heights-in-Blend.ensures.size (lit< tt)

pub weight-requires : goal.weight-requires
weight-requires c =
    let in_range = c.in-Blend.ensures.used.3 in
    rw (cast_small w64 c.in-Blend.x 60 (abs_span c.in-Blend.x 59 in_range.least in_range.most) (lit< tt)) in_range

pub mixed-requires-clause-earlier : goal.mixed-requires-clause-earlier
mixed-requires-clause-earlier c =
    kept_small w128 c.year_slope-in-Blend.result (10 ^ 26) c.year_slope-in-Blend.ensures.size (lit< tt)

pub mixed-requires-clause-later : goal.mixed-requires-clause-later
mixed-requires-clause-later c =
    kept_small w128 c.year_slope-in-Blend-2.result (10 ^ 26) c.year_slope-in-Blend-2.ensures.size (lit< tt)

pub mixed-requires-clause-least : goal.mixed-requires-clause-least
mixed-requires-clause-least c =
    let small = abs_below c.weight.result total_weight c.weight.ensures.least c.weight.ensures.most in
    rw (cast_small w64 c.weight.result total_weight small (lit< tt)) c.weight.ensures.least

pub mixed-requires-clause-most : goal.mixed-requires-clause-most
mixed-requires-clause-most c =
    let small = abs_below c.weight.result total_weight c.weight.ensures.least c.weight.ensures.most in
    rw (cast_small w64 c.weight.result total_weight small (lit< tt)) c.weight.ensures.most

pub drift-requires-clause-change : goal.drift-requires-clause-change
drift-requires-clause-change c =
    rw (minus w64 c.year_heights.result c.year_heights-in-Blend.result (10 ^ 18) (10 ^ 18)
    c.year_heights.ensures.size c.year_heights-in-Blend.ensures.size (lit< tt))
    (abs_minus c.year_heights.result c.year_heights-in-Blend.result (10 ^ 18) (10 ^ 18) c.year_heights.ensures.size c.year_heights-in-Blend.ensures.size)

pub drift-requires-clause-in_range : goal.drift-requires-clause-in_range
drift-requires-clause-in_range c =
    let in_range = c.in-Blend.ensures.used.3 in
    rw (cast_small w64 c.in-Blend.x 60 (abs_span c.in-Blend.x 59 in_range.least in_range.most) (lit< tt)) in_range

pub overflow_add-result : goal.overflow_add-result
overflow_add-result c =
    plus_fits w128 c.mixed.result c.drift.result (2 * (total_weight * 10 ^ 26)) ((64800000 * radian) * (2 * 10 ^ 18))
    c.mixed.ensures.size c.drift.ensures.size (lit< tt)

pub returns-in-Plain-clause-value : goal.returns-in-Plain-clause-value
returns-in-Plain-clause-value c =
    let same = to_z-of_z w64 c.args.m c.ranges.m in
    let level = cast_small w128 c.year_slope.result (10 ^ 26) c.year_slope.ensures.size (lit< tt) in
    cast_small w128 c.weighted.result (total_weight * 10 ^ 26) c.weighted.ensures.size (lit< tt)
    ∙ rw level at c.weighted.ensures.value ∙ ap (λ l. pos total_weight *ℤ l) (rw same at c.year_slope.ensures.value)
    ∙ slope_plain c.args.self.now.book c.args.self.now.station c.args.m c.in-Plain.year (rw same at c.in-Plain.ensures.value)

pub returns-in-Plain-clause-size : goal.returns-in-Plain-clause-size
returns-in-Plain-clause-size c =
    let most = total_weight * 10 ^ 26 in
    under _ most (10 ^ 37) (kept_small w128 c.weighted.result most c.weighted.ensures.size (lit< tt)) (lit< tt)

pub returns-in-Blend-clause-value : goal.returns-in-Blend-clause-value
returns-in-Blend-clause-value c =
    let b = c.args.self.now.book in
    let s = c.args.self.now.station in
    let same = to_z-of_z w64 c.args.m c.ranges.m in
    let used = rw same at c.in-Blend.ensures.used in
    let in_range = c.in-Blend.ensures.used.3 in
    let x = cast_small w64 c.in-Blend.x 60 (abs_span c.in-Blend.x 59 in_range.least in_range.most) (lit< tt) in
    let small = abs_below c.weight.result total_weight c.weight.ensures.least c.weight.ensures.most in
    let weight = cast_small w64 c.weight.result total_weight small (lit< tt) in
    let earlier = cast_small w128 c.year_slope-in-Blend.result (10 ^ 26) c.year_slope-in-Blend.ensures.size (lit< tt) in
    let later = cast_small w128 c.year_slope-in-Blend-2.result (10 ^ 26) c.year_slope-in-Blend-2.ensures.size (lit< tt) in
    let high = c.year_heights.result in
    let low = c.year_heights-in-Blend.result in
    let apart = minus w64 high low (10 ^ 18) (10 ^ 18) c.year_heights.ensures.size c.year_heights-in-Blend.ensures.size (lit< tt) in
    let change = level_change b s c.args.m c.in-Blend.year high low
    c.in-Blend.ensures.valid.limits.times used.1.hour.least used.2.hour.least (rw same at c.year_heights.ensures.value)
    (rw same at c.year_heights-in-Blend.ensures.value) in
    plus w128 c.mixed.result c.drift.result (2 * (total_weight * 10 ^ 26)) ((64800000 * radian) * (2 * 10 ^ 18))
    c.mixed.ensures.size c.drift.ensures.size (lit< tt)
    ∙ slope_blend b s c.args.m c.in-Blend.year c.in-Blend.x c.year_slope-in-Blend.result
    c.year_slope-in-Blend-2.result c.weight.result (high -ℤ low) c.mixed.result c.drift.result
    (rw same at c.in-Blend.ensures.value) (rw same at c.year_slope-in-Blend.ensures.value)
    (rw same at c.year_slope-in-Blend-2.ensures.value)
    (rw x at c.weight.ensures.value) change (rw (x, apart) at c.drift.ensures.value)
    (rw (weight, earlier, later) at c.mixed.ensures.value)

pub returns-in-Blend-clause-size : goal.returns-in-Blend-clause-size
returns-in-Blend-clause-size c =
    let mixed = 2 * (total_weight * 10 ^ 26) in
    let drifted = (64800000 * radian) * (2 * 10 ^ 18) in
    rw (plus w128 c.mixed.result c.drift.result mixed drifted c.mixed.ensures.size c.drift.ensures.size (lit< tt))
    (under _ (mixed + drifted) (10 ^ 37)
    (abs_plus c.mixed.result c.drift.result mixed drifted c.mixed.ensures.size c.drift.ensures.size) (lit< tt))
