use Rattle.std.proofs.Common.{◌≡◌, ◌*◌, ◌^◌, pos, ◌*ℤ◌, ap, arith, lit<, ◌∙◌}
use Rattle.std.proofs.lemmas.Int.{ints, to_z-of_z}
use mir.Syntax.{w64, w128}
use mir.Val.{to_z, of_z}
use Rattle.year_blend.specs.Weights.{total_weight}
use Rattle.station_curve.proofs.Blending.{level_plain, level_blend, mixed_size}
use Rattle.station_curve.proofs.Products.{cast_small, abs_times}
use Rattle.station_curve.proofs.curve.StationCurve.level.Goals as goal

pub returns-in-Plain-clause-value : goal.returns-in-Plain-clause-value
returns-in-Plain-clause-value c =
    let same = to_z-of_z w64 c.args.m c.ranges.m in
    let level = cast_small w128 c.year_level.result (11 * 10 ^ 18) c.year_level.ensures.size (lit< tt) in
    cast_small w128 c.weighted.result (total_weight * 10 ^ 26) c.weighted.ensures.size (lit< tt)
    ∙ rw level at c.weighted.ensures.value ∙ ap (λ l. pos total_weight *ℤ l) (rw same at c.year_level.ensures.value)
    ∙ level_plain c.args.self.now.book c.args.self.now.station c.args.m c.in-Plain.year (rw same at c.in-Plain.ensures.value)

pub returns-in-Plain-clause-size : goal.returns-in-Plain-clause-size
returns-in-Plain-clause-size c =
    let level = cast_small w128 c.year_level.result (11 * 10 ^ 18) c.year_level.ensures.size (lit< tt) in
    let value : c.weighted.result ≡ pos total_weight *ℤ c.year_level.result = rw level at c.weighted.ensures.value in
    rw (cast_small w128 c.weighted.result (total_weight * 10 ^ 26) c.weighted.ensures.size (lit< tt), value)
    (abs_times (pos total_weight) c.year_level.result total_weight (11 * 10 ^ 18) (omega arith) c.year_level.ensures.size)

pub returns-in-Blend-clause-value : goal.returns-in-Blend-clause-value
returns-in-Blend-clause-value c =
    let same = to_z-of_z w64 c.args.m c.ranges.m in
    let in_range = c.in-Blend.ensures.used.3 in
    let x : to_z w64 (of_z w64 c.in-Blend.x) ≡ c.in-Blend.x = omega (arith, ints, in_range.least, in_range.most) in
    let weight : to_z w64 (of_z w64 c.weight.result) ≡ c.weight.result =
    omega (arith, ints, c.weight.ensures.least, c.weight.ensures.most) in
    let earlier = cast_small w128 c.year_level-in-Blend.result (11 * 10 ^ 18) c.year_level-in-Blend.ensures.size (lit< tt) in
    let later = cast_small w128 c.year_level-in-Blend-2.result (11 * 10 ^ 18) c.year_level-in-Blend-2.ensures.size (lit< tt) in
    cast_small w128 c.mixed.result (2 * (total_weight * 10 ^ 26)) c.mixed.ensures.size (lit< tt)
    ∙ level_blend c.args.self.now.book c.args.self.now.station c.args.m c.in-Blend.year c.in-Blend.x c.year_level-in-Blend.result
    c.year_level-in-Blend-2.result c.weight.result c.mixed.result
    (rw same at c.in-Blend.ensures.value) (rw same at c.year_level-in-Blend.ensures.value)
    (rw same at c.year_level-in-Blend-2.ensures.value)
    (rw x at c.weight.ensures.value) (rw (weight, earlier, later) at c.mixed.ensures.value)

pub returns-in-Blend-clause-size : goal.returns-in-Blend-clause-size
returns-in-Blend-clause-size c =
    let weight : to_z w64 (of_z w64 c.weight.result) ≡ c.weight.result =
    omega (arith, ints, c.weight.ensures.least, c.weight.ensures.most) in
    let earlier = cast_small w128 c.year_level-in-Blend.result (11 * 10 ^ 18) c.year_level-in-Blend.ensures.size (lit< tt) in
    let later = cast_small w128 c.year_level-in-Blend-2.result (11 * 10 ^ 18) c.year_level-in-Blend-2.ensures.size (lit< tt) in
    let value = simp (weight, earlier, later) at c.mixed.ensures.value in
    rw (cast_small w128 c.mixed.result (2 * (total_weight * 10 ^ 26)) c.mixed.ensures.size (lit< tt), value)
    (mixed_size c.weight.result c.year_level-in-Blend.result c.year_level-in-Blend-2.result (11 * 10 ^ 18)
    c.weight.ensures.least c.weight.ensures.most c.year_level-in-Blend.ensures.size c.year_level-in-Blend-2.ensures.size)
