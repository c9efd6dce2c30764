use Rattle.std.proofs.Common.{◌≡◌, ◌^◌, pos, ◌+ℤ◌, ◌*ℤ◌, ap, ◌∙◌, arith, lit<, sym}
use Rattle.std.proofs.lemmas.Int.{ints, to_z-of_z}
use mir.Syntax.{w64, w128}
use mir.Val.{to_z, of_z}
use Rattle.station_curve.proofs.Products.{cast_small, kept_small}
use Rattle.station_curve.proofs.Ready.{datum_of, datum_small, valid_of}
use Rattle.station_curve.proofs.Predicting.{year_level_is}
use Rattle.station_curve.proofs.curve.StationCurve.year_level.Goals as goal

pub mean_level-requires : goal.mean_level-requires
mean_level-requires c =
    kept_small w64 c.self.inside.datum (10 ^ 10) (datum_small c.self.inside c.self.invariant) (lit< tt)

pub overflow_add-result : goal.overflow_add-result
overflow_add-result c =
    omega (arith, ints, c.mean_level.ensures.size, c.year_heights.ensures.size, c.from.ensures)

pub returns-clause-value : goal.returns-clause-value
returns-clause-value c =
    let heights : c.from.result ≡ c.year_heights.result =
    c.from.ensures ∙ cast_small w64 c.year_heights.result (10 ^ 18) c.year_heights.ensures.size (lit< tt) in
    let same = to_z-of_z w64 c.args.m c.ranges.m in
    let sum : to_z w128 (of_z w128 (to_z w128 (of_z w128 c.mean_level.result) +ℤ to_z w128 (of_z w128 c.from.result)))
    ≡ c.mean_level.result +ℤ c.from.result =
    omega (arith, ints, c.mean_level.ensures.size, c.year_heights.ensures.size, heights) in
    let datum : to_z w64 (of_z w64 c.self.inside.datum) ≡ c.args.self.now.station.datum =
    datum_of c.self.inside c.args.self.now c.self.invariant c.self.view_is in
    sum ∙ ap (λ x. x +ℤ c.from.result) (c.mean_level.ensures.value ∙ ap (λ d. pos (10 ^ 9) *ℤ d) datum)
    ∙ ap (λ y. (pos (10 ^ 9) *ℤ c.args.self.now.station.datum) +ℤ y) (heights ∙ rw same at c.year_heights.ensures.value)
    ∙ sym (year_level_is c.args.self.now.book c.args.self.now.station c.args.m c.args.year
    (valid_of c.self.inside c.args.self.now c.self.invariant c.self.view_is).limits.times c.requires.hour.least)

pub returns-clause-size : goal.returns-clause-size
returns-clause-size c =
    omega (arith, ints, c.mean_level.ensures.size, c.year_heights.ensures.size, c.from.ensures)
