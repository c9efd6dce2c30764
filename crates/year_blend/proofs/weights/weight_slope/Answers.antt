use Rattle.std.proofs.Common.{◌≡◌, pos, ◌+ℤ◌, ◌-ℤ◌, unsigned_abs, to_z, of_z, w64, ap, ◌∙◌, arith}
use Rattle.std.proofs.lemmas.Int.{ints}
use Rattle.year_blend.specs.Weights.{weight_slope_of}
use Rattle.year_blend.proofs.weights.weight_slope.Goals as goal

pub returns-clause-value : goal.returns-clause-value
returns-clause-value c =
    let whole : to_z w64 c.slope_after.result ≡ pos c.slope_after.result = omega (arith, ints) in
    let minute : pos (unsigned_abs (to_z w64 (of_z w64 (to_z w64 (of_z w64 c.args.x) +ℤ pos 60)))) -ℤ pos 60 ≡ c.args.x =
    omega (arith, ints)
    in
    whole ∙ c.slope_after.ensures.value ∙ ap weight_slope_of minute
