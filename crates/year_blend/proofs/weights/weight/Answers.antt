use Rattle.std.proofs.Common.{◌≡◌, pos, ◌+ℤ◌, ◌-ℤ◌, unsigned_abs, to_z, of_z, w64, ap, ◌∙◌, arith}
use Rattle.std.proofs.lemmas.Int.{ints}
use Rattle.year_blend.specs.Weights.{weight_of}
use Rattle.year_blend.proofs.weights.weight.Goals as goal

pub returns-clause-value : goal.returns-clause-value
returns-clause-value c =
    let whole : to_z w64 c.weight_after.result ≡ pos c.weight_after.result = omega (arith, ints) in
    let minute : pos (unsigned_abs (to_z w64 (of_z w64 (to_z w64 (of_z w64 c.args.x) +ℤ pos 60)))) -ℤ pos 60 ≡ c.args.x =
    omega (arith, ints)
    in
    whole ∙ c.weight_after.ensures.value ∙ ap weight_of minute
