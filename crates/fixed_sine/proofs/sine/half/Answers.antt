use Rattle.std.proofs.Common.{◌≡◌, ◌∙◌, pos, to_z, w64, sym, ap, arith}
use Rattle.std.proofs.lemmas.Int.{ints}
use Rattle.fixed_sine.specs.Sine.{quarter_of}
use Rattle.fixed_sine.proofs.CircleLemmas.{half_of-folded}
use Rattle.fixed_sine.proofs.sine.half.Goals as goal

pub returns-clause-value : goal.returns-clause-value
returns-clause-value c =
    let kept : to_z w64 c.quarter.result ≡ pos c.quarter.result = omega (arith, ints) in
    kept ∙ c.quarter.ensures.value ∙ ap quarter_of c.min.ensures ∙ sym (half_of-folded c.args.place c.requires)
