use Rattle.std.proofs.Common.{FitsSigned, rules, ◌≡◌, length, pos, ap, ◌∙◌, arith}
use Rattle.std.proofs.lemmas.Int.{to_z-of_z}
use mir.Syntax.{w128}
use Rattle.station_curve.specs.declared.years.Year.{Year}
use Rattle.station_curve.specs.Errors.{greatest_of}
use Rattle.station_curve.proofs.GreatestYear.{greatest-none, greatest-more}
use Rattle.station_curve.proofs.greatest.greatest_of_years.Goals as goal

pub loop-year-init : goal.loop-year-init
loop-year-init c = record { amount = λ value all. greatest-none value; steepness = λ value all. greatest-none value }

pub loop-year-preserved : goal.loop-year-preserved
loop-year-preserved c =
    let i = c.loop-year.year-index in
    let y = c.year-item.result in
    let at = c.year-item.is in
    let inside = c.loop-year-test.true in
    let amount : FitsSigned w128 c.max-amount.result = search rules in
    let amount_here : FitsSigned w128 y.sums.amount = search rules in
    let steepness : FitsSigned w128 c.max-steepness.result = search rules in
    let steepness_here : FitsSigned w128 y.sums.steep = search rules in
    record {
      amount = λ value all.
          to_z-of_z w128 c.max-amount.result amount
          ∙ greatest-more value i _ _ _ (c.loop-year.invariant.amount value all)
          (to_z-of_z w128 y.sums.amount amount_here ∙ ap (λ (y : Year). y.sums.amount) at ∙ all i y inside) c.max-amount.ensures.value;
      steepness = λ value all.
          to_z-of_z w128 c.max-steepness.result steepness
          ∙ greatest-more value i _ _ _ (c.loop-year.invariant.steepness value all)
          (to_z-of_z w128 y.sums.steep steepness_here ∙ ap (λ (y : Year). y.sums.steep) at ∙ all i y inside) c.max-steepness.ensures.value;
    }

pub returns-clause-amount : goal.returns-clause-amount
returns-clause-amount c =
    let end : c.loop-year.year-index ≡ length c.args.years.now = omega (arith, c.loop-year-test.false, c.loop-year.auto.year-index-end) in
    λ value all. c.loop-year.invariant.amount value all ∙ ap (λ n. pos (greatest_of value n)) end

pub returns-clause-steepness : goal.returns-clause-steepness
returns-clause-steepness c =
    let end : c.loop-year.year-index ≡ length c.args.years.now = omega (arith, c.loop-year-test.false, c.loop-year.auto.year-index-end) in
    λ value all. c.loop-year.invariant.steepness value all ∙ ap (λ n. pos (greatest_of value n)) end
