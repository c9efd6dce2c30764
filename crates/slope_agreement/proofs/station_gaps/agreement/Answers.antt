use Rattle.std.proofs.Common.{FitsSigned, rules, ◌≡◌, ℕ, refl, sym, ap, ◌∙◌, arith, to_z}
use Rattle.std.specs.Int.{int_max}
use Rattle.std.proofs.lemmas.Int.{ints, clamps, to_z-of_z}
use mir.Syntax.{w128}
use Rattle.station_curve.specs.Curves.{sums_for}
use Rattle.slope_agreement.specs.Agreements.{year_agreement, greatest, agreement_of}
use Rattle.slope_agreement.proofs.YearGaps.{greatest-next, station_gap}
use Rattle.slope_agreement.proofs.station_gaps.agreement.Goals as goal

pub loop-year-init : goal.loop-year-init
unfolding greatest
loop-year-init c = record { value = refl; least = omega (arith, ints); most = omega (arith, ints) }

pub loop-year-preserved : goal.loop-year-preserved
loop-year-preserved c =
    let year = c.loop-year.year in
    let fits : FitsSigned w128 c.max-most.result = search rules in
    let same = to_z-of_z w128 c.max-most.result fits in
    let short : FitsSigned w128 c.year_agreement.result = search rules in
    let part = to_z-of_z w128 c.year_agreement.result short in
    let greater = rw part at c.max-most.ensures.value in
    let size = c.year_agreement.ensures.size in
    let value = λ (y : ℕ). year_agreement (sums_for c.args.station.now y) in
    let here : c.year_agreement.result ≡ value year = c.year_agreement.ensures.value ∙ ap year_agreement c.sums.ensures.value in
    record {
      value = same ∙ greater ∙ ap (λ z. int_max z c.year_agreement.result) c.loop-year.invariant.value
          ∙ ap (int_max (greatest value year)) here ∙ sym (greatest-next value year);
      least = omega (arith, ints, same, c.max-most.ensures.self_bound, c.loop-year.invariant.least);
      most = omega (arith, ints, clamps, same, greater, size, c.loop-year.invariant.most);
    }

pub returns-clause-law : goal.returns-clause-law
returns-clause-law c =
    λ m year at plain.
    let curve = c.args.station.now in
    let value = λ (y : ℕ). year_agreement (sums_for curve y) in
    let is : to_z w128 c.loop-year.most-bits ≡ agreement_of curve = c.loop-year.invariant.value
    ∙ ap (greatest value) (let e : c.loop-year.year ≡ curve.book.years = omega arith in e) in
    rw is (station_gap curve m year c.limits_hold.ensures at plain)
