use Rattle.std.proofs.Common.{FitsSigned, rules, ◌≡◌, ◌+◌, ◌-◌, ◌*◌, inl, inr, ap, ◌∙◌, w32, w64, arith, ℤ, pos, ◌-ℤ◌, ◌*ℤ◌, ◌+ℤ◌}
use Rattle.std.proofs.lemmas.Bool.{cases_lt}
use Rattle.std.proofs.lemmas.Int.{to_z-of_z}
use Rattle.fixed_sine.specs.Workings.Degrees.{IsReady}
use Rattle.fixed_sine.specs.Sine.{isin_of}
use Rattle.fixed_sine.specs.BinaryAngle.{units_of}
use Rattle.fixed_sine.proofs.CircleLemmas.{isin_of_size}
use Rattle.fixed_sine.proofs.DegreeLemmas.{IsGain, gained, first-sine, second-sine}
use Rattle.fixed_sine.proofs.RowLemmas.{summed}
use Rattle.fixed_sine.proofs.binary_angle.binary_angle_sine.Goals as goal

pub returns-else-gain-lt-UNSURE-clause-value : goal.returns-else-gain-lt-UNSURE-clause-value
returns-else-gain-lt-UNSURE-clause-value c =
    let row = c.degree_at-degree in
    let k = c.spot_of-spot.result.degrees in
    let r = c.spot_of-spot.result.r in
    let small = c.spot_of-spot.ensures.part in
    let whole = c.gain_over-gain.result.whole in
    let sine = row.result.sine in
    let slope_fits : FitsSigned w64 row.result.slope = search rules in
    let bend_fits : FitsSigned w32 row.result.bend = search rules in
    let sine_fits : FitsSigned w32 sine = search rules in
    let mean_fits : FitsSigned w64 c.mean_slope.result = search rules in
    let slope = to_z-of_z w64 row.result.slope slope_fits in
    let bend = to_z-of_z w32 row.result.bend bend_fits in
    let mean = to_z-of_z w64 c.mean_slope.result mean_fits in
    let split = rw (mean, c.mean_slope.ensures.value, slope, bend) at c.gain_over-gain.ensures.value in
    let gain : (s b : ℤ) → IsReady s b row.result.slope row.result.bend → IsGain whole (pos r *ℤ (s -ℤ (pos r *ℤ b))) =
    λ s b ready. gained r s b row.result.slope row.result.bend whole c.gain_over-gain.result.rest small
    row.ensures.slope_size row.ensures.bend_size ready split (omega arith) (omega arith)
    in
    let sum : sine +ℤ whole ≡ isin_of (600000000 * k + r) =
    elim (cases_lt k 180) [
      | inl first ↦ first-sine k r whole sine first small (row.ensures.first first).0 (gain _ _ (row.ensures.first first).1)
      | inr second ↦ (let back : (k - 180) + 180 ≡ k = omega (arith, second) in
          rw back at (second-sine (k - 180) r whole sine (omega (arith, c.spot_of-spot.ensures.degrees)) small
          (row.ensures.second second).0 (gain _ _ (row.ensures.second second).1)))
    ]
    in
    let value = sum ∙ ap isin_of c.spot_of-spot.ensures.value in
    summed c.from.result whole (isin_of (units_of c.args.binary_angle)) sine
    (c.from.ensures ∙ to_z-of_z w32 sine sine_fits) value (omega (arith, c.gain_over-gain.ensures.size))
    (isin_of_size (units_of c.args.binary_angle) (omega arith))

pub returns-else-gain-lt-UNSURE-clause-size : goal.returns-else-gain-lt-UNSURE-clause-size
returns-else-gain-lt-UNSURE-clause-size c =
    rw (returns-else-gain-lt-UNSURE-clause-value c) (isin_of_size (units_of c.args.binary_angle) (omega arith))
