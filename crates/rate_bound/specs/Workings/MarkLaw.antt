-- The curve of the level less a mark is lawful.
use Rattle.std.proofs.Common.{◌≡◌, ℕ, zero, suc, ◌+◌, ◌-◌, ◌*◌, ◌^◌, ◌<◌, ◌≤◌, Bool, Some, sym, ap, ◌∙◌, arith, ℤ, pos, ◌+ℤ◌, ◌-ℤ◌, ◌*ℤ◌, ◌≤ℤ◌, ◌<ℤ◌}
use Rattle.std.specs.Prelude.{unsigned_abs}
use Rattle.std.proofs.lemmas.Int.{ints}
use Rattle.std.proofs.lemmas.Nat.{mul-le}
use Rattle.curve_law.specs.CurveSpec.{IsCell, IsRate, IsLawful}
use Rattle.curve_law.specs.declared.quiet.TheConstants.{MOST_MINUTES}
use Rattle.station_curve.specs.Waves.{amount_of}
use Rattle.station_curve.specs.Sums.{near_of}
use Rattle.station_curve.proofs.Gaps.{scaled_gap}
use Rattle.station_curve.proofs.Products.{abs_times, abs_plus, abs_minus, abs_within, abs_span, pos_abs}
use Rattle.year_blend.specs.declared.parts.Stretch.{Stretch}
use Rattle.year_blend.specs.declared.parts.Stretch.TheVariants.{Within, Across}
use Rattle.year_blend.specs.Weights.{total_weight}
use Rattle.year_blend.proofs.StretchLemmas.{IsFound, stretch_of-found}
use Rattle.rate_bound.specs.declared.version.Version.{Version}
use Rattle.rate_bound.specs.declared.version.Version.TheVariants.{First, Second}
use Rattle.rate_bound.specs.Rates.{level_rate_in, blended_level_rate, book_sums, predicted_level_rate}
use Rattle.rate_bound.specs.CurveSpecs.{over_mark, mark_spec}
use Rattle.rate_bound.specs.Scale.{IsScale}
use Rattle.station_curve.proofs.CellSteps.{level_bound, plain_level_gap, step_over, over_level_gap}
use Rattle.station_curve.proofs.PlainSteps.{IsSpan, plain_step}
use Rattle.rate_bound.specs.Workings.TurnLaw.{within_below}
use Rattle.rate_bound.specs.Workings.RateForms.{blended_level_rate-pos, some-same}
use Rattle.station_curve.proofs.Ranges.{are_ends, level_small, in_domain}
use Rattle.station_curve.specs.Curves.{IsPrediction, Prediction, waves_of}
use Rattle.station_curve.specs.Schureman.{predicted_level}
use Rattle.station_curve.proofs.WithinLimits.{sums_within_limits}

-- adding `c` to both numbers leaves their difference unchanged
pub same_mark : (x y c : ℤ) → (x +ℤ c) -ℤ (y +ℤ c) ≡ x -ℤ y
same_mark x y c = omega (arith, ints)

-- `times` is a factor from 0 to 10^8 millionths
pub record IsTimes (times : ℤ) : Type 0 where
  pub size : unsigned_abs times ≤ 10 ^ 8
  pub same : pos (unsigned_abs times) ≡ times

times_of : (times plus mark : ℤ) → IsScale times plus mark → IsTimes times
times_of times plus mark scale =
    let least = scale.times_least in
    record { size = abs_within times 1 (10 ^ 8) least scale.times_most; same = pos_abs times (omega (arith, ints)) }

mark_step : (times plus mark here there : ℤ) (most : ℕ) (rate : ℤ) → IsTimes times → unsigned_abs (there -ℤ here) ≤ most
    → times *ℤ pos most ≡ rate
    → pos (unsigned_abs (over_mark times plus mark there -ℤ over_mark times plus mark here)) ≤ℤ rate
mark_step times plus mark here there most rate is gap same =
    let scaled = scaled_gap times there here most gap in
    let raised = pos (10 ^ 6 * total_weight * 10 ^ 9) *ℤ (plus -ℤ mark) in
    let all : pos (unsigned_abs times * most) ≡ rate = ap (λ t. t *ℤ pos most) is.same ∙ same in
    rw (same_mark (times *ℤ there) (times *ℤ here) raised, sym all) (omega (arith, ints, scaled))

rate_small : (times : ℤ) (most : ℕ) (rate : ℤ) → IsTimes times → most ≤ 2 * 10 ^ 26 → times *ℤ pos most ≡ rate
    → (rate *ℤ pos MOST_MINUTES) <ℤ pos (5 * 10 ^ 37)
rate_small times most rate is small same =
    let all : pos (unsigned_abs times * most) ≡ rate = ap (λ t. t *ℤ pos most) is.same ∙ same in
    let product = mul-le (unsigned_abs times) most (10 ^ 8) (2 * 10 ^ 26) is.size small in
    rw (sym all) (omega (arith, ints, product))

rate_within : (version : Version) (c : Prediction) (times plus mark : ℤ) (slack : Bool) (a : ℤ) (n year : ℕ) (rate : ℤ)
    → IsPrediction c → IsScale times plus mark → IsSpan c.book a n
    → IsFound c.book.first_year c.book.years a n (Within year)
    → times *ℤ (pos total_weight *ℤ (book_sums c.book c.station year).near) ≡ rate
    → IsRate (mark_spec version c times plus mark slack) a n rate
rate_within version c times plus mark slack a n year rate valid scale span found is =
    let near : near_of (waves_of c.book c.station year) ≤ 3 * 10 ^ 15 =
    (sums_within_limits c.book c.station year valid.limits (within_below c.book a n year span found)).near in
    let t = times_of times plus mark scale in
    let most = total_weight * near_of (waves_of c.book c.station year) in
    record {
      small = rate_small times most rate t (omega (arith, near)) is;
      steps = λ k below. mark_step times plus mark (predicted_level c.book c.station (a +ℤ pos k)) (predicted_level c.book c.station ((a +ℤ pos k) +ℤ pos 1)) most rate t
          (plain_level_gap c.book c.station (a +ℤ pos k) year (plain_step c.book a n year k span found below)) is;
    }

bound_small : (first second more less : ℕ) (high : ℕ) → high ≤ 3 * 10 ^ 15 → more ≤ 10 ^ 9 → less ≤ 10 ^ 9
    → total_weight * high + 64800000 * (10 ^ 9 * (more + less)) ≤ 2 * 10 ^ 26
bound_small first second more less high small one other = omega (arith, small, one, other)

rate_across : (version : Version) (c : Prediction) (times plus mark : ℤ) (slack : Bool) (a : ℤ) (n year : ℕ) (rate : ℤ)
    → IsPrediction c → IsScale times plus mark → IsSpan c.book a n
    → IsFound c.book.first_year c.book.years a n (Across year)
    → times *ℤ blended_level_rate (book_sums c.book c.station (year - 1)) (book_sums c.book c.station year) ≡ rate
    → IsRate (mark_spec version c times plus mark slack) a n rate
rate_across version c times plus mark slack a n zero rate valid scale span found is = absurd (omega (arith, found.later))
rate_across version c times plus mark slack a n (suc k) rate valid scale span found is =
    let before : suc k - 1 ≡ k = omega arith in
    let inner = found.inner in
    let earlier = sums_within_limits c.book c.station k valid.limits (omega (arith, inner)) in
    let later = sums_within_limits c.book c.station (suc k) valid.limits inner in
    let near : near_of (waves_of c.book c.station k) ≤ 3 * 10 ^ 15 = earlier.near in
    let next : near_of (waves_of c.book c.station (suc k)) ≤ 3 * 10 ^ 15 = later.near in
    let t = times_of times plus mark scale in
    let same : times *ℤ pos (level_bound c.book c.station k) ≡ rate =
    ap (λ z. times *ℤ z) (sym (blended_level_rate-pos (waves_of c.book c.station k) (waves_of c.book c.station (suc k)))) ∙ rw before at is in
    record {
      small = rate_small times (level_bound c.book c.station k) rate t (bound_small 0 0 (amount_of (waves_of c.book c.station (suc k)))
          (amount_of (waves_of c.book c.station k)) _ (omega (arith, near, next)) later.amount earlier.amount) same;
      steps = λ i below. mark_step times plus mark (predicted_level c.book c.station (a +ℤ pos i)) (predicted_level c.book c.station ((a +ℤ pos i) +ℤ pos 1))
          (level_bound c.book c.station k) rate t
          (over_level_gap c.book c.station (a +ℤ pos i) k (step_over c.book a n k i span.times span.first span.last span.short found below)) same;
    }

rate_in : (version : Version) (c : Prediction) (times plus mark : ℤ) (slack : Bool) (a : ℤ) (n : ℕ) (rate : ℤ)
    (s : Stretch) → IsPrediction c → IsScale times plus mark → IsSpan c.book a n
    → IsFound c.book.first_year c.book.years a n s → level_rate_in version times (book_sums c.book c.station) s ≡ Some rate
    → IsRate (mark_spec version c times plus mark slack) a n rate
rate_in version c times plus mark slack a n rate (Within year) valid scale span found is =
    rate_within version c times plus mark slack a n year rate valid scale span found (some-same _ rate is)
rate_in First c times plus mark slack a n rate (Across year) valid scale span found is = cc
rate_in Second c times plus mark slack a n rate (Across year) valid scale span found is =
    rate_across Second c times plus mark slack a n year rate valid scale span found (some-same _ rate is)

mark_rate : (version : Version) (c : Prediction) (times plus mark : ℤ) (slack : Bool) (a : ℤ) (n : ℕ) (rate : ℤ)
    → IsPrediction c → IsScale times plus mark → IsCell (mark_spec version c times plus mark slack) a n
    → predicted_level_rate version times c.book c.station a n ≡ Some rate
    → IsRate (mark_spec version c times plus mark slack) a n rate
unfolding predicted_level_rate
mark_rate version c times plus mark slack a n rate valid scale cell is =
    let first = cell.first in
    let last = cell.last in
    let begins = valid.begins in
    let ends = valid.ends in
    let span : IsSpan c.book a n = record {
      times = valid.limits.times;
      first = record { least = omega (arith, ints); most = omega (arith, ints) };
      last = record { least = omega (arith, ints); most = omega (arith, ints) };
      short = cell.few;
    } in
    rate_in version c times plus mark slack a n rate _ valid scale span
    (stretch_of-found c.book.first_year c.book.years a n span.times.years span.first span.last) is

-- the size of a level less a mark is below 5 * 10^36, if `times`, `plus` and `mark` are in their ranges
pub mark_small : (times plus mark level : ℤ) → IsScale times plus mark
    → unsigned_abs level ≤ total_weight * (11 * 10 ^ 18) → unsigned_abs (over_mark times plus mark level) < 5 * 10 ^ 36
mark_small times plus mark level scale small =
    let t = times_of times plus mark scale in
    let added = abs_span plus 9999999999 scale.plus_least scale.plus_most in
    let marked = abs_span mark 9999999999 scale.mark_least scale.mark_most in
    let apart = abs_minus plus mark (10 ^ 10) (10 ^ 10) added marked in
    let scaled = abs_times times level (10 ^ 8) (total_weight * (11 * 10 ^ 18)) t.size small in
    let raised = abs_times (pos (10 ^ 6 * total_weight * 10 ^ 9)) (plus -ℤ mark) (10 ^ 6 * total_weight * 10 ^ 9)
    (2 * 10 ^ 10) (omega arith) (omega (arith, apart)) in
    let all = abs_plus (times *ℤ level) (pos (10 ^ 6 * total_weight * 10 ^ 9) *ℤ (plus -ℤ mark))
    (10 ^ 8 * (total_weight * (11 * 10 ^ 18))) (10 ^ 6 * total_weight * 10 ^ 9 * (2 * 10 ^ 10)) scaled raised in
    omega (arith, all)

-- the curve of the level less a mark keeps the law of a curve: its values are small, and its rates bound
-- their change in a minute
pub mark_lawful : (version : Version) (c : Prediction) (times plus mark : ℤ) (slack : Bool) → IsPrediction c
    → IsScale times plus mark → IsLawful (mark_spec version c times plus mark slack)
mark_lawful version c times plus mark slack valid scale =
    let all = are_ends c.book.first_year c.book.years valid.limits.times.years in
    let begins = valid.begins in
    let ends = valid.ends in
    let early = all.early in
    let late = all.late in
    record {
      forward = valid.forward;
      early = omega (arith, ints);
      late = omega (arith, ints);
      values = λ m at.
          let small = mark_small times plus mark (predicted_level c.book c.station m) scale
          (level_small c.book c.station m valid.limits (in_domain c m valid (record { least = at.first; most = at.last }))) in
          omega (arith, small);
      rates = λ a n rate cell is. mark_rate version c times plus mark slack a n rate valid scale cell is;
    }
