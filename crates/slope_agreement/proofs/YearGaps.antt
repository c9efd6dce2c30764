-- The difference between the rise of a station's level in a minute outside blends and its slope.
use Rattle.std.proofs.Common.{List, ◌≡◌, ℕ, zero, suc, None, ◌+◌, ◌*◌, ◌^◌, ◌<◌, ◌≤◌, length, inl, inr, refl, ap, ◌∙◌, arith, ℤ, pos, neg_ℤ, ◌+ℤ◌, ◌-ℤ◌, ◌*ℤ◌, ◌≤ℤ◌}
use Rattle.std.specs.Prelude.{unsigned_abs}
use Rattle.std.specs.Int.{int_max}
use Rattle.std.proofs.lemmas.Bool.{cases_lt}
use Rattle.std.proofs.lemmas.Int.{ints, clamps}
use Rattle.harmonics_book.specs.declared.book.Station.{Station}
use Rattle.harmonics_book.specs.declared.book.Book.{Book}
use Rattle.harmonics_book.specs.Books.{IsBook, IsStation}
use Rattle.year_blend.specs.declared.parts.Place.TheVariants.{Plain}
use Rattle.year_blend.specs.Places.{start_of, place_of}
use Rattle.year_blend.specs.Weights.{total_weight}
use Rattle.year_blend.proofs.PlaceLemmas.{place_of-rule}
use Rattle.station_curve.specs.Waves.{heights_of, falls_of, amount_of, steepness_of, WaveSpec}
use Rattle.station_curve.specs.Sums.{far_of, sums_of}
use Rattle.station_curve.specs.Levels.{minutes_into}
use Rattle.station_curve.specs.Curves.{first_fault, AreTimes, IsPredicted, IsPrediction, Prediction, prediction_of, sums_for, waves_of}
use Rattle.rate_bound.specs.Rates.{book_sums}
use Rattle.slope_agreement.specs.Agreements.{predicted_gap, predicted_gap_before, IsPlainMinute, year_agreement, greatest, agreement_of, predicted_agreement}
use Rattle.slope_agreement.proofs.WaveGaps.{heights_gap, heights_gap_before}
use Rattle.station_curve.proofs.Ranges.{all_minutes_valid, place_used}
use Rattle.station_curve.proofs.Touched.{all_touched, touched}
use Rattle.station_curve.proofs.WithinLimits.{limits_of, over-touched}
use Rattle.station_curve.specs.Schureman.{predicted_level, predicted_slope, predicted_year_level, predicted_year_slope}
use Rattle.station_curve.proofs.Predicting.{year_level_is, year_slope_is}

-- the gap of the level by one year's constants, with the mean level
year_slope_from : (mean a b falls : ℤ) (m : ℕ) → unsigned_abs ((pos 34377467708 *ℤ (a -ℤ b)) +ℤ falls) ≤ m
    → unsigned_abs ((pos 34377467708 *ℤ ((mean +ℤ a) -ℤ (mean +ℤ b))) -ℤ neg_ℤ falls) ≤ m
year_slope_from mean a b falls m near = omega (arith, ints, near)

minutes_onward : (start m : ℤ) → start ≤ℤ m → unsigned_abs (((m +ℤ pos 1) -ℤ start) +ℤ pos 60) ≡ unsigned_abs ((m -ℤ start) +ℤ pos 60) + 1
minutes_onward start m begun = omega (arith, ints)

-- the bound by a year's waves
abbrev pub year_gap : Book → Station → ℕ → ℕ
year_gap b s year =
    far_of (waves_of b s year) + 100000 * steepness_of (waves_of b s year) + 68754935416 * amount_of (waves_of b s year)

since_begun : (start m : ℤ) → start ≤ℤ m → pos 0 ≤ℤ ((m -ℤ start) +ℤ pos 60)
since_begun start m begun = omega (arith, ints)

next_begun : (start m : ℤ) → start ≤ℤ m → start ≤ℤ (m +ℤ pos 1)
next_begun start m begun = omega (arith, ints)

year_level_gap : (b : Book) (s : Station) (m : ℤ) (year : ℕ) → AreTimes b → start_of b.first_year year ≤ℤ m
    → unsigned_abs ((pos 34377467708 *ℤ (predicted_year_level b s (m +ℤ pos 1) year -ℤ predicted_year_level b s m year))
    -ℤ predicted_year_slope b s m year) ≤ year_gap b s year
year_level_gap b s m year times begun =
    let t = minutes_into b.first_year year m in
    let hs = waves_of b s year in
    let start = start_of b.first_year year in
    rw (
      year_level_is b s (m +ℤ pos 1) year times (since_begun start (m +ℤ pos 1) (next_begun start m begun)),
      year_level_is b s m year times (since_begun start m begun),
      year_slope_is b s m year times (since_begun start m begun),
      minutes_onward start m begun,
    )
    (year_slope_from (pos (10 ^ 9) *ℤ s.datum) (heights_of (t + 1) hs) (heights_of t hs) (falls_of t hs)
    (year_gap b s year) (heights_gap t hs))

year_level_gap_before : (b : Book) (s : Station) (m : ℤ) (year : ℕ) → AreTimes b → start_of b.first_year year ≤ℤ m
    → unsigned_abs ((pos 34377467708 *ℤ (predicted_year_level b s (m +ℤ pos 1) year -ℤ predicted_year_level b s m year))
    -ℤ predicted_year_slope b s (m +ℤ pos 1) year) ≤ year_gap b s year
year_level_gap_before b s m year times begun =
    let t = minutes_into b.first_year year m in
    let hs = waves_of b s year in
    let start = start_of b.first_year year in
    let next = since_begun start (m +ℤ pos 1) (next_begun start m begun) in
    rw (
      year_level_is b s (m +ℤ pos 1) year times next,
      year_level_is b s m year times (since_begun start m begun),
      year_slope_is b s (m +ℤ pos 1) year times next,
      minutes_onward start m begun,
    )
    (year_slope_from (pos (10 ^ 9) *ℤ s.datum) (heights_of (t + 1) hs) (heights_of t hs) (falls_of (t + 1) hs)
    (year_gap b s year) (heights_gap_before t hs))

-- the gap times the total weight
weighted_gap : (a b s : ℤ) (m : ℕ) → unsigned_abs ((pos 34377467708 *ℤ (a -ℤ b)) -ℤ s) ≤ m
    → unsigned_abs ((pos 34377467708 *ℤ ((pos total_weight *ℤ a) -ℤ (pos total_weight *ℤ b)))
    -ℤ ((pos total_weight *ℤ s) +ℤ pos 0)) ≤ total_weight * m
weighted_gap a b s m near = omega (arith, ints, near)

plain_gap : (b : Book) (s : Station) (m : ℤ) (year : ℕ) → AreTimes b → start_of b.first_year year ≤ℤ m
    → place_of b.first_year b.years m ≡ Plain year → place_of b.first_year b.years (m +ℤ pos 1) ≡ Plain year
    → predicted_gap b s m ≤ total_weight * year_gap b s year
unfolding predicted_level predicted_slope
plain_gap b s m year times begun here there =
    rw (there, here)
    (weighted_gap (predicted_year_level b s (m +ℤ pos 1) year) (predicted_year_level b s m year) (predicted_year_slope b s m year)
    (year_gap b s year) (year_level_gap b s m year times begun))

plain_gap_before : (b : Book) (s : Station) (m : ℤ) (year : ℕ) → AreTimes b → start_of b.first_year year ≤ℤ m
    → place_of b.first_year b.years m ≡ Plain year → place_of b.first_year b.years (m +ℤ pos 1) ≡ Plain year
    → predicted_gap_before b s m ≤ total_weight * year_gap b s year
unfolding predicted_level predicted_slope
plain_gap_before b s m year times begun here there =
    rw (there, here)
    (weighted_gap (predicted_year_level b s (m +ℤ pos 1) year) (predicted_year_level b s m year)
    (predicted_year_slope b s (m +ℤ pos 1) year) (year_gap b s year) (year_level_gap_before b s m year times begun))

-- the greatest bound of the years
pub greatest-next : (value : ℕ → ℤ) (n : ℕ) → greatest value (n + 1) ≡ int_max (greatest value n) (value n)
unfolding greatest
greatest-next value n = ap (greatest value) (let e : n + 1 ≡ suc n = omega arith in e)

more : (a b c : ℤ) → a ≤ℤ b → a ≤ℤ int_max b c
more a b c h = omega (arith, ints, clamps, h)

last : (b c : ℤ) → c ≤ℤ int_max b c
last b c = omega (arith, ints, clamps)

greatest_bound : (value : ℕ → ℤ) (n year : ℕ) → year < n → value year ≤ℤ greatest value n
unfolding greatest
greatest_bound value zero year below = absurd (omega (arith, below))
greatest_bound value (suc n) year below =
    elim (cases_lt year n) [
      | inl before ↦ more (value year) (greatest value n) (value n) (greatest_bound value n year before)
      | inr at ↦ (let same : year ≡ n = omega arith in rw same (last (greatest value n) (value n)))
    ]

below_all : (gap most : ℕ) (year all : ℤ) → gap ≤ most → pos most ≡ year → year ≤ℤ all → pos gap ≤ℤ all
below_all gap most year all small is bound = omega (arith, ints, small, is, bound)

year_agreement-pos : (far steep amount : ℕ) → pos (total_weight * (far + 100000 * steep + 68754935416 * amount))
    ≡ pos total_weight *ℤ ((pos far +ℤ (pos 100000 *ℤ pos steep)) +ℤ (pos 68754935416 *ℤ pos amount))
year_agreement-pos far steep amount = refl

-- the greatest bound is one for each gap that keeps to the year's waves
bound_of_year : (c : Prediction) (m : ℤ) (year gap : ℕ) → IsPrediction c → IsPredicted c m
    → IsPlainMinute c.book.first_year c.book.years m year
    → (start_of c.book.first_year year ≤ℤ m → gap ≤ total_weight * year_gap c.book c.station year) → pos gap ≤ℤ agreement_of c
bound_of_year c m year gap valid at plain keeps =
    let rule = rw plain.here
    at (place_of-rule c.book.first_year c.book.years m valid.limits.times.years plain.first) in
    let used = rw plain.here at (place_used c m valid at) in
    let hs = waves_of c.book c.station year in
    below_all gap (total_weight * year_gap c.book c.station year) (year_agreement (sums_of hs)) (agreement_of c)
    (keeps rule.0.begun)
    (year_agreement-pos (far_of hs) (steepness_of hs) (amount_of hs))
    (rw (over-touched c.book c.station c.first c.last year used.touched)
    at (greatest_bound (λ y. year_agreement (sums_for c y)) c.book.years year used.below))

pub station_gap : (c : Prediction) (m : ℤ) (year : ℕ) → IsPrediction c → IsPredicted c m
    → IsPlainMinute c.book.first_year c.book.years m year → pos (predicted_gap c.book c.station m) ≤ℤ agreement_of c
station_gap c m year valid at plain =
    bound_of_year c m year (predicted_gap c.book c.station m) valid at plain
    (λ begun. plain_gap c.book c.station m year valid.limits.times begun plain.here plain.there)

station_gap_before : (c : Prediction) (m : ℤ) (year : ℕ) → IsPrediction c → IsPredicted c m
    → IsPlainMinute c.book.first_year c.book.years m year → pos (predicted_gap_before c.book c.station m) ≤ℤ agreement_of c
station_gap_before c m year valid at plain =
    bound_of_year c m year (predicted_gap_before c.book c.station m) valid at plain
    (λ begun. plain_gap_before c.book c.station m year valid.limits.times begun plain.here plain.there)

-- the bound of a station from the sums over all constituents of the book
greatest-same : (f g : ℕ → ℤ) (n : ℕ) → ((year : ℕ) → year < n → f year ≡ g year) → greatest f n ≡ greatest g n
unfolding greatest
greatest-same f g zero same = refl
greatest-same f g (suc n) same =
    ap (λ z. int_max z (f n)) (greatest-same f g n (λ year below. same year (omega (arith, below))))
    ∙ ap (int_max (greatest g n)) (same n (omega arith))

pub agreement_same : (b : Book) (s : Station) → IsPrediction (prediction_of b s) → agreement_of (prediction_of b s) ≡ predicted_agreement b s
agreement_same b s valid =
    greatest-same (λ year. year_agreement (sums_for (prediction_of b s) year)) (λ year. year_agreement (book_sums b s year)) b.years
    (λ year below. ap (λ (hs : List WaveSpec). year_agreement (sums_of hs)) (over-touched b s _ _ year (all_touched b year valid.limits.times below)))

-- all minutes of a station of a book
IsWhole : Book → Station → ℤ → ℕ → Type 0
IsWhole b s m year =
    IsPrediction (prediction_of b s) × IsPredicted (prediction_of b s) m × IsPlainMinute b.first_year b.years m year

whole : (b : Book) (s : Station) (m : ℤ) (year : ℕ) → IsBook b → IsStation (length b.constituents) s → first_fault b s b.years ≡ None
    → IsPlainMinute b.first_year b.years m year → IsWhole b s m year
unfolding IsWhole
whole b s m year book station none plain = (
  all_minutes_valid b s (limits_of b s book station none),
  record { least = plain.first.least; most = plain.first.most },
  plain,
)

pub book_gap : (b : Book) (s : Station) (m : ℤ) (year : ℕ) → IsBook b → IsStation (length b.constituents) s
    → first_fault b s b.years ≡ None → IsPlainMinute b.first_year b.years m year
    → pos (predicted_gap b s m) ≤ℤ predicted_agreement b s
unfolding IsWhole
book_gap b s m year book station none plain =
    let all = whole b s m year book station none plain in
    rw (agreement_same b s all.0) at (station_gap (prediction_of b s) m year all.0 all.1 all.2)

pub book_gap_before : (b : Book) (s : Station) (m : ℤ) (year : ℕ) → IsBook b → IsStation (length b.constituents) s
    → first_fault b s b.years ≡ None → IsPlainMinute b.first_year b.years m year
    → pos (predicted_gap_before b s m) ≤ℤ predicted_agreement b s
unfolding IsWhole
book_gap_before b s m year book station none plain =
    let all = whole b s m year book station none plain in
    rw (agreement_same b s all.0) at (station_gap_before (prediction_of b s) m year all.0 all.1 all.2)
