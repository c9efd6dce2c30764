-- Level and slope by the position of a minute.
use Rattle.std.proofs.Common.{◌≡◌, ℕ, ◌+◌, ◌-◌, ◌*◌, ◌^◌, ◌≤◌, ℤ, pos, negsuc, ◌+ℤ◌, ◌-ℤ◌, ◌*ℤ◌, ◌≤ℤ◌, ap, ◌∙◌, arith}
use Rattle.std.specs.Prelude.{unsigned_abs}
use Rattle.std.proofs.lemmas.Int.{ints}
use Rattle.fixed_sine.specs.Circle.{radian}
use Rattle.year_blend.specs.declared.parts.Place.TheVariants.{Plain, Blend}
use Rattle.year_blend.specs.Weights.{total_weight, weight_of, weight_slope_of}
use Rattle.station_curve.proofs.Products.{abs_times}
use Rattle.station_curve.specs.Waves.{heights_of}
use Rattle.station_curve.specs.Levels.{minutes_into, blended, drift}
use Rattle.harmonics_book.specs.declared.book.Book.{Book}
use Rattle.harmonics_book.specs.declared.book.Station.{Station}
use Rattle.year_blend.specs.Places.{place_of}
use Rattle.station_curve.specs.Schureman.{predicted_level, predicted_slope, predicted_year_level, predicted_year_slope}
use Rattle.station_curve.specs.Curves.{waves_of, AreTimes}
use Rattle.station_curve.proofs.Circling.{IsSince}
use Rattle.station_curve.proofs.Predicting.{year_level_is}

pub level_plain : (b : Book) (s : Station) (m : ℤ) (year : ℕ) → Plain year ≡ place_of b.first_year b.years m
    → pos total_weight *ℤ predicted_year_level b s m year ≡ predicted_level b s m
unfolding predicted_level
level_plain b s m year at = ap (blended (predicted_year_level b s m)) at

pub level_blend : (b : Book) (s : Station) (m : ℤ) (year : ℕ) (x earlier later weight value : ℤ) → Blend year x
    ≡ place_of b.first_year b.years m → earlier ≡ predicted_year_level b s m (year - 1) → later ≡ predicted_year_level b s m year → weight
    ≡ weight_of x → value ≡ ((pos total_weight -ℤ weight) *ℤ earlier) +ℤ (weight *ℤ later) → value ≡ predicted_level b s m
unfolding predicted_level
level_blend b s m year x earlier later weight value at is_earlier is_later is_weight is_value =
    is_value ∙ simp (is_earlier, is_later, is_weight) (ap (blended (predicted_year_level b s m)) at)

no_drift : (z : ℤ) → z ≡ z +ℤ pos 0
no_drift z = omega (arith, ints)

pub slope_plain : (b : Book) (s : Station) (m : ℤ) (year : ℕ) → Plain year ≡ place_of b.first_year b.years m
    → pos total_weight *ℤ predicted_year_slope b s m year ≡ predicted_slope b s m
unfolding predicted_slope
slope_plain b s m year at = no_drift (pos total_weight *ℤ predicted_year_slope b s m year)
    ∙ ap (λ p. blended (predicted_year_slope b s m) p +ℤ drift (predicted_year_level b s m) p) at

-- the mean level cancels in the difference of two years' levels
cancels : (d a b : ℤ) → a -ℤ b ≡ (d +ℤ a) -ℤ (d +ℤ b)
cancels d a b = omega (arith, ints)

pub level_change : (b : Book) (s : Station) (m : ℤ) (year : ℕ) (later earlier : ℤ) → AreTimes b
    → IsSince b.first_year year m → IsSince b.first_year (year - 1) m
    → later ≡ heights_of (minutes_into b.first_year year m) (waves_of b s year)
    → earlier ≡ heights_of (minutes_into b.first_year (year - 1) m) (waves_of b s (year - 1))
    → later -ℤ earlier ≡ predicted_year_level b s m year -ℤ predicted_year_level b s m (year - 1)
level_change b s m year later earlier times later_since earlier_since is_later is_earlier =
    rw (year_level_is b s m year times later_since, year_level_is b s m (year - 1) times earlier_since, ← is_later, ← is_earlier)
    (cancels (pos (10 ^ 9) *ℤ s.datum) later earlier)

pub slope_blend : (b : Book) (s : Station) (m : ℤ) (year : ℕ) (x earlier later weight change value drifted : ℤ)
    → Blend year x ≡ place_of b.first_year b.years m → earlier ≡ predicted_year_slope b s m (year - 1) → later ≡ predicted_year_slope b s m year
    → weight ≡ weight_of x → change ≡ predicted_year_level b s m year -ℤ predicted_year_level b s m (year - 1)
    → drifted ≡ (weight_slope_of x *ℤ pos radian) *ℤ change
    → value ≡ ((pos total_weight -ℤ weight) *ℤ earlier) +ℤ (weight *ℤ later) → value +ℤ drifted ≡ predicted_slope b s m
unfolding predicted_slope
slope_blend b s m year x earlier later weight change value drifted at is_earlier is_later is_weight is_change is_drifted is_value =
    simp (is_value, is_drifted, is_earlier, is_later, is_weight, is_change)
    (ap (λ p. blended (predicted_year_slope b s m) p +ℤ drift (predicted_year_level b s m) p) at)

-- bounds on the size of sums and products
abs_plus : (x y : ℤ) → unsigned_abs (x +ℤ y) ≤ unsigned_abs x + unsigned_abs y
abs_plus x y = omega (arith, ints)

parts_size : (a b most : ℕ) (earlier later : ℤ) → unsigned_abs earlier ≤ most → unsigned_abs later ≤ most
    → unsigned_abs ((pos b *ℤ earlier) +ℤ (pos a *ℤ later)) ≤ (b + a) * most
parts_size a b most earlier later h k =
    let first = abs_times (pos b) earlier b most (omega arith) h in
    let second = abs_times (pos a) later a most (omega arith) k in
    omega (arith, first, second, abs_plus (pos b *ℤ earlier) (pos a *ℤ later))

pub mixed_size : (weight earlier later : ℤ) (most : ℕ) → pos 0 ≤ℤ weight → weight ≤ℤ pos total_weight
    → unsigned_abs earlier ≤ most → unsigned_abs later ≤ most
    → unsigned_abs (((pos total_weight -ℤ weight) *ℤ earlier) +ℤ (weight *ℤ later)) ≤ total_weight * most
mixed_size (pos a) earlier later most least below h k =
    let rest : pos total_weight -ℤ pos a ≡ pos (total_weight - a) = omega (arith, ints, below) in
    let all : (total_weight - a) + a ≡ total_weight = omega (arith, ints, below) in
    rw rest (rw all at (parts_size a (total_weight - a) most earlier later h k))
mixed_size (negsuc a) earlier later most least below h k = absurd (omega (arith, ints, least))
