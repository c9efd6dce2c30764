-- The levels of a station.
use Rattle.std.proofs.Common.{◌≡◌, ◌∷◌, ℕ, suc, ◌+◌, ◌*◌, ◌^◌, ◌<◌, ◌≤◌, ℤ, pos, negsuc, ◌-ℤ◌, ◌*ℤ◌, ◌≤ℤ◌, Ok, refl, lit<, arith}
use Rattle.std.specs.Prelude.{IsTrue}
use Rattle.std.proofs.Math.Nat.{div-mul-le_self, mul-le-mul_right}
use Rattle.std.proofs.lemmas.Int.{ints, fold-int_max_bounds, fold-int_min_bounds}
use Rattle.std.proofs.lemmas.Nat.{le-div}
use Rattle.curve_law.proofs.CoverLemmas.{by_test}
use Rattle.decimal_text.specs.Rounding.{half_up, rounded_of}
use Rattle.event_list.specs.Shifts.{greatest_add, least_add, scaled, slack_adds}
use Rattle.harmonics_book.specs.declared.book.Book.{Book}
use Rattle.station_curve.specs.Schureman.{predicted_level, predicted_millionths}
use Rattle.station_table.specs.declared.basis.Basis.{Basis}
use Rattle.station_table.specs.declared.offset.Offset.{Offset}
use Rattle.station_table.specs.Bases.{is_equal}
use Rattle.station_table.specs.Offsets.{IsOffset}
use Rattle.year_blend.specs.Places.{AreYears, InDomain}
use Rattle.year_blend.specs.Weights.{total_weight}
use Rattle.zone_time.specs.Zones.{InZoneYears}
use Rattle.station_span.specs.Levels.{level_at, level_in}
use Rattle.station_span.specs.Sites.{Site}
use Rattle.station_span.proofs.SpanLemmas.{file_minute}

-- ---- minutes with a level

-- a minute that the offset moves to one of a harmonics file has a local time by every clock
pub zone_minute : (book : Book) (offset : Offset) (minute : ℤ) → AreYears book.first_year book.years → IsOffset offset
    → InDomain book.first_year book.years (minute -ℤ offset.add) → InZoneYears minute
zone_minute book offset minute are is inside =
    let file = file_minute book.first_year book.years (minute -ℤ offset.add) are inside in
    let low = file.least in
    let high = file.most in
    let least = is.add in
    record { first = omega (arith, ints); last = omega (arith, ints) }

-- the span's first minute has a level, if the station was found for events
pub within_adds : (basis : Basis) → (least_add basis ≤ℤ basis.high.add) × (basis.high.add ≤ℤ greatest_add basis)
within_adds basis = (
  (fold-int_min_bounds basis.high.add (basis.low.add ∷ slack_adds basis.slack) _ refl).0,
  (fold-int_max_bounds basis.high.add (basis.low.add ∷ slack_adds basis.slack) _ refl).0,
)

-- highs and lows have the same offsets, if levels aren't refused
pub level_equal : (basis : Basis) → level_in basis ≡ Ok tt → IsTrue (is_equal basis)
level_equal basis ok = by_test (is_equal basis)
    (λ equal. rw equal refl)
    (λ other. absurd (let none = rw other at ok in cc))

-- ---- the order of the reference's levels is kept by the offset

half_order : (m n unit : ℕ) → 0 < unit → m ≤ n → half_up m unit ≤ half_up n unit
half_order m n unit some less =
    le-div (half_up m unit) (2 * n + unit) (2 * unit) (omega arith) (omega (arith, div-mul-le_self (2 * m + unit) (2 * unit)))

rounded_order : (x y : ℤ) (unit : ℕ) → 0 < unit → x ≤ℤ y → rounded_of x unit ≤ℤ rounded_of y unit
unfolding rounded_of
rounded_order (pos m) (pos n) unit some less = let half = half_order m n unit some (omega (arith, ints)) in omega (arith, ints, half)
rounded_order (pos m) (negsuc n) unit some less = absurd (omega (arith, ints))
rounded_order (negsuc m) (pos n) unit some less = omega (arith, ints)
rounded_order (negsuc m) (negsuc n) unit some less =
    let half = half_order (suc n) (suc m) unit some (omega (arith, ints)) in omega (arith, ints, half)

product_order : (k l : ℤ) (times : ℕ) → k ≤ℤ l → (k *ℤ pos times) ≤ℤ (l *ℤ pos times)
product_order (pos k) (pos l) times less = omega (arith, ints, mul-le-mul_right {m = k} {n = l} times (omega (arith, ints)))
product_order (pos k) (negsuc l) times less = absurd (omega (arith, ints))
product_order (negsuc k) (pos l) times less = omega (arith, ints)
product_order (negsuc k) (negsuc l) times less =
    omega (arith, ints, mul-le-mul_right {m = suc l} {n = suc k} times (omega (arith, ints)))

times_order : (k l times : ℤ) → pos 1 ≤ℤ times → k ≤ℤ l → (k *ℤ times) ≤ℤ (l *ℤ times)
times_order k l (pos times) some less = product_order k l times less
times_order k l (negsuc times) some less = absurd (omega (arith, ints))

scaled_order : (offset : Offset) (k l : ℤ) → IsOffset offset → k ≤ℤ l → scaled offset k ≤ℤ scaled offset l
scaled_order offset k l is less =
    let most = rounded_order (k *ℤ offset.times) (l *ℤ offset.times) 1000000 (lit< tt) (times_order k l offset.times is.times.least less) in
    omega (arith, ints, most)

pub level_order : (book : Book) (site : Site) (k l : ℤ) → IsOffset site.basis.high
    → predicted_level book site.station (k -ℤ site.basis.high.add)
    ≤ℤ predicted_level book site.station (l -ℤ site.basis.high.add) → level_at book site k ≤ℤ level_at book site l
unfolding predicted_millionths
level_order book site k l is less =
    scaled_order site.basis.high _ _ is (rounded_order _ _ (total_weight * 10 ^ 9) (lit< tt) less)
