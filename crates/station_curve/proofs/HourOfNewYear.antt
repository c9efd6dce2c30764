-- Level and slope from an hour before a new year to an hour after it, by the constants of both years.
use Rattle.std.proofs.Common.{◌≡◌, ℕ, suc, ◌-◌, ◌<◌, ◌⊎◌, inl, inr, sym, ap, ◌∙◌, arith, ℤ, pos, negsuc, ◌+ℤ◌, ◌-ℤ◌, ◌*ℤ◌}
use Rattle.std.proofs.lemmas.Int.{ints, by_lt_z}
use Rattle.fixed_sine.specs.Circle.{radian}
use Rattle.station_curve.specs.Levels.{blended, drift}
use Rattle.year_blend.specs.declared.parts.Place.TheVariants.{Plain, Blend}
use Rattle.year_blend.specs.Places.{InDomain, start_of, place_of}
use Rattle.year_blend.specs.Weights.{total_weight, weight_of, weight_slope_of, IsWithinHourOfNewYear}
use Rattle.year_blend.proofs.PlaceLemmas.{start_of-later, place_of-only}
use Rattle.year_blend.proofs.StretchLemmas.{plain_inside}
use Rattle.harmonics_book.specs.declared.book.Book.{Book}
use Rattle.harmonics_book.specs.declared.book.Station.{Station}
use Rattle.station_curve.specs.Schureman.{predicted_level, predicted_slope, predicted_year_level, predicted_year_slope}
use Rattle.station_curve.specs.Curves.{AreTimes}

-- two values by their weights, and the part that comes from the moving weight
abbrev pub mixed_at : ℤ → ℤ → ℤ → ℤ
mixed_at x earlier later = ((pos total_weight -ℤ weight_of x) *ℤ earlier) +ℤ (weight_of x *ℤ later)

abbrev pub drift_at : ℤ → ℤ → ℤ
drift_at x change = (weight_slope_of x *ℤ pos radian) *ℤ change

-- at both ends one value counts alone, and the slope of the weight is 0
mixed_at-end : (a b : ℤ) → pos total_weight *ℤ b ≡ mixed_at (pos 60) a b
unfolding weight_of
mixed_at-end a b = omega (arith, ints)

mixed_at-begin : (a b : ℤ) → pos total_weight *ℤ a ≡ mixed_at (negsuc 59) a b
unfolding weight_of
mixed_at-begin a b = omega (arith, ints)

drift_at-end : (c : ℤ) → pos 0 ≡ drift_at (pos 60) c
unfolding weight_slope_of
drift_at-end c = omega (arith, ints)

drift_at-begin : (c : ℤ) → pos 0 ≡ drift_at (negsuc 59) c
unfolding weight_slope_of
drift_at-begin c = omega (arith, ints)

-- a minute at most an hour from the start of a year other than the first
pub record IsAround (b : Book) (m : ℤ) (k : ℕ) (x : ℤ) : Type 0 where
  pub times : AreTimes b
  pub domain : InDomain b.first_year b.years m
  pub inner : suc k < b.years
  pub distance : x ≡ m -ℤ start_of b.first_year (suc k)
  pub in_range : IsWithinHourOfNewYear x

-- a minute at most an hour from a new year is in the blend or at one of its ends
abbrev IsPlacedAround : Book → ℤ → ℕ → ℤ → Type 0
IsPlacedAround b m k x =
    (place_of b.first_year b.years m ≡ Blend (suc k) x)
    ⊎ (((x ≡ pos 60) × (place_of b.first_year b.years m ≡ Plain (suc k))) ⊎ ((x ≡ negsuc 59) × (place_of b.first_year b.years m ≡ Plain k)))

placed_around : (b : Book) (m : ℤ) (k : ℕ) (x : ℤ) → IsAround b m k x → IsPlacedAround b m k x
placed_around b m k x around =
    let first = b.first_year in
    let years = b.years in
    let low = around.times.years.least in
    let distance = around.distance in
    let least = around.in_range.least in
    let most = around.in_range.most in
    let inner = around.inner in
    let earlier = start_of-later first k (suc k) low (omega arith) in
    let next = start_of-later first (suc k) (suc (suc k)) low (omega arith) in
    by_lt_z (negsuc 59) x
    (λ after. by_lt_z x (pos 60)
    (λ before. inl (sym (place_of-only first years m around.times.years around.domain (Blend (suc k) x) (record {
      later = omega arith;
      inner = inner;
      distance = distance;
      above = after;
      below = before;
    }))))
    (λ end. inr (inl (omega (arith, ints), plain_inside first years m (suc k) low inner (omega (arith, ints)) (omega (arith, ints))))))
    (λ begin. inr (inr (omega (arith, ints), plain_inside first years m k low (omega arith) (omega (arith, ints)) (omega (arith, ints)))))

before : (k : ℕ) → suc k - 1 ≡ k
before k = omega arith

pub level_around : (b : Book) (s : Station) (m : ℤ) (k : ℕ) (x : ℤ) → IsAround b m k x
    → predicted_level b s m ≡ mixed_at x (predicted_year_level b s m k) (predicted_year_level b s m (suc k))
unfolding predicted_level
level_around b s m k x around =
    let earlier = predicted_year_level b s m k in
    let later = predicted_year_level b s m (suc k) in
    elim (placed_around b m k x around) [
      | inl blend ↦ ap (blended (predicted_year_level b s m)) blend ∙ ap (λ i. mixed_at x (predicted_year_level b s m i) later) (before k)
      | inr plain ↦ elim plain [
        | inl end ↦ ap (blended (predicted_year_level b s m)) end.1 ∙ mixed_at-end earlier later ∙ ap (λ z. mixed_at z earlier later) (sym end.0)
        | inr begin ↦ ap (blended (predicted_year_level b s m)) begin.1 ∙ mixed_at-begin earlier later
            ∙ ap (λ z. mixed_at z earlier later) (sym begin.0)
      ]
    ]

pub slope_around : (b : Book) (s : Station) (m : ℤ) (k : ℕ) (x : ℤ) → IsAround b m k x
    → predicted_slope b s m ≡ mixed_at x (predicted_year_slope b s m k) (predicted_year_slope b s m (suc k))
    +ℤ drift_at x (predicted_year_level b s m (suc k) -ℤ predicted_year_level b s m k)
unfolding predicted_slope
slope_around b s m k x around =
    let earlier = predicted_year_slope b s m k in
    let later = predicted_year_slope b s m (suc k) in
    let change = predicted_year_level b s m (suc k) -ℤ predicted_year_level b s m k in
    elim (placed_around b m k x around) [
      | inl blend ↦ ap (λ p. blended (predicted_year_slope b s m) p +ℤ drift (predicted_year_level b s m) p) blend
          ∙ ap (λ i. mixed_at x (predicted_year_slope b s m i) later +ℤ drift_at x (predicted_year_level b s m (suc k) -ℤ predicted_year_level b s m i)) (before k)
      | inr plain ↦ elim plain [
        | inl end ↦ ap (λ p. blended (predicted_year_slope b s m) p +ℤ drift (predicted_year_level b s m) p) end.1
            ∙ ap (λ v. v +ℤ pos 0) (mixed_at-end earlier later) ∙ ap (λ d. mixed_at (pos 60) earlier later +ℤ d) (drift_at-end change)
            ∙ ap (λ z. mixed_at z earlier later +ℤ drift_at z change) (sym end.0)
        | inr begin ↦ ap (λ p. blended (predicted_year_slope b s m) p +ℤ drift (predicted_year_level b s m) p) begin.1
            ∙ ap (λ v. v +ℤ pos 0) (mixed_at-begin earlier later)
            ∙ ap (λ d. mixed_at (negsuc 59) earlier later +ℤ d) (drift_at-begin change)
            ∙ ap (λ z. mixed_at z earlier later +ℤ drift_at z change) (sym begin.0)
      ]
    ]
