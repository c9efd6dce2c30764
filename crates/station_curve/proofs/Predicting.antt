-- Level and slope by one year's constants are sums over the waves of the year, from an hour before it on.
use Rattle.std.proofs.Common.{◌≡◌, ℕ, ◌^◌, ◌<◌, List, [], ◌∷◌, length, ℤ, pos, neg_ℤ, ◌+ℤ◌, ◌*ℤ◌, sym, ap, ◌∙◌, zero-add, arith, refl}
use Rattle.std.specs.Prelude.{unsigned_abs, fold, All}
use Rattle.std.specs.List.{range_with_len}
use Rattle.std.proofs.lemmas.List.Elements.{All-head, All-tail}
use Rattle.std.proofs.lemmas.List.Folds.{fold-map}
use Rattle.std.proofs.lemmas.List.FromFn.{get_or-range_with_len, length-range_with_len}
use Rattle.fixed_sine.specs.Sine.{isin_of, icos_of}
use Rattle.harmonics_book.specs.declared.book.Station.{Station}
use Rattle.harmonics_book.specs.declared.book.Book.{Book}
use Rattle.station_curve.specs.Waves.{height_at, fall_at, heights_of, falls_of}
use Rattle.station_curve.specs.Levels.{minutes_into}
use Rattle.station_curve.specs.Schureman.{constituents_of, amplitude_of, speed_of, phase_of, predicted_year_level, predicted_year_slope}
use Rattle.station_curve.specs.Curves.{wave_of, waves_of, AreTimes}
use Rattle.station_curve.proofs.Products.{pos_abs}
use Rattle.station_curve.proofs.Circling.{IsSince, phase_onward}

-- sums of equal terms
sums_same : (u v : ℕ → ℤ) (ks : List ℕ) → All (λ k. u k ≡ v k) ks → (a : ℤ)
    → fold (λ sum k. sum +ℤ u k) a ks ≡ fold (λ sum k. sum +ℤ v k) a ks
sums_same u v [] all a = refl
sums_same u v (k ∷ ks) all a =
    ap (λ x. fold (λ sum k. sum +ℤ u k) (a +ℤ x) ks) (All-head (λ k. u k ≡ v k) k ks all)
    ∙ sums_same u v ks (All-tail (λ k. u k ≡ v k) k ks all) (a +ℤ v k)

each_below : (u v : ℕ → ℤ) (n : ℕ) → ((k : ℕ) → k < n → u k ≡ v k) → All (λ k. u k ≡ v k) (range_with_len 0 n)
each_below u v n same k d h =
    let below : k < n = omega (arith, h, length-range_with_len 0 n) in
    rw (get_or-range_with_len 0 n k d below, zero-add k) (same k below)

-- a constituent's part is that of its wave
part_of_level : (b : Book) (s : Station) (year k : ℕ) (m : ℤ) → AreTimes b → k < length b.constituents
    → IsSince b.first_year year m → height_at (minutes_into b.first_year year m) (wave_of b s year k)
    ≡ amplitude_of b s year k *ℤ icos_of (phase_of b s year m k)
part_of_level b s year k m times in_list since =
    ap (λ p. amplitude_of b s year k *ℤ icos_of p)
    (phase_onward b s year m k (unsigned_abs (speed_of b k)) (pos_abs (speed_of b k) (times.speeds k in_list).0) since)

part_of_slope : (b : Book) (s : Station) (year k : ℕ) (m : ℤ) → AreTimes b → k < length b.constituents
    → IsSince b.first_year year m → fall_at (minutes_into b.first_year year m) (wave_of b s year k)
    ≡ (amplitude_of b s year k *ℤ speed_of b k) *ℤ isin_of (phase_of b s year m k)
part_of_slope b s year k m times in_list since =
    ap (λ p. (amplitude_of b s year k *ℤ pos (unsigned_abs (speed_of b k))) *ℤ isin_of p)
    (phase_onward b s year m k (unsigned_abs (speed_of b k)) (pos_abs (speed_of b k) (times.speeds k in_list).0) since)
    ∙ ap (λ w. (amplitude_of b s year k *ℤ w) *ℤ isin_of (phase_of b s year m k)) (pos_abs (speed_of b k) (times.speeds k in_list).0)

-- the sums over the waves of a year are those over all constituents
heights_same : (b : Book) (s : Station) (year : ℕ) (m : ℤ) → AreTimes b → IsSince b.first_year year m
    → heights_of (minutes_into b.first_year year m) (waves_of b s year)
    ≡ fold (λ sum k. sum +ℤ (amplitude_of b s year k *ℤ icos_of (phase_of b s year m k))) (pos 0) (constituents_of b)
unfolding waves_of
heights_same b s year m times since =
    let t = minutes_into b.first_year year m in
    fold-map (λ sum h. sum +ℤ height_at t h) (wave_of b s year) (pos 0) (constituents_of b)
    ∙ sums_same (λ k. height_at t (wave_of b s year k))
    (λ k. amplitude_of b s year k *ℤ icos_of (phase_of b s year m k)) (constituents_of b)
    (each_below (λ k. height_at t (wave_of b s year k)) (λ k. amplitude_of b s year k *ℤ icos_of (phase_of b s year m k))
    (length b.constituents) (λ k h. part_of_level b s year k m times h since)) (pos 0)

falls_same : (b : Book) (s : Station) (year : ℕ) (m : ℤ) → AreTimes b → IsSince b.first_year year m
    → falls_of (minutes_into b.first_year year m) (waves_of b s year) ≡ fold (λ sum k.
    sum +ℤ ((amplitude_of b s year k *ℤ speed_of b k) *ℤ isin_of (phase_of b s year m k))) (pos 0) (constituents_of b)
unfolding waves_of
falls_same b s year m times since =
    let t = minutes_into b.first_year year m in
    fold-map (λ sum h. sum +ℤ fall_at t h) (wave_of b s year) (pos 0) (constituents_of b)
    ∙ sums_same (λ k. fall_at t (wave_of b s year k))
    (λ k. (amplitude_of b s year k *ℤ speed_of b k) *ℤ isin_of (phase_of b s year m k)) (constituents_of b)
    (each_below (λ k. fall_at t (wave_of b s year k)) (λ k. (amplitude_of b s year k *ℤ speed_of b k) *ℤ isin_of (phase_of b s year m k))
    (length b.constituents) (λ k h. part_of_slope b s year k m times h since)) (pos 0)

pub year_level_is : (b : Book) (s : Station) (m : ℤ) (year : ℕ) → AreTimes b → IsSince b.first_year year m
    → predicted_year_level b s m year
    ≡ (pos (10 ^ 9) *ℤ s.datum) +ℤ heights_of (minutes_into b.first_year year m) (waves_of b s year)
unfolding predicted_year_level
year_level_is b s m year times since = ap (λ h. (pos (10 ^ 9) *ℤ s.datum) +ℤ h) (sym (heights_same b s year m times since))

pub year_slope_is : (b : Book) (s : Station) (m : ℤ) (year : ℕ) → AreTimes b → IsSince b.first_year year m
    → predicted_year_slope b s m year ≡ neg_ℤ (falls_of (minutes_into b.first_year year m) (waves_of b s year))
unfolding predicted_year_slope
year_slope_is b s m year times since = ap neg_ℤ (sym (falls_same b s year m times since))
