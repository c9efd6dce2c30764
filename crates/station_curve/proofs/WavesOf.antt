-- The waves of a year by the constituents' indices.
use Rattle.std.proofs.Common.{◌≡◌, ℕ, ◌*◌, ◌<◌, ◌≤◌, Bool, true, false, length, get_or, Some, None, ℤ, pos, ◌+ℤ◌, ◌-ℤ◌, refl, ap, ◌∙◌, arith}
use Rattle.std.specs.Prelude.{unsigned_abs, nat_lt, cond}
use Rattle.std.proofs.lemmas.Bool.{lt-ltb, le-ltb, ltb-false}
use Rattle.std.proofs.lemmas.List.FromFn.{get_or-map-range_with_len, length-map-range_with_len}
use Rattle.std.proofs.lemmas.List.Sums.{get_or-le-sum_by}
use Rattle.harmonics_book.specs.declared.book.Station.{Station}
use Rattle.harmonics_book.specs.declared.book.Book.{Book}
use Rattle.station_curve.specs.declared.fault.CurveFault.{CurveFault}
use Rattle.station_curve.specs.declared.fault.CurveFault.TheVariants.{TooLarge, TooSteep}
use Rattle.station_curve.specs.Waves.{WaveSpec, amount_of, steepness_of}
use Rattle.station_curve.specs.Limits.{most_amount, most_steepness}
use Rattle.year_blend.specs.Places.{start_of}
use Rattle.station_curve.specs.Schureman.{amplitude_of, speed_of, phase_of}
use Rattle.station_curve.specs.Curves.{wave_of, waves_of, year_fault}

pub length-waves_of : (b : Book) (s : Station) (year : ℕ) → length (waves_of b s year) ≡ length b.constituents
unfolding waves_of
length-waves_of b s year = length-map-range_with_len (wave_of b s year) 0 (length b.constituents)

pub get_or-waves_of : (b : Book) (s : Station) (year k : ℕ) (d : WaveSpec) → k < length b.constituents
    → get_or (waves_of b s year) k d ≡ wave_of b s year k
unfolding waves_of
get_or-waves_of b s year k d in_list = get_or-map-range_with_len (wave_of b s year) 0 (length b.constituents) k k d in_list (omega arith)

-- the fault of a year beyond a limit
pub fault_large : (b : Book) (s : Station) (year : ℕ) → most_amount < amount_of (waves_of b s year)
    → year_fault b s year ≡ Some (TooLarge (b.first_year +ℤ pos year))
unfolding year_fault
fault_large b s year large = simp (lt-ltb most_amount (amount_of (waves_of b s year)) large)

pub fault_steep : (b : Book) (s : Station) (year : ℕ) → amount_of (waves_of b s year) ≤ most_amount → most_steepness
    < steepness_of (waves_of b s year) → year_fault b s year ≡ Some (TooSteep (b.first_year +ℤ pos year))
unfolding year_fault
fault_steep b s year small steep =
    simp (le-ltb most_amount (amount_of (waves_of b s year)) small, lt-ltb most_steepness (steepness_of (waves_of b s year)) steep)

pub fault_none : (b : Book) (s : Station) (year : ℕ) → amount_of (waves_of b s year) ≤ most_amount
    → steepness_of (waves_of b s year) ≤ most_steepness → year_fault b s year ≡ None
unfolding year_fault
fault_none b s year small flat =
    simp (le-ltb most_amount (amount_of (waves_of b s year)) small, le-ltb most_steepness (steepness_of (waves_of b s year)) flat)

within_limits : (large steep : Bool) (f g : CurveFault) → cond large (Some f) (cond steep (Some g) None) ≡ None
    → (large ≡ false) × (steep ≡ false)
within_limits true steep f g h = cc
within_limits false true f g h = cc
within_limits false false f g h = (refl, refl)

pub none_fault : (b : Book) (s : Station) (year : ℕ) → year_fault b s year ≡ None
    → (amount_of (waves_of b s year) ≤ most_amount) × (steepness_of (waves_of b s year) ≤ most_steepness)
unfolding year_fault
none_fault b s year h =
    let tests = within_limits (nat_lt most_amount (amount_of (waves_of b s year)))
    (nat_lt most_steepness (steepness_of (waves_of b s year))) (TooLarge (b.first_year +ℤ pos year))
    (TooSteep (b.first_year +ℤ pos year)) h in
    (ltb-false most_amount (amount_of (waves_of b s year)) tests.0, ltb-false most_steepness (steepness_of (waves_of b s year)) tests.1)

-- one wave within the limits of all
pub wave_amount : (b : Book) (s : Station) (year k : ℕ) → k < length b.constituents → year_fault b s year ≡ None
    → unsigned_abs (amplitude_of b s year k) ≤ most_amount
wave_amount b s year k in_list none =
    let d = wave_of b s year k in
    let one = get_or-le-sum_by (λ h. unsigned_abs h.amplitude) (waves_of b s year) k d (omega (arith, in_list, length-waves_of b s year)) in
    let is : unsigned_abs (get_or (waves_of b s year) k d).amplitude ≡ unsigned_abs (amplitude_of b s year k) =
    ap (λ h. unsigned_abs h.amplitude) (get_or-waves_of b s year k d in_list) in
    omega (arith, one, is, (none_fault b s year none).0)

pub wave_steepness : (b : Book) (s : Station) (year k : ℕ) → k < length b.constituents → year_fault b s year ≡ None
    → unsigned_abs (amplitude_of b s year k) * unsigned_abs (speed_of b k) ≤ most_steepness
wave_steepness b s year k in_list none =
    let d = wave_of b s year k in
    let one = get_or-le-sum_by (λ h. unsigned_abs h.amplitude * h.speed) (waves_of b s year) k d
    (omega (arith, in_list, length-waves_of b s year)) in
    let is : unsigned_abs (get_or (waves_of b s year) k d).amplitude * (get_or (waves_of b s year) k d).speed
    ≡ unsigned_abs (amplitude_of b s year k) * unsigned_abs (speed_of b k) =
    ap (λ h. unsigned_abs h.amplitude * h.speed) (get_or-waves_of b s year k d in_list) in
    omega (arith, one, is, (none_fault b s year none).1)

-- a wave from its amplitude, speed and phase
pub is_wave : (b : Book) (s : Station) (year k : ℕ) (wave : WaveSpec) (amplitude : ℤ) (speed phase : ℕ) → wave
    ≡ record { amplitude = amplitude; speed = speed; phase = phase } → amplitude ≡ amplitude_of b s year k → pos speed
    ≡ speed_of b k → phase ≡ phase_of b s year (start_of b.first_year year -ℤ pos 60) k → wave ≡ wave_of b s year k
is_wave b s year k wave amplitude speed phase is is_amplitude is_speed is_phase =
    let speed_is : speed ≡ unsigned_abs (speed_of b k) = ap unsigned_abs is_speed in
    is ∙ ap (λ a. record { amplitude = a; speed = speed; phase = phase }) is_amplitude
    ∙ ap (λ v. record { amplitude = amplitude_of b s year k; speed = v; phase = phase }) speed_is
    ∙ ap (λ p. record { amplitude = amplitude_of b s year k; speed = unsigned_abs (speed_of b k); phase = p }) is_phase
