-- A station within the limits, and its present waves.
use Rattle.std.proofs.Common.{◌≡◌, ℕ, zero, suc, ◌+◌, ◌*◌, ◌^◌, ◌<◌, ◌≤◌, Bool, true, false, cond, List, [], ◌∷◌, length, Option, Some, None, ℤ, pos, negsuc, ◌+ℤ◌, ◌*ℤ◌, ◌/◌, inl, inr, refl, sym, ap, ◌∙◌, add-zero, arith}
use Rattle.std.specs.Prelude.{unsigned_abs, filter, fold, nat_eq, All}
use Rattle.std.specs.Option.{option_or}
use Rattle.std.proofs.lemmas.Bool.{eqb-true, cases_lt}
use Rattle.std.proofs.lemmas.Int.{ints}
use Rattle.fixed_sine.specs.Rate.{step_of}
use Rattle.fixed_sine.specs.Sine.{isin_of, icos_of}
use Rattle.fixed_sine.specs.Approximate.{approximate_sine_of}
use Rattle.station_curve.specs.Approximate.{binary_angle_after, binary_angle_ahead, approximate_height_at, approximate_fall_at, approximate_heights_of, approximate_falls_of}
use Rattle.harmonics_book.specs.declared.book.Station.{Station}
use Rattle.harmonics_book.specs.declared.book.Book.{Book}
use Rattle.harmonics_book.specs.Books.{IsBook, IsStation}
use Rattle.station_curve.specs.declared.fault.CurveFault.{CurveFault}
use Rattle.station_curve.specs.Waves.{WaveSpec, phase_at, height_at, fall_at, heights_of, falls_of, amount_of, steepness_of}
use Rattle.station_curve.specs.Sums.{height_rate_of, fall_rate_of, near_of, far_of, sums_of}
use Rattle.station_curve.specs.Limits.{most_amount, most_steepness, AreWithinLimits}
use Rattle.station_curve.specs.Curves.{Prediction, IsWithinLimits, sums_for, waves_for, waves_of, is_touched, waves_over, year_fault, first_fault, AreTimes}
use Rattle.station_curve.specs.Workings.Prepared.{is_present, stored_over}
use Rattle.station_curve.proofs.BookValues.{speed_range}
use Rattle.station_curve.proofs.Products.{abs_span, abs_within}
use Rattle.station_curve.proofs.WavesOf.{none_fault, length-waves_of, get_or-waves_of}
use Rattle.station_curve.proofs.GreatestYear.{greatest-most}
use Rattle.station_curve.proofs.YearChanges.{near_bound, far_bound}
use Rattle.station_curve.specs.Errors.{greatest_amount, greatest_steepness}
use Rattle.station_curve.specs.Schureman.{speed_of}

-- a sum over the present waves is that over all, if absent ones add nothing
with_first : {B : Type 0} (add : B → WaveSpec → B) → ((a : B) (h : WaveSpec) → h.amplitude ≡ pos 0 → add a h ≡ a)
    → (a : B) (h : WaveSpec) (hs : List WaveSpec) → ((x : B) → fold add x (filter is_present hs) ≡ fold add x hs)
    → (absent : Bool) → nat_eq (unsigned_abs h.amplitude) 0 ≡ absent
    → fold add a (filter is_present (h ∷ hs)) ≡ fold add a (h ∷ hs)
with_first add none a h hs rest false e = rw e (rest (add a h))
with_first add none a h hs rest true e =
    let zero_size : unsigned_abs h.amplitude ≡ 0 = eqb-true (unsigned_abs h.amplitude) 0 e in
    let nothing : h.amplitude ≡ pos 0 = omega (arith, ints, zero_size) in
    rw e (rest a ∙ ap (λ x. fold add x hs) (sym (none a h nothing)))

pub fold-present : {B : Type 0} (add : B → WaveSpec → B) → ((a : B) (h : WaveSpec) → h.amplitude ≡ pos 0 → add a h ≡ a)
    → (a : B) (hs : List WaveSpec) → fold add a (filter is_present hs) ≡ fold add a hs
fold-present add none a [] = refl
fold-present add none a (h ∷ hs) = with_first add none a h hs (λ x. fold-present add none x hs) (nat_eq (unsigned_abs h.amplitude) 0) refl

pub amount-present : (hs : List WaveSpec) → amount_of (filter is_present hs) ≡ amount_of hs
amount-present hs = fold-present (λ a h. a + unsigned_abs h.amplitude) (λ a h e. ap (λ z. a + unsigned_abs z) e ∙ add-zero a) 0 hs

pub steepness-present : (hs : List WaveSpec) → steepness_of (filter is_present hs) ≡ steepness_of hs
steepness-present hs = fold-present (λ a h. a + unsigned_abs h.amplitude * h.speed)
    (λ a h e. ap (λ z. a + unsigned_abs z * h.speed) e ∙ omega arith) 0 hs

pub near-present : (hs : List WaveSpec) → near_of (filter is_present hs) ≡ near_of hs
near-present hs = fold-present (λ a h. a + height_rate_of h) (λ a h e. ap (λ z. a + unsigned_abs z * step_of h.speed) e ∙ omega arith) 0 hs

pub far-present : (hs : List WaveSpec) → far_of (filter is_present hs) ≡ far_of hs
far-present hs = fold-present (λ a h. a + fall_rate_of h)
    (λ a h e. ap (λ z. a + unsigned_abs z * h.speed * step_of h.speed) e ∙ omega arith) 0 hs

pub sums-present : (hs : List WaveSpec) → sums_of (filter is_present hs) ≡ sums_of hs
sums-present hs = simp (amount-present hs, steepness-present hs, near-present hs, far-present hs)

-- absent waves add nothing to level and slope
zero_times : (z : ℤ) → pos 0 *ℤ z ≡ pos 0
zero_times (pos n) = ap pos (omega arith)
zero_times (negsuc n) = omega (arith, ints)

-- a sum of parts that are 0 for an absent wave
parts-present : (f : WaveSpec → ℤ) → ((h : WaveSpec) → h.amplitude ≡ pos 0 → f h ≡ pos 0) → (hs : List WaveSpec)
    → fold (λ sum h. sum +ℤ f h) (pos 0) (filter is_present hs) ≡ fold (λ sum h. sum +ℤ f h) (pos 0) hs
parts-present f none hs = fold-present (λ sum h. sum +ℤ f h) (λ a h e. ap (λ z. a +ℤ z) (none h e) ∙ add_none a) (pos 0) hs
  where
    add_none : (a : ℤ) → a +ℤ pos 0 ≡ a
    add_none a = omega (arith, ints)

-- products by an amplitude of 0
none_times : (a z : ℤ) → a ≡ pos 0 → a *ℤ z ≡ pos 0
none_times a z e = ap (λ a. a *ℤ z) e ∙ zero_times z

none_twice : (a y z : ℤ) → a ≡ pos 0 → (a *ℤ y) *ℤ z ≡ pos 0
none_twice a y z e = none_times (a *ℤ y) z (none_times a y e)

pub heights-present : (t : ℕ) (hs : List WaveSpec) → heights_of t (filter is_present hs) ≡ heights_of t hs
heights-present t hs = parts-present (height_at t) (λ h. none_times h.amplitude (icos_of (phase_at h t))) hs

pub falls-present : (t : ℕ) (hs : List WaveSpec) → falls_of t (filter is_present hs) ≡ falls_of t hs
falls-present t hs = parts-present (fall_at t) (λ h. none_twice h.amplitude (pos h.speed) (isin_of (phase_at h t))) hs

pub approximate_heights-present : (t : ℕ) (hs : List WaveSpec)
    → approximate_heights_of t (filter is_present hs) ≡ approximate_heights_of t hs
approximate_heights-present t hs =
    parts-present (approximate_height_at t) (λ h. none_times h.amplitude (approximate_sine_of (binary_angle_ahead h t))) hs

pub approximate_falls-present : (t : ℕ) (hs : List WaveSpec) → approximate_falls_of t (filter is_present hs) ≡ approximate_falls_of t hs
approximate_falls-present t hs =
    parts-present (approximate_fall_at t)
    (λ h. none_twice h.amplitude (pos (h.speed / 2 ^ 9)) (approximate_sine_of (binary_angle_after h t))) hs

-- no year before the last is beyond a limit
both_none : (a b : Option CurveFault) → option_or a b ≡ None → (a ≡ None) × (b ≡ None)
both_none None b h = (refl, h)
both_none (Some x) b h = cc

pub no_fault : (b : Book) (s : Station) (years k : ℕ) → first_fault b s years ≡ None → k < years → year_fault b s k ≡ None
unfolding first_fault
no_fault b s zero k h below = absurd (omega (arith, below))
no_fault b s (suc years) k h below =
    let parts = both_none (first_fault b s years) (year_fault b s years) h in
    elim (cases_lt k years) [
      | inl before ↦ no_fault b s years k parts.0 before
      | inr at ↦
          let same : years ≡ k = omega (arith, below, at) in
          rw (← same) parts.1
    ]

-- the waves of a year that is needed or isn't
by_touch : (P : List WaveSpec → Type 0) (touched : Bool) (hs : List WaveSpec) → P [] → P hs → P (cond touched hs [])
by_touch P true hs none all = all
by_touch P false hs none all = none

pub over-either : (P : List WaveSpec → Type 0) (b : Book) (s : Station) (first last : ℤ) (year : ℕ) → P []
    → P (waves_of b s year) → P (waves_over b s first last year)
unfolding waves_over
over-either P b s first last year none all = by_touch P (is_touched b first last year) (waves_of b s year) none all

pub asked-over : (b : Book) (s : Station) (first last : ℤ) (year : ℕ) (asked : Bool) → is_touched b first last year
    ≡ asked → cond asked (filter is_present (waves_of b s year)) [] ≡ stored_over b s first last year
unfolding waves_over
asked-over b s first last year true is = rw is refl
asked-over b s first last year false is = rw is refl

pub asked-amount : (b : Book) (s : Station) (year : ℕ) (asked : Bool) → amount_of (waves_of b s year) ≤ most_amount
    → amount_of (cond asked (filter is_present (waves_of b s year)) []) ≤ most_amount
asked-amount b s year asked small =
    by_touch (λ hs. amount_of hs ≤ most_amount) asked _ (omega arith) (rw (amount-present (waves_of b s year)) small)

pub asked-steepness : (b : Book) (s : Station) (year : ℕ) (asked : Bool) → steepness_of (waves_of b s year)
    ≤ most_steepness → steepness_of (cond asked (filter is_present (waves_of b s year)) []) ≤ most_steepness
asked-steepness b s year asked small =
    by_touch (λ hs. steepness_of hs ≤ most_steepness) asked _ (omega arith) (rw (steepness-present (waves_of b s year)) small)

pub over-touched : (b : Book) (s : Station) (first last : ℤ) (year : ℕ) → is_touched b first last year ≡ true
    → waves_over b s first last year ≡ waves_of b s year
unfolding waves_over
over-touched b s first last year touched = rw touched refl

slow : (b : Book) (s : Station) (year : ℕ) → AreTimes b → All (λ h. h.speed ≤ 3600000000) (waves_of b s year)
slow b s year times k d below =
    let in_list : k < length b.constituents = omega (arith, below, length-waves_of b s year) in
    rw (get_or-waves_of b s year k d in_list) (abs_within (speed_of b k) 0 3600000000 (times.speeds k in_list).0 (times.speeds k in_list).1)

-- a station of a book is within the limits, if no year is beyond one
pub times_of : (b : Book) → IsBook b → AreTimes b
times_of b book = record {
  years = record { least = book.first_year.least; most = book.first_year.most; some = book.some_years; few = book.few_years };
  speeds = λ k in_list. speed_range b k book in_list;
}

pub limits_of : (b : Book) (s : Station) → IsBook b → IsStation (length b.constituents) s → first_fault b s b.years ≡ None → IsWithinLimits b s
limits_of b s book station none =
    let within = λ (year : ℕ) (below : year < b.years). none_fault b s year (no_fault b s b.years year none below) in
    record {
      times = times_of b book;
      datum = abs_span s.datum 9999999999 station.datum.least station.datum.most;
      amounts = λ year below. (within year below).0;
      steepnesses = λ year below. (within year below).1;
    }

-- the waves of a year of a station within the limits
pub year_within : (b : Book) (s : Station) (year : ℕ) → IsWithinLimits b s → year < b.years
    → (amount_of (waves_of b s year) ≤ most_amount) × (steepness_of (waves_of b s year) ≤ most_steepness)
year_within b s year limits below = (limits.amounts year below, limits.steepnesses year below)

near_small : (near steep amount : ℕ) → 600000000 * near ≤ 17454000 * steep + 600000000 * amount → steep ≤ 10 ^ 17
    → amount ≤ 10 ^ 9 → near ≤ 3 * 10 ^ 15
near_small near steep amount bound flat small = omega arith

pub sums_within_limits : (b : Book) (s : Station) (year : ℕ) → IsWithinLimits b s → year < b.years
    → AreWithinLimits (sums_of (waves_of b s year))
sums_within_limits b s year limits below =
    let hs = waves_of b s year in
    let within = year_within b s year limits below in
    record {
      amount = within.0;
      steep = within.1;
      near = near_small (near_of hs) (steepness_of hs) (amount_of hs) (near_bound hs) within.1 within.0;
      far = omega (arith, far_bound hs (slow b s year limits.times), within.1);
    }

pub sums_for_within : (c : Prediction) (year : ℕ) → IsWithinLimits c.book c.station → year < c.book.years → AreWithinLimits (sums_for c year)
sums_for_within c year limits below =
    over-either (λ hs. AreWithinLimits (sums_of hs)) c.book c.station c.first c.last year
    (record { amount = omega arith; steep = omega arith; near = omega arith; far = omega arith })
    (sums_within_limits c.book c.station year limits below)

pub waves_for_within : (c : Prediction) (year : ℕ) → IsWithinLimits c.book c.station → year < c.book.years
    → (amount_of (waves_for c year) ≤ most_amount) × (steepness_of (waves_for c year) ≤ most_steepness)
waves_for_within c year limits below =
    over-either (λ hs. (amount_of hs ≤ most_amount) × (steepness_of hs ≤ most_steepness)) c.book c.station c.first c.last year
    (omega arith, omega arith) (year_within c.book c.station year limits below)

pub amount_small : (c : Prediction) → IsWithinLimits c.book c.station → greatest_amount c ≤ 10 ^ 9
amount_small c limits =
    greatest-most (λ year. amount_of (waves_for c year)) c.book.years (10 ^ 9) (λ year below. (waves_for_within c year limits below).0)

pub steepness_small : (c : Prediction) → IsWithinLimits c.book c.station → greatest_steepness c ≤ 10 ^ 17
steepness_small c limits =
    greatest-most (λ year. steepness_of (waves_for c year)) c.book.years (10 ^ 17) (λ year below. (waves_for_within c year limits below).1)
