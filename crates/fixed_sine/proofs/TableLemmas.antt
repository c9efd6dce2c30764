-- Facts about each entry of the table, each by a test that computes over all entries.
use Rattle.std.proofs.Common.{◌≡◌, ℕ, ◌+◌, ◌-◌, ◌*◌, ◌^◌, ◌<◌, ◌≤◌, Bool, true, ◌&&◌, nat_le, nat_lt, min, refl, arith, ℤ, pos, neg_ℤ, ◌+ℤ◌, ◌-ℤ◌, ◌*ℤ◌, ◌≤ℤ◌, unsigned_abs, get_or, int_le, to_z, of_z, w32, w64}
use Rattle.std.specs.Ordering.{int_eq}
use Rattle.std.proofs.lemmas.Bool.{agree_below_at, leb-true, and_parts}
use Rattle.std.proofs.lemmas.Bool.Decides.{Decides-int_eq}
use Rattle.std.proofs.lemmas.Int.{ints, to_z-of_z, fits_signed_from_abs}
use Rattle.fixed_sine.specs.declared.degrees.TheConstants.{DEGREES}
use Rattle.fixed_sine.specs.declared.table.TheConstants.{CORRECTIONS}
use Rattle.fixed_sine.specs.Workings.Degrees.{bend_at, slope_at, IsReady}
use Rattle.fixed_sine.specs.Table.{sines, sine_at, rise, correction}

le_from_test : (a b : ℤ) → int_le a b ≡ true → a ≤ℤ b
le_from_test a b h = grind (arith, ints)

-- no correction is above 0
unfoldable falls : ℕ → Bool
falls k = int_eq (correction k) (neg_ℤ (pos (unsigned_abs (correction k))))

pub correction-size : (k : ℕ) → k < 90 → correction k ≡ neg_ℤ (pos (unsigned_abs (correction k)))
unfolding falls correction sine_at sines
correction-size k h =
    (Decides-int_eq (correction k) (neg_ℤ (pos (unsigned_abs (correction k))))).0
    (agree_below_at falls (λ _. true) 90 k refl h)

-- the first check of the table
unfoldable gains_little : ℕ → Bool
gains_little k = int_le ((pos 4 *ℤ rise k) +ℤ pos (unsigned_abs (correction k))) (pos (4 * 17454000))

pub rise_bound : (k : ℕ) → k < 90 → ((pos 4 *ℤ rise k) +ℤ pos (unsigned_abs (correction k))) ≤ℤ pos (4 * 17454000)
unfolding gains_little correction sine_at sines
rise_bound k h = le_from_test _ _ (agree_below_at gains_little (λ _. true) 90 k refl h)

-- the squares at k and 90 - k degrees, less their sum at a right angle
unfoldable pub square_gap : ℕ → ℕ
square_gap k =
    unsigned_abs (((sine_at (pos k) *ℤ sine_at (pos k)) +ℤ (sine_at (pos (90 - k)) *ℤ sine_at (pos (90 - k)))) -ℤ pos (10 ^ 18))

unfoldable has_small_gap : ℕ → Bool
has_small_gap k = nat_le (square_gap k) (2 * 10 ^ 9)

pub square_gap_bound : (k : ℕ) → k ≤ 90 → square_gap k ≤ 2 * 10 ^ 9
unfolding has_small_gap square_gap sine_at sines
square_gap_bound k h = leb-true _ _ (agree_below_at has_small_gap (λ _. true) 91 k refl (omega arith))

-- the table rises by at least a quarter of the correction and by less than 2^25, stays at or below 10^9,
-- and is nowhere too steep
unfoldable rises : ℕ → Bool
rises k =
    let here = get_or sines k 0 in
    let next = get_or sines (k + 1) 0 in
    let size = unsigned_abs (correction k) in
    nat_le here next
    && (nat_lt next (here + 33554432)
    && (nat_le size (4 * (next - here))
    && (nat_le next 1000000000 && nat_le (4 * (next - here) + size) 69816000)))

pub record IsRising (here next size : ℕ) : Type 0 where
  pub up : here ≤ next
  pub little : next < here + 33554432
  pub enough : size ≤ 4 * (next - here)
  pub capped : next ≤ 1000000000
  pub bounded : 4 * (next - here) + size ≤ 69816000

pub sines_rise : (k : ℕ) → k < 90 → IsRising (get_or sines k 0) (get_or sines (k + 1) 0) (unsigned_abs (correction k))
unfolding rises correction sine_at sines
sines_rise k h =
    let all = and_parts _ _ (agree_below_at rises (λ _. true) 90 k refl h) in
    let rest = and_parts _ _ all.1 in
    let third = and_parts _ _ rest.1 in
    let last = and_parts _ _ third.1 in
    record {
      up = leb-true _ _ all.0;
      little = leb-true _ _ rest.0;
      enough = leb-true _ _ third.0;
      capped = leb-true _ _ last.0;
      bounded = leb-true _ _ last.1;
    }

-- the corrections of the code are those of the definition
unfoldable has_correction : ℕ → Bool
has_correction k = int_eq (correction k) (neg_ℤ (pos (get_or CORRECTIONS k 0)))

pub correction-entry : (k : ℕ) → k < 90 → correction k ≡ neg_ℤ (pos (get_or CORRECTIONS k 0))
unfolding has_correction correction sine_at sines
correction-entry k h = (Decides-int_eq _ _).0 (agree_below_at has_correction (λ _. true) 90 k refl h)

-- the row of a degree: its slope, its sine and the size of its correction
pub record IsRow (k : ℕ) (slope : ℤ) (sine size : ℕ) : Type 0 where
  pub steep : slope ≡ (pos 2400000000 *ℤ rise k) +ℤ pos (600000000 * size)
  pub here : pos sine ≡ sine_at (pos k)
  pub bent : correction (min k (179 - k)) ≡ neg_ℤ (pos size)

-- the degrees of the code, on either half of the circle
unfoldable is_ready : ℤ → ℤ → ℤ → ℤ → Bool
is_ready slope bend ready_slope ready_bend =
    int_le (slope *ℤ pos (2 ^ 64)) (ready_slope *ℤ pos 1440000000000000000)
    && (int_le (ready_slope *ℤ pos 1440000000000000000) ((slope *ℤ pos (2 ^ 64)) +ℤ pos 1440000000000000000)
    && (int_le (bend *ℤ pos (2 ^ 72)) ((ready_bend *ℤ pos 1440000000000000000) +ℤ pos 1440000000000000000)
    && int_le (ready_bend *ℤ pos 1440000000000000000) (bend *ℤ pos (2 ^ 72))))

ready-parts : (slope bend ready_slope ready_bend : ℤ) → is_ready slope bend ready_slope ready_bend ≡ true
    → IsReady slope bend ready_slope ready_bend
unfolding is_ready
ready-parts slope bend ready_slope ready_bend h =
    let all = and_parts _ _ h in
    let rest = and_parts _ _ all.1 in
    let last = and_parts _ _ rest.1 in
    record {
      slope_least = le_from_test _ _ all.0;
      slope_most = le_from_test _ _ rest.0;
      bend_least = le_from_test _ _ last.0;
      bend_most = le_from_test _ _ last.1;
    }

unfoldable is_first : ℕ → Bool
is_first k =
    let row = get_or DEGREES k (pos 0, pos 0, pos 0) in
    is_ready (slope_at k) (pos (bend_at k)) row.0 row.1 && int_eq row.2 (sine_at (pos k))

unfoldable is_second : ℕ → Bool
is_second k =
    let row = get_or DEGREES (k + 180) (pos 0, pos 0, pos 0) in
    is_ready (neg_ℤ (slope_at k)) (neg_ℤ (pos (bend_at k))) row.0 row.1 && int_eq row.2 (pos 1 -ℤ sine_at (pos k))

unfoldable is_bounded : ℕ → Bool
is_bounded k =
    let row = get_or DEGREES k (pos 0, pos 0, pos 0) in
    nat_le (unsigned_abs row.0) 540000000000000000
    && (nat_le (unsigned_abs row.1) 2000000000 && nat_le (unsigned_abs row.2) 1000000000)

pub degree-first : (k : ℕ) → k < 180 → IsReady (slope_at k) (pos (bend_at k)) (get_or DEGREES k (pos 0, pos 0, pos 0)).0
    (get_or DEGREES k (pos 0, pos 0, pos 0)).1 × ((get_or DEGREES k (pos 0, pos 0, pos 0)).2 ≡ sine_at (pos k))
unfolding is_first is_ready correction sine_at sines
degree-first k h =
    let all = and_parts _ _ (agree_below_at is_first (λ _. true) 180 k refl h) in
    (ready-parts _ _ _ _ all.0, (Decides-int_eq _ _).0 all.1)

pub degree-second : (k : ℕ) → k < 180 → IsReady (neg_ℤ (slope_at k)) (neg_ℤ (pos (bend_at k)))
    (get_or DEGREES (k + 180) (pos 0, pos 0, pos 0)).0 (get_or DEGREES (k + 180) (pos 0, pos 0, pos 0)).1
    × ((get_or DEGREES (k + 180) (pos 0, pos 0, pos 0)).2 ≡ pos 1 -ℤ sine_at (pos k))
unfolding is_second is_ready correction sine_at sines
degree-second k h =
    let all = and_parts _ _ (agree_below_at is_second (λ _. true) 180 k refl h) in
    (ready-parts _ _ _ _ all.0, (Decides-int_eq _ _).0 all.1)

-- the degrees fit their types, with room
pub record Fits (s b n : ℤ) : Type 0 where
  pub slope : unsigned_abs s ≤ 540000000000000000
  pub slope_kept : to_z w64 (of_z w64 s) ≡ s
  pub bend : unsigned_abs b ≤ 2000000000
  pub bend_kept : to_z w32 (of_z w32 b) ≡ b
  pub sine_kept : to_z w32 (of_z w32 n) ≡ n

fitting : (s b n : ℤ) → unsigned_abs s ≤ 540000000000000000 → unsigned_abs b ≤ 2000000000 → unsigned_abs n ≤ 1000000000 → Fits s b n
fitting s b n slope bend sine =
    record {
      slope = slope;
      slope_kept = to_z-of_z w64 s (fits_signed_from_abs w64 s (omega (arith, slope)));
      bend = bend;
      bend_kept = to_z-of_z w32 b (fits_signed_from_abs w32 b (omega (arith, bend)));
      sine_kept = to_z-of_z w32 n (fits_signed_from_abs w32 n (omega (arith, sine)));
    }

pub degree-fits : (k : ℕ) → k < 360 → Fits (get_or DEGREES k (pos 0, pos 0, pos 0)).0
    (get_or DEGREES k (pos 0, pos 0, pos 0)).1 (get_or DEGREES k (pos 0, pos 0, pos 0)).2
unfolding is_bounded
degree-fits k h =
    let all = and_parts _ _ (agree_below_at is_bounded (λ _. true) 360 k refl h) in
    let rest = and_parts _ _ all.1 in
    fitting _ _ _ (leb-true _ _ all.0) (leb-true _ _ rest.0) (leb-true _ _ rest.1)
