-- The sine by a prepared degree: its gain is too great by so little that only just above a whole
-- billionth the right one may be one less.
use Rattle.std.proofs.Common.{◌≡◌, ℕ, zero, suc, ◌+◌, ◌-◌, ◌*◌, ◌/◌, ◌<◌, ◌≤◌, refl, ap, ◌∙◌, arith, ℤ, pos, negsuc, neg_ℤ, ◌+ℤ◌, ◌-ℤ◌, ◌*ℤ◌, ◌<ℤ◌, min, unsigned_abs}
use Rattle.std.specs.Int.{int_shr}
use Rattle.std.proofs.lemmas.Int.{ints}
use Rattle.std.proofs.lemmas.Nat.{mul-le}
use Rattle.fixed_sine.specs.Workings.Degrees.{bend_at, slope_at, IsReady}
use Rattle.fixed_sine.specs.Sine.{half_of, isin_of}
use Rattle.fixed_sine.specs.Table.{sine_at}
use Rattle.fixed_sine.proofs.CircleLemmas.{isin_of-first, isin_of-second}
use Rattle.fixed_sine.proofs.QuarterLemmas.{minus_times}
use Rattle.fixed_sine.proofs.RowLemmas.{half_of-row}
use Rattle.fixed_sine.proofs.TableLemmas.{correction-size, IsRow}

-- ---- signed numbers as offsets from one below their least value

pub raised : (z : ℤ) (b : ℕ) → unsigned_abs z ≤ b → z +ℤ pos b ≡ pos (unsigned_abs (z +ℤ pos b))
raised z b h = omega (arith, ints)

lifted : (x y n : ℕ) → n + x ≡ y → neg_ℤ (pos x) +ℤ pos y ≡ pos n
lifted zero y n e = omega (arith, ints)
lifted (suc x) y n e = omega (arith, ints)

pub multiplied : (r b n : ℕ) (z : ℤ) → z +ℤ pos b ≡ pos n → (pos r *ℤ z) +ℤ pos (r * b) ≡ pos (r * n)
multiplied r b n (pos a) e =
    let sum : a + b ≡ n = omega (arith, ints) in
    let product : r * (a + b) ≡ r * n = ap (λ k. r * k) sum in
    ap pos (omega (arith, product))
multiplied r b n (negsuc a) e =
    let sum : n + suc a ≡ b = omega (arith, ints) in
    let product : r * (n + suc a) ≡ r * b = ap (λ k. r * k) sum in
    lifted (r * suc a) (r * b) (r * n) (omega (arith, product))

-- a degree in unsigned numbers
pub record IsCounted (r slope bend ready_slope ready_bend lost mean ready : ℕ) : Type 0 where
  pub under : mean * 18446744073709551616 + 1152921504606846976 * 1440000000000000000
      ≤ ready * 1440000000000000000 + 43000000000000000 * 18446744073709551616
  pub approximate : 256 * (ready * 1440000000000000000 + 43000000000000000 * 18446744073709551616) ≤ 256
      * (mean * 18446744073709551616 + 1152921504606846976 * 1440000000000000000) + (512 + r) * 1440000000000000000

pub counted : (r slope bend ready_slope ready_bend lost mean ready : ℕ) → r < 600000000
    → slope * 18446744073709551616 + 576460752303423488 * 1440000000000000000
    ≤ ready_slope * 1440000000000000000 + 42200000000000000 * 18446744073709551616
    → ready_slope * 1440000000000000000 + 42200000000000000 * 18446744073709551616
    ≤ slope * 18446744073709551616 + 576460752303423489 * 1440000000000000000
    → bend * 4722366482869645213696 + 2147483648 * 1440000000000000000
    ≤ ready_bend * 1440000000000000000 + 1000000 * 4722366482869645213696 + 1440000000000000000
    → ready_bend * 1440000000000000000 + 1000000 * 4722366482869645213696 ≤ bend * 4722366482869645213696 + 2147483648 * 1440000000000000000
    → lost ≡ r * ready_bend / 256
    → mean + r * bend ≡ slope + 800000000000000 + r * 1000000
    → ready + lost ≡ ready_slope + 576460752303423488 + r * 8388608
    → IsCounted r slope bend ready_slope ready_bend lost mean ready
counted r slope bend ready_slope ready_bend lost mean ready h steep steeper bent flatter is_lost is_mean is_ready =
    let less = mul-le r (bend * 4722366482869645213696 + 2147483648 * 1440000000000000000) r (ready_bend
    * 1440000000000000000 + 1000000 * 4722366482869645213696 + 1440000000000000000) (omega arith) bent in
    let more = mul-le r (ready_bend * 1440000000000000000 + 1000000 * 4722366482869645213696) r
    (bend * 4722366482869645213696 + 2147483648 * 1440000000000000000) (omega arith) flatter in
    record { under = omega (arith, less, more); approximate = omega (arith, less, more) }

shifted_8 : (z : ℤ) (k n : ℕ) → z +ℤ pos (256 * k) ≡ pos n → int_shr z 8 +ℤ pos k ≡ pos (n / 256)
shifted_8 (pos a) k n e = let sum : a + 256 * k ≡ n = omega (arith, ints) in ap pos (omega arith)
shifted_8 (negsuc a) k n e = let sum : n + suc a ≡ 256 * k = omega (arith, ints) in omega (arith, ints)

-- the decrease of a slope after r units, as an offset
lost-counted : (r b : ℕ) (bend : ℤ) → bend +ℤ pos 2147483648 ≡ pos b → int_shr (pos r *ℤ bend) 8 +ℤ pos (r * 8388608) ≡ pos (r * b / 256)
lost-counted r b bend e =
    let product = multiplied r 2147483648 b bend e in
    shifted_8 (pos r *ℤ bend) (r * 8388608) (r * b) (omega (arith, ints, product))

-- a gain of whole billionths: the product is between it and one more
pub record IsGain (whole product : ℤ) : Type 0 where
  pub under : (whole *ℤ pos 1440000000000000000) <ℤ product
  pub approximate : product <ℤ ((whole *ℤ pos 1440000000000000000) +ℤ pos 1440000000000000000)

-- a product with the prepared slope bounds that with the slope
stated : (r mean ready : ℕ) (whole product exact : ℤ) (rest : ℕ) → r < 600000000
    → mean * 18446744073709551616 + 1152921504606846976 * 1440000000000000000
    ≤ ready * 1440000000000000000 + 43000000000000000 * 18446744073709551616
    → 256 * (ready * 1440000000000000000 + 43000000000000000 * 18446744073709551616) ≤ 256
    * (mean * 18446744073709551616 + 1152921504606846976 * 1440000000000000000) + (512 + r) * 1440000000000000000
    → product +ℤ pos (r * 1152921504606846976) ≡ pos (r * ready)
    → exact +ℤ pos (r * 43000000000000000) ≡ pos (r * mean)
    → (whole *ℤ pos 18446744073709551616) +ℤ pos rest ≡ product
    → 2251799813685248 ≤ rest → rest < 18446744073709551616
    → IsGain whole exact
stated r mean ready whole product exact rest h under approximate is_product is_exact split sure less =
    let low = mul-le r (mean * 18446744073709551616 + 1152921504606846976 * 1440000000000000000) r
    (ready * 1440000000000000000 + 43000000000000000 * 18446744073709551616) (omega arith) under in
    let high = mul-le r (256 * (ready * 1440000000000000000 + 43000000000000000 * 18446744073709551616)) r
    (256 * (mean * 18446744073709551616 + 1152921504606846976 * 1440000000000000000)
    + (512 + r) * 1440000000000000000) (omega arith) approximate in
    let square : r * r ≤ r * 600000000 = mul-le r r r 600000000 (omega arith) (omega arith) in
    record { under = omega (arith, ints, low, high, square); approximate = omega (arith, ints, low, high, square) }

-- the gain over r units by a prepared slope and bend
pub gained : (r : ℕ) (slope bend ready_slope ready_bend whole : ℤ) (rest : ℕ) → r < 600000000 → unsigned_abs ready_slope
    ≤ 540000000000000000 → unsigned_abs ready_bend ≤ 2000000000 → IsReady slope bend ready_slope ready_bend
    → (whole *ℤ pos 18446744073709551616) +ℤ pos rest ≡ pos r *ℤ (ready_slope -ℤ int_shr (pos r *ℤ ready_bend) 8)
    → 2251799813685248 ≤ rest → rest < 18446744073709551616
    → IsGain whole (pos r *ℤ (slope -ℤ (pos r *ℤ bend)))
gained r slope bend ready_slope ready_bend whole rest h small little ready split sure less =
    let steep = ready.slope_least in
    let steeper = ready.slope_most in
    let bent = ready.bend_least in
    let flatter = ready.bend_most in
    let s = unsigned_abs (slope +ℤ pos 42200000000000000) in
    let c = unsigned_abs (bend +ℤ pos 1000000) in
    let p = unsigned_abs (ready_slope +ℤ pos 576460752303423488) in
    let b = unsigned_abs (ready_bend +ℤ pos 2147483648) in
    let is_s = raised slope 42200000000000000 (omega (arith, ints, steep, steeper, small)) in
    let is_c = raised bend 1000000 (omega (arith, ints, bent, flatter, little)) in
    let is_p = raised ready_slope 576460752303423488 (omega (arith, small)) in
    let is_b = raised ready_bend 2147483648 (omega (arith, little)) in
    let most_c : c ≤ 2000000 = omega (arith, ints, bent, flatter, little) in
    let most_b : b ≤ 4294967296 = omega (arith, ints, little) in
    let c_product = mul-le r c r 2000000 (omega arith) most_c in
    let b_product = mul-le r b r 4294967296 (omega arith) most_b in
    let lost = r * b / 256 in
    let mean = (s + 800000000000000 + r * 1000000) - r * c in
    let i = (p + 576460752303423488 + r * 8388608) - lost in
    let is_lost = lost-counted r b ready_bend is_b in
    let bends = multiplied r 1000000 c bend is_c in
    let is_mean : (slope -ℤ (pos r *ℤ bend)) +ℤ pos 43000000000000000 ≡ pos mean = omega (arith, ints, is_s, bends, c_product) in
    let is_i : (ready_slope -ℤ int_shr (pos r *ℤ ready_bend) 8) +ℤ pos 1152921504606846976 ≡ pos i =
    omega (arith, ints, is_p, is_lost, b_product) in
    let count = counted r s c p b lost mean i h (omega (arith, ints, is_s, is_p, steep))
    (omega (arith, ints, is_s, is_p, steeper)) (omega (arith, ints, is_c, is_b, bent))
    (omega (arith, ints, is_c, is_b, flatter)) refl (omega (arith, c_product)) (omega (arith, b_product)) in
    stated r mean i whole _ _ rest h count.under count.approximate
    (multiplied r 1152921504606846976 i (ready_slope -ℤ int_shr (pos r *ℤ ready_bend) 8) is_i)
    (multiplied r 43000000000000000 mean (slope -ℤ (pos r *ℤ bend)) is_mean) split sure less

minus : (z : ℤ) (r : ℕ) → pos r *ℤ neg_ℤ z ≡ neg_ℤ (pos r *ℤ z)
minus (pos n) r = minus_times r n
minus (negsuc n) r = omega (arith, ints)

turned : (r c : ℕ) (slope : ℤ) → pos r *ℤ (neg_ℤ slope -ℤ (pos r *ℤ neg_ℤ (pos c))) ≡ neg_ℤ (pos r *ℤ (slope -ℤ pos (r * c)))
turned r c slope =
    let other : neg_ℤ slope -ℤ neg_ℤ (pos (r * c)) ≡ neg_ℤ (slope -ℤ pos (r * c)) = omega (arith, ints) in
    rw (minus_times r c, other) (minus (slope -ℤ pos (r * c)) r)

pub sine_at-size : (k : ℕ) → pos (unsigned_abs (sine_at (pos k))) ≡ sine_at (pos k)
unfolding sine_at
sine_at-size k = refl

pub row-at : (k : ℕ) → k < 180 → IsRow k (slope_at k) (unsigned_abs (sine_at (pos k))) (bend_at k)
row-at k h =
    record {
      steep = refl;
      here = sine_at-size k;
      bent = correction-size (min k (179 - k)) (omega arith);
    }

-- the sine on the first half of the circle
pub first-sine : (k r : ℕ) (whole sine : ℤ) → k < 180 → r < 600000000 → sine ≡ sine_at (pos k)
    → IsGain whole (pos r *ℤ (slope_at k -ℤ (pos r *ℤ pos (bend_at k)))) → sine +ℤ whole ≡ isin_of (600000000 * k + r)
first-sine k r whole sine h small here gain =
    let under = gain.under in
    let approximate = gain.approximate in
    let value = half_of-row k r (unsigned_abs (sine_at (pos k))) (bend_at k) (slope_at k) whole h small (row-at k h)
    (omega (arith, ints, under)) approximate in
    let half = isin_of-first (600000000 * k + r) (omega arith) in
    omega (arith, ints, sine_at-size k, here, value, half)

-- the sine on the second half, where the stored sine is one more, since gains are rounded to the other
-- side
pub second-sine : (k r : ℕ) (whole sine : ℤ) → k < 180 → r < 600000000 → sine ≡ pos 1 -ℤ sine_at (pos k)
    → IsGain whole (pos r *ℤ (neg_ℤ (slope_at k) -ℤ (pos r *ℤ neg_ℤ (pos (bend_at k)))))
    → sine +ℤ whole ≡ isin_of (600000000 * (k + 180) + r)
second-sine k r whole sine h small here gain =
    let under = rw (turned r (bend_at k) (slope_at k)) at gain.under in
    let approximate = rw (turned r (bend_at k) (slope_at k)) at gain.approximate in
    let value = half_of-row k r (unsigned_abs (sine_at (pos k))) (bend_at k) (slope_at k)
    (neg_ℤ (whole +ℤ pos 1)) h small (row-at k h) (omega (arith, ints, approximate)) (omega (arith, ints, under)) in
    let place : 600000000 * (k + 180) + r - 108000000000 ≡ 600000000 * k + r = omega arith in
    let half = isin_of-second (600000000 * (k + 180) + r) (omega arith) ∙ ap (λ p. neg_ℤ (half_of p)) place in
    omega (arith, ints, sine_at-size k, here, value, half)
