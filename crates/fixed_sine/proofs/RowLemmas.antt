-- The sine on the first half of the circle by a degree's row: its sine, its correction and its slope,
-- which is negative after 90.
use Rattle.std.proofs.Common.{◌≡◌, ℕ, ◌+◌, ◌-◌, ◌*◌, ◌/◌, ◌<◌, ◌≤◌, min, inl, inr, sym, ap, ◌∙◌, arith, ℤ, pos, neg_ℤ, ◌+ℤ◌, ◌-ℤ◌, ◌*ℤ◌, ◌≤ℤ◌, ◌<ℤ◌, unsigned_abs, get_or, nat_le, to_z, of_z, w64}
use Rattle.std.proofs.lemmas.Bool.{cases_lt, cond-false, lt-leb}
use Rattle.std.proofs.lemmas.Int.{ints}
use Rattle.std.proofs.lemmas.Nat.{mul-le}
use Rattle.fixed_sine.specs.Table.{sines, sine_at, correction}
use Rattle.fixed_sine.specs.Sine.{half_of}
use Rattle.fixed_sine.proofs.TableLemmas.{sines_rise, correction-size, IsRow}
use Rattle.fixed_sine.proofs.QuarterLemmas.{sine_at-entry, rise-entries, minus_times, by_slope}
use Rattle.fixed_sine.proofs.RateLemmas.{num, formula, num-formula, half_num, half_num-first, half_num-second, half_of-num}

-- a row whose sine rises, and one whose sine falls from s + u to s
record Rises (k : ℕ) (slope : ℤ) (sine size : ℕ) : Type 0 where
  steep : slope ≡ pos (2400000000 * (get_or sines (k + 1) 0 - get_or sines k 0) + 600000000 * size)
  here : sine ≡ get_or sines k 0
  bent : size ≡ unsigned_abs (correction k)

record Falls (k : ℕ) (slope : ℤ) (sine size : ℕ) : Type 0 where
  steep : slope +ℤ pos (2400000000 * (get_or sines (k + 1) 0 - get_or sines k 0)) ≡ pos (600000000 * size)
  here : sine ≡ get_or sines k 0 + (get_or sines (k + 1) 0 - get_or sines k 0)
  bent : size ≡ unsigned_abs (correction k)

bent-at : (j k size : ℕ) → j < 90 → k ≡ j → correction k ≡ neg_ℤ (pos size) → size ≡ unsigned_abs (correction j)
bent-at j k size h e size_is = omega (arith, ints, ap correction e, correction-size j h, size_is)

risen : (k sine size : ℕ) (slope : ℤ) → k < 90 → IsRow k slope sine size → Rises k slope sine size
risen k sine size slope h row =
    let least : min k (179 - k) ≡ k = omega arith in
    let up = rise-entries k h in
    let entry = sine_at-entry k (omega arith) in
    let steep = row.steep in
    let here = row.here in
    record {
      steep = rw up at steep;
      here = omega (arith, ints, entry, here);
      bent = bent-at k (min k (179 - k)) size h least row.bent;
    }

sine_at-second : (k : ℕ) → 90 < k → sine_at (pos k) ≡ pos (get_or sines (180 - k) 0)
unfolding sine_at
sine_at-second k h = ap (λ j. pos (get_or sines j 0)) (cond-false (nat_le k 90) k (180 - k) (lt-leb k 90 h))

sine_at-mirrored : (k j : ℕ) → 90 ≤ k → k + j ≡ 180 → sine_at (pos k) ≡ pos (get_or sines j 0)
sine_at-mirrored k j h e =
    elim (cases_lt 90 k) [
      | inl past ↦ sine_at-second k past ∙ ap (λ i. pos (get_or sines i 0)) (omega arith)
      | inr at ↦ (let same : k ≡ j = omega arith in
          sine_at-entry k (omega arith) ∙ ap (λ i. pos (get_or sines i 0)) same)
    ]

fall : (slope a b : ℤ) (s n size : ℕ) → slope ≡ (pos 2400000000 *ℤ (b -ℤ a)) +ℤ pos size → a ≡ pos n → b ≡ pos s → s ≤ n
    → slope +ℤ pos (2400000000 * (n - s)) ≡ pos size
fall slope a b s n size e is_a is_b h = omega (arith, ints, e, is_a, is_b, h)

fallen : (k j sine size : ℕ) (slope : ℤ) → 90 ≤ k → k + j ≡ 179 → IsRow k slope sine size → Falls j slope sine size
fallen k j sine size slope h e row =
    let least : min k (179 - k) ≡ j = omega arith in
    let before = sine_at-mirrored k (j + 1) h (omega arith) in
    let after = sine_at-mirrored (k + 1) j (omega arith) (omega arith) in
    let up = (sines_rise j (omega arith)).up in
    let here = row.here in
    record {
      steep = fall slope (sine_at (pos k)) (sine_at (pos (k + 1))) _ _ _ row.steep before after up;
      here = omega (arith, ints, before, here, up);
      bent = bent-at j (min k (179 - k)) size (omega arith) least row.bent;
    }

-- the formula after 90 degrees, from the degree's other end
turned : (r q s u c m : ℕ) → r + q ≡ 600000000 → m + q * c ≡ 2400000000 * u → formula s u c q + r * m ≡ 1440000000000000000 * (s + u)
unfolding formula
turned r q s u c m sum slope =
    let other : 600000000 - q ≡ r = omega arith in
    let bent : q * (600000000 - q) * c ≡ q * r * c = ap (λ n. q * n * c) other in
    let steep : r * m + r * (q * c) ≡ r * (2400000000 * u) = sym (ap (λ n. r * n) (sym slope) ∙ (omega arith)) in
    let whole : 600000000 * u ≡ r * u + q * u = ap (λ n. n * u) (sym sum) ∙ (omega arith) in
    omega (arith, bent, steep, whole)

added : (n m s : ℕ) (p : ℤ) → n ≡ s + m → p ≡ pos m → pos n ≡ pos s +ℤ p
added n m s p e is = omega (arith, ints, e, is)

taken : (n m s : ℕ) (p : ℤ) → n + m ≡ s → p ≡ neg_ℤ (pos m) → pos n ≡ pos s +ℤ p
taken n m s p e is = omega (arith, ints, e, is)

half-risen : (k r sine size : ℕ) (slope : ℤ) → k < 90 → r < 600000000 → Rises k slope sine size
    → pos (half_num (600000000 * k + r)) ≡ pos (1440000000000000000 * sine) +ℤ (pos r *ℤ (slope -ℤ pos (r * size)))
unfolding formula
half-risen k r sine size slope h small row =
    let u = get_or sines (k + 1) 0 - get_or sines k 0 in
    let m = (2400000000 * u + 600000000 * size) - r * size in
    let little : r * size ≤ 600000000 * size = mul-le r size 600000000 size (omega arith) (omega arith) in
    let steep : slope -ℤ pos (r * size) ≡ pos m = omega (arith, ints, row.steep, little) in
    let number = half_num-first (600000000 * k + r) (omega arith) ∙ num-formula k r h (omega arith) in
    let bent : r * (600000000 - r) * unsigned_abs (correction k) ≡ r * (600000000 - r) * size =
    ap (λ c. r * (600000000 - r) * c) (sym row.bent) in
    let start : 1440000000000000000 * get_or sines k 0 ≡ 1440000000000000000 * sine = ap (λ n. 1440000000000000000 * n) (sym row.here) in
    added _ (r * m) _ _ (omega (arith, number, bent, start, by_slope r u size (omega arith))) (ap (λ z. pos r *ℤ z) steep)

half-fallen : (k j r sine size : ℕ) (slope : ℤ) → k + j ≡ 179 → j < 90 → r < 600000000 → Falls j slope sine size
    → pos (half_num (600000000 * k + r)) ≡ pos (1440000000000000000 * sine) +ℤ (pos r *ℤ (slope -ℤ pos (r * size)))
half-fallen k j r sine size slope e h small row =
    let s = get_or sines j 0 in
    let u = get_or sines (j + 1) 0 - s in
    let q = 600000000 - r in
    let m = 2400000000 * u - q * size in
    let enough : size ≤ 4 * u = rw row.bent (sines_rise j h).enough in
    let bound : q * size ≤ 600000000 * (4 * u) = mul-le q size 600000000 (4 * u) (omega arith) enough in
    let split : 600000000 * size ≡ r * size + q * size =
    ap (λ n. n * size) (let sum : 600000000 ≡ r + q = omega arith in sum) ∙ (omega arith) in
    let steep : slope -ℤ pos (r * size) ≡ neg_ℤ (pos m) = omega (arith, ints, row.steep, bound, split) in
    let place : 108000000000 - (600000000 * k + r) ≡ 600000000 * j + q = omega arith in
    let number = half_num-second (600000000 * k + r) (omega arith) ∙ ap num place ∙ num-formula j q h (omega arith)
    ∙ ap (λ c. formula s u c q) (sym row.bent) in
    let whole = turned r q s u size m (omega arith) (omega (arith, bound)) in
    let top : 1440000000000000000 * (s + u) ≡ 1440000000000000000 * sine = ap (λ n. 1440000000000000000 * n) (sym row.here) in
    taken _ (r * m) _ _ (ap (λ n. n + r * m) number ∙ whole ∙ top) (ap (λ z. pos r *ℤ z) steep ∙ minus_times r m)

pub half_num-row : (k r sine size : ℕ) (slope : ℤ) → k < 180 → r < 600000000 → IsRow k slope sine size
    → pos (half_num (600000000 * k + r)) ≡ pos (1440000000000000000 * sine) +ℤ (pos r *ℤ (slope -ℤ pos (r * size)))
half_num-row k r sine size slope h small row =
    elim (cases_lt k 90) [
      | inl first ↦ half-risen k r sine size slope first small (risen k sine size slope first row)
      | inr second ↦ (let e : k + (179 - k) ≡ 179 = omega arith in
          half-fallen k (179 - k) r sine size slope e (omega arith) small (fallen k (179 - k) sine size slope second e row))
    ]

rounded : (n s : ℕ) (gain product : ℤ) → pos n ≡ pos (1440000000000000000 * s) +ℤ product
    → (gain *ℤ pos 1440000000000000000) ≤ℤ product → product
    <ℤ ((gain *ℤ pos 1440000000000000000) +ℤ pos 1440000000000000000) → pos (n / 1440000000000000000) ≡ pos s +ℤ gain
rounded n s gain product e least most = omega (arith, ints, e, least, most)

-- the sine r units after k degrees: that of the row, and the gain since
pub half_of-row : (k r sine size : ℕ) (slope gain : ℤ) → k < 180 → r < 600000000 → IsRow k slope sine size
    → (gain *ℤ pos 1440000000000000000) ≤ℤ (pos r *ℤ (slope -ℤ pos (r * size))) → (pos r *ℤ (slope -ℤ pos (r * size)))
    <ℤ ((gain *ℤ pos 1440000000000000000) +ℤ pos 1440000000000000000) → pos sine +ℤ gain ≡ half_of (600000000 * k + r)
half_of-row k r sine size slope gain h small row least most =
    sym (half_of-num (600000000 * k + r) (omega arith)
    ∙ rounded _ sine gain _ (half_num-row k r sine size slope h small row) least most)

-- the sum that the code computes fits 64 bits
pub summed : (here gain z sine : ℤ) → here ≡ sine → sine +ℤ gain ≡ z → unsigned_abs gain ≤ 300000000
    → unsigned_abs z ≤ 1000000000 → to_z w64 (of_z w64 (to_z w64 (of_z w64 here) +ℤ to_z w64 (of_z w64 gain))) ≡ z
summed here gain z sine is_here sum small most = omega (arith, ints)
