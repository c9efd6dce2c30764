-- The sine in the middle of each part of the circle: its table, its size, and its distance from the other
-- sines of the part.
use Rattle.std.proofs.Common.{◌≡◌, ℕ, ◌+◌, ◌-◌, ◌/◌, ◌%◌, ◌<◌, ◌≤◌, map, get_or, inl, inr, refl, ap, ◌∙◌, arith, lit<, ℤ, pos, negsuc, ◌+ℤ◌, ◌-ℤ◌, ◌*ℤ◌, unsigned_abs, to_z, of_z}
use Rattle.std.specs.Int.{int_shr}
use Rattle.std.specs.List.{range_with_len}
use Rattle.std.proofs.lemmas.Bool.{cases_lt}
use Rattle.std.proofs.lemmas.Int.{ints}
use Rattle.std.proofs.lemmas.List.FromFn.{get_or-map-range_with_len}
use mir.Syntax.{w16}
use Rattle.fixed_sine.specs.declared.part_sines.TheConstants.{PART_SINES}
use Rattle.fixed_sine.specs.Table.{sines, sine_at, correction}
use Rattle.fixed_sine.specs.Sine.{scaled_between, quarter_of, half_of, isin_of}
use Rattle.fixed_sine.specs.Rate.{step_of}
use Rattle.fixed_sine.specs.BinaryAngle.{units_of}
use Rattle.fixed_sine.specs.Approximate.{middle_of, part_sine_of, approximate_sine_of}
use Rattle.fixed_sine.proofs.CircleLemmas.{isin_of_size}
use Rattle.fixed_sine.proofs.ProductLemmas.{cast_small}
use Rattle.fixed_sine.proofs.RateLemmas.{rate_law}

table : PART_SINES ≡ map part_sine_of (range_with_len 0 8192)
unfolding part_sine_of isin_of half_of quarter_of scaled_between correction sine_at sines
table = refl

pub part-entry : (k : ℕ) → k < 8192 → get_or PART_SINES k (pos 0) ≡ part_sine_of k
part-entry k h = ap (λ entries. get_or entries k (pos 0)) table ∙ get_or-map-range_with_len part_sine_of 0 8192 k k (pos 0) h (omega arith)

-- ---- a sine rounded to whole 2^15 billionths

rounded-gap : (sum sine : ℤ) → sum ≡ sine +ℤ pos 16384 → unsigned_abs ((pos 32768 *ℤ int_shr sum 15) -ℤ sine) ≤ 16384
rounded-gap (pos n) sine is = omega (arith, ints, is)
rounded-gap (negsuc n) sine is = omega (arith, ints, is)

rounded-size : (sum sine : ℤ) → sum ≡ sine +ℤ pos 16384 → unsigned_abs sine ≤ 1000000000 → unsigned_abs (int_shr sum 15) ≤ 30518
rounded-size (pos n) sine is small = omega (arith, ints, is, small)
rounded-size (negsuc n) sine is small = omega (arith, ints, is, small)

pub part-size : (k : ℕ) → k < 8192 → unsigned_abs (part_sine_of k) ≤ 30518
unfolding part_sine_of
part-size k h =
    rounded-size (isin_of (middle_of k) +ℤ pos 16384) (isin_of (middle_of k)) refl (isin_of_size (middle_of k) (omega (arith, h)))

pub part-kept : (k : ℕ) → k < 8192 → to_z w16 (of_z w16 (get_or PART_SINES k (pos 0))) ≡ part_sine_of k
part-kept k h = rw (part-entry k h) (cast_small w16 (part_sine_of k) 30518 (part-size k h) (lit< tt))

-- ---- half a part is at most 13,183,594 units

half_part-gap : (p q : ℕ) → p ≤ q → q ≤ p + 13183594 → q < 216000000000 → unsigned_abs (isin_of q -ℤ isin_of p) ≤ 383511
unfolding step_of
half_part-gap p q least most below =
    let w = q - p in
    let there : (p + w) % 216000000000 ≡ q = omega (arith, least, below) in
    let rate = rate_law w p (omega (arith, least, below)) in
    let close = rw there at rate in
    omega (arith, close, most)

turned-gap : (a b : ℤ) (n : ℕ) → unsigned_abs (a -ℤ b) ≤ n → unsigned_abs (b -ℤ a) ≤ n
turned-gap a b n close = omega (arith, ints, close)

middle-gap : (m u : ℕ) → m ≤ u + 13183594 → u ≤ m + 13183594 → m < 216000000000 → u < 216000000000
    → unsigned_abs (isin_of m -ℤ isin_of u) ≤ 383511
middle-gap m u before after m_below u_below =
    elim (cases_lt u m) [
      | inl later ↦ half_part-gap u m (omega (arith, later)) before m_below
      | inr earlier ↦ turned-gap (isin_of u) (isin_of m) 383511 (half_part-gap m u earlier after u_below)
    ]

both-gaps : (scaled middle sine : ℤ) → unsigned_abs (scaled -ℤ middle) ≤ 16384 → unsigned_abs (middle -ℤ sine) ≤ 383511
    → unsigned_abs (scaled -ℤ sine) ≤ 400000
both-gaps scaled middle sine rounded moved = omega (arith, ints, rounded, moved)

pub sine-approximate : (binary_angle : ℕ) → binary_angle < 18446744073709551616
    → unsigned_abs ((pos 32768 *ℤ approximate_sine_of binary_angle) -ℤ isin_of (units_of binary_angle)) ≤ 400000
unfolding part_sine_of
sine-approximate binary_angle below =
    let k = binary_angle / 2251799813685248 in
    let m = middle_of k in
    let u = units_of binary_angle in
    both-gaps (pos 32768 *ℤ int_shr (isin_of m +ℤ pos 16384) 15) (isin_of m) (isin_of u)
    (rounded-gap (isin_of m +ℤ pos 16384) (isin_of m) refl)
    (middle-gap m u (omega arith) (omega arith) (omega (arith, below)) (omega (arith, below)))
