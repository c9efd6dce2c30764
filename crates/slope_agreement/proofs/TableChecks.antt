-- The sine's slope is close to the cosine at both ends of each degree, each by a test that computes over
-- the whole table.
use Rattle.std.proofs.Common.{ℕ, ◌+◌, ◌-◌, ◌*◌, ◌<◌, ◌≤◌, Bool, true, nat_le, refl, ap, ◌∙◌, arith, ℤ, ◌≡◌, pos, ◌+ℤ◌, ◌-ℤ◌, ◌*ℤ◌, unsigned_abs, get_or}
use Rattle.std.proofs.lemmas.Bool.{agree_below_at, leb-true}
use Rattle.std.proofs.lemmas.Int.{ints}
use Rattle.fixed_sine.specs.Circle.{degree, radian}
use Rattle.fixed_sine.specs.Table.{sines, sine_at, rise, correction}
use Rattle.fixed_sine.proofs.TableLemmas.{correction-size, sines_rise}
use Rattle.fixed_sine.proofs.QuarterLemmas.{sine_at-entry, rise-entries}

-- the gap at the begin of a degree
unfoldable pub begin_gap : ℕ → ℕ
begin_gap k =
    unsigned_abs ((pos radian *ℤ ((pos 4 *ℤ rise k) -ℤ correction k)) -ℤ (pos (4 * degree) *ℤ sine_at (pos (90 - k))))

unfoldable begins_in_range : ℕ → Bool
begins_in_range k = nat_le (begin_gap k) (4 * degree * 30000)

pub begin_gap_bound : (k : ℕ) → k < 90 → begin_gap k ≤ 4 * degree * 30000
unfolding begins_in_range begin_gap correction sine_at sines
begin_gap_bound k h = leb-true _ _ (agree_below_at begins_in_range (λ _. true) 90 k refl h)

-- the gap at the end of a degree
unfoldable pub end_gap : ℕ → ℕ
end_gap k =
    unsigned_abs ((pos radian *ℤ ((pos 4 *ℤ rise k) +ℤ correction k)) -ℤ (pos (4 * degree) *ℤ sine_at (pos (89 - k))))

unfoldable ends_in_range : ℕ → Bool
ends_in_range k = nat_le (end_gap k) (4 * degree * 30000)

pub end_gap_bound : (k : ℕ) → k < 90 → end_gap k ≤ 4 * degree * 30000
unfolding ends_in_range end_gap correction sine_at sines
end_gap_bound k h = leb-true _ _ (agree_below_at ends_in_range (λ _. true) 90 k refl h)

-- no correction is over 640,000
unfoldable is_little : ℕ → Bool
is_little k = nat_le (unsigned_abs (correction k)) 640000

correction_bound : (k : ℕ) → k < 90 → unsigned_abs (correction k) ≤ 640000
unfolding is_little correction sine_at sines
correction_bound k h = leb-true _ _ (agree_below_at is_little (λ _. true) 90 k refl h)

-- the checks without signs: the rise of the sine over the degree, the size of its correction, the cosine
-- at the end of the degree, and the excess of the cosine at its begin
pub record IsApproximateCosine (gain size end more : ℕ) : Type 0 where
  pub begin_above : 34377467708 * (4 * gain + size) ≤ 2400000000 * (end + more) + 72000000000000
  pub begin_below : 2400000000 * (end + more) ≤ 34377467708 * (4 * gain + size) + 72000000000000
  pub end_above : 34377467708 * (4 * gain) ≤ 34377467708 * size + 2400000000 * end + 72000000000000
  pub end_below : 34377467708 * size + 2400000000 * end ≤ 34377467708 * (4 * gain) + 72000000000000
  pub small : size ≤ 640000

-- a correction is its size with the other sign
unsigned_in_range : (gain size end more : ℕ) (z : ℤ) → z +ℤ pos size ≡ pos 0
    → unsigned_abs ((pos radian *ℤ ((pos 4 *ℤ pos gain) -ℤ z)) -ℤ (pos 2400000000 *ℤ pos (end + more))) ≤ 72000000000000
    → unsigned_abs ((pos radian *ℤ ((pos 4 *ℤ pos gain) +ℤ z)) -ℤ (pos 2400000000 *ℤ pos end)) ≤ 72000000000000
    → size ≤ 640000 → IsApproximateCosine gain size end more
unsigned_in_range gain size end more z is at_begin at_end small = record {
  begin_above = omega (arith, ints, is, at_begin);
  begin_below = omega (arith, ints, is, at_begin);
  end_above = omega (arith, ints, is, at_end);
  end_below = omega (arith, ints, is, at_end);
  small = small;
}

pub approximate_cosine : (k : ℕ) → k < 90 → IsApproximateCosine (get_or sines (k + 1) 0 - get_or sines k 0)
    (unsigned_abs (correction k)) (get_or sines (89 - k) 0) (get_or sines (89 - k + 1) 0 - get_or sines (89 - k) 0)
unfolding begin_gap end_gap
approximate_cosine k h =
    let end = get_or sines (89 - k) 0 in
    let more = get_or sines (89 - k + 1) 0 - end in
    let up = (sines_rise (89 - k) (omega arith)).up in
    let next : get_or sines (90 - k) 0 ≡ end + more =
    ap (λ j. get_or sines j 0) (let e : 90 - k ≡ 89 - k + 1 = omega arith in e) ∙ (omega arith) in
    let begin : sine_at (pos (90 - k)) ≡ pos (end + more) = sine_at-entry (90 - k) (omega arith) ∙ ap pos next in
    let turned : correction k +ℤ pos (unsigned_abs (correction k)) ≡ pos 0 = omega (arith, ints, correction-size k h) in
    unsigned_in_range (get_or sines (k + 1) 0 - get_or sines k 0) (unsigned_abs (correction k)) end more (correction k) turned
    (rw (rise-entries k h, begin) at (begin_gap_bound k h))
    (rw (rise-entries k h, sine_at-entry (89 - k) (omega arith)) at (end_gap_bound k h)) (correction_bound k h)
